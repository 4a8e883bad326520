use Rattle.std.proofs.Common.{◌≡◌, ap, ℕ, List, length}
use Rattle.ser_read.specs.Wants.{ReaderState}
use Rattle.std.proofs.Math.Logic.{∥∥₁_map}
use Rattle.ser_read.specs.ReaderStand.{stand_of}
use Rattle.ser_read.proofs.Steps.{reads_gives}
use Rattle.ser_read.proofs.Breaking.{reads_env, want_breaks_fails, want_breaks_caused}
use Rattle.ser_read.proofs.Served.{bytes_served}
use Rattle.ser_read.proofs.reader.Reader.bytes_into.Goals as goal

pub invariant_of-self : goal.invariant_of-self
invariant_of-self g c = λ none.
    let old = c.self.invariant none in
    (rw c.in-Ok.ensures.table old.0, ∥∥₁_map old.1 (bytes_served (length c.args.buf.now) (stand_of c.self.inside.stand) (stand_of c.bytes_put.new.stand) c.bytes_put.new.buf c.in-Ok.ensures.reads))

pub returns-in-Ok-clause-env : goal.returns-in-Ok-clause-env
returns-in-Ok-clause-env g c = reads_env g.S.Source.half c.args.pull.now c.bytes_put.new.pull c.in-Ok.ensures.reads c.bytes_put.new.pull.within

pub returns-in-Ok-clause-gives : goal.returns-in-Ok-clause-gives
returns-in-Ok-clause-gives g c = λ none told. let tie : stand_of c.self.inside.stand ≡ c.args.self.now.stand = ap (λ (r : ReaderState). r.stand) c.self.view_is in rw (← tie) (reads_gives g.S.Source.half c.args.pull.now c.bytes_put.new.pull c.in-Ok.ensures.reads c.bytes_put.new.pull.within told)

pub returns-in-Err-clause-cause : goal.returns-in-Err-clause-cause
returns-in-Err-clause-cause g c = λ none. want_breaks_caused (List ℕ) c.in-Err.ensures.stops

pub returns-in-Err-clause-gives : goal.returns-in-Err-clause-gives
returns-in-Err-clause-gives g c = λ none told. let tie : stand_of c.self.inside.stand ≡ c.args.self.now.stand = ap (λ (r : ReaderState). r.stand) c.self.view_is in rw (← tie) (want_breaks_fails g.S.Source.half c.args.pull.now c.bytes_put.new.pull c.in-Err.fault c.in-Err.ensures.stops c.bytes_put.new.pull.within told)
