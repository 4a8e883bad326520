use Rattle.std.proofs.Common.{◌≡◌, ap}
use Rattle.class_desc.specs.declared.slot.Slot.{Slot}
use Rattle.ser_read.specs.Wants.{ReaderState}
use Rattle.std.proofs.Math.Logic.{∥∥₁_map}
use Rattle.ser_read.specs.ReaderStand.{stand_of}
use Rattle.ser_read.proofs.Steps.{reads_gives}
use Rattle.ser_read.proofs.Breaking.{reads_env, want_breaks_fails, want_breaks_caused}
use Rattle.ser_read.proofs.Served.{slot_served}
use Rattle.ser_read.proofs.reader.Reader.slot.Goals as goal

pub invariant_of-self : goal.invariant_of-self
invariant_of-self g c = λ none.
    let old = c.self.invariant none in
    (c.in-Ok.ensures.read, ∥∥₁_map old.1 (slot_served (stand_of c.self.inside.stand) (stand_of c.slot_in.new.stand) c.in-Ok.slot c.in-Ok.ensures.reads))

pub returns-in-Ok-clause-env : goal.returns-in-Ok-clause-env
returns-in-Ok-clause-env g c = reads_env g.S.Source.half c.args.pull.now c.slot_in.new.pull c.in-Ok.ensures.reads c.slot_in.new.pull.within

pub returns-in-Ok-clause-gives : goal.returns-in-Ok-clause-gives
returns-in-Ok-clause-gives g c = λ none told. let tie : stand_of c.self.inside.stand ≡ c.args.self.now.stand = ap (λ (r : ReaderState). r.stand) c.self.view_is in rw (← tie) (reads_gives g.S.Source.half c.args.pull.now c.slot_in.new.pull c.in-Ok.ensures.reads c.slot_in.new.pull.within told)

pub returns-in-Err-clause-cause : goal.returns-in-Err-clause-cause
returns-in-Err-clause-cause g c = λ none. want_breaks_caused Slot c.in-Err.ensures.stops

pub returns-in-Err-clause-gives : goal.returns-in-Err-clause-gives
returns-in-Err-clause-gives g c = λ none told. let tie : stand_of c.self.inside.stand ≡ c.args.self.now.stand = ap (λ (r : ReaderState). r.stand) c.self.view_is in rw (← tie) (want_breaks_fails g.S.Source.half c.args.pull.now c.slot_in.new.pull c.in-Err.fault c.in-Err.ensures.stops c.slot_in.new.pull.within told)
