use Rattle.wire_io.specs.Pulled.{pull_state}
use Rattle.ser_read.specs.Here.{coming, env}
use Rattle.ser_read.specs.Wants.{wants_at}
use Rattle.ser_read.proofs.InOrder.{taken_asked, gives_asked}
use Rattle.ser_read.proofs.Breaking.{want_caused_of, want_gives_of}
use Rattle.ser_read.proofs.serving.read_wants.Goals as goal

pub returns-clause-cause : goal.returns-clause-cause
returns-clause-cause g c = want_caused_of (pull_state g.S.Source.half c.args.pull.now) (pull_state g.S.Source.half c.read_each.new.pull) (λ end. wants_at end c.args.wants.now) c.read_each.result _ c.read_each.ensures.reads c.read_each.ensures.stops

pub returns-clause-gives : goal.returns-clause-gives
returns-clause-gives g c = want_gives_of g.S.Source.half c.args.pull.now c.read_each.new.pull c.read_each.result (λ end. wants_at end c.args.wants.now) (λ x rest. (x.0, x.1.nodes, x.1.items, rest)) c.read_each.new.pull.within c.read_each.ensures.reads c.read_each.ensures.stops

pub returns-clause-spelled : goal.returns-clause-spelled
returns-clause-spelled g c = taken_asked _ _ c.args.wants.now c.read_each.result c.read_each.ensures.reads

pub returns-clause-complete : goal.returns-clause-complete
returns-clause-complete g c = λ answers nodes bytes rest told here asked.
    gives_asked _ (env g.S.Source.half c.args.pull.now).end c.args.wants.now answers nodes bytes rest (coming g.S.Source.half c.read_each.new.pull) (coming g.S.Source.half c.args.pull.now) c.read_each.result
    (want_gives_of g.S.Source.half c.args.pull.now c.read_each.new.pull c.read_each.result (λ end. wants_at end c.args.wants.now) (λ x rest. (x.0, x.1.nodes, x.1.items, rest)) c.read_each.new.pull.within c.read_each.ensures.reads c.read_each.ensures.stops told) here asked
