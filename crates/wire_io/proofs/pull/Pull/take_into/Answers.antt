use Rattle.std.proofs.Common.{arith, []}
use Rattle.wire_io.specs.Pulled.{pull_state}
use Rattle.wire_io.proofs.Pulling.{takes_nothing, gone_on}
use Rattle.wire_io.proofs.pull.Pull.take_into.Goals as goal

pub returns-then-wanted-eq0-clause-gives : goal.returns-then-wanted-eq0-clause-gives
returns-then-wanted-eq0-clause-gives g c = c.take_rest.ensures.gives _ (takes_nothing _)

pub returns-in-Ok-2-clause-gives : goal.returns-in-Ok-2-clause-gives
returns-in-Ok-2-clause-gives g c = gone_on _ _ _ c.args.buf.now c.fill.new.buf _ c.in-Ok.count c.take_rest-in-Ok-2.result c.fill.auto.buf c.in-Ok.ensures.gives.2 c.take_rest-in-Ok-2.ensures.gives

pub returns-in-Err-clause-gives : goal.returns-in-Err-clause-gives
returns-in-Err-clause-gives g c =
    let here = pull_state g.S.Source.half c.args.self.now in
    ([], here, omega arith, λ other. omega (arith, c.if-wanted-eq0.false), takes_nothing here, c.in-Err.ensures.gives.1)
