use Rattle.std.proofs.Common.{arith}
use Rattle.rmi_caller.proofs.Colons.{past, found, ended}
use Rattle.rmi_caller.proofs.exception.colon_at.Goals as goal

pub loop-at-preserved : goal.loop-at-preserved
loop-at-preserved c = past c.args.units.now c.loop-at.at (omega (arith, c.loop-at-test.true)) c.if-unit-eq-COLON.false c.loop-at.invariant

pub returns-then-unit-eq-COLON-clause-place : goal.returns-then-unit-eq-COLON-clause-place
returns-then-unit-eq-COLON-clause-place c = found c.args.units.now c.loop-at.at (omega (arith, c.loop-at-test.true)) c.if-unit-eq-COLON.true c.loop-at.invariant

pub returns-clause-place : goal.returns-clause-place
returns-clause-place c = ended c.args.units.now c.loop-at.at (omega (arith, c.loop-at-test.false)) (omega (arith, c.loop-at.auto)) c.loop-at.invariant
