use Rattle.std.proofs.Common.{not, ap, arith}
use Rattle.std.proofs.lemmas.Bool.{le-leb, lt-leb}
use Rattle.lane_kernels.specs.Kernels.{is_due}
use Rattle.lane_kernels.proofs.LongestRuns.{passed_one, stopped_at, passed_all}
use Rattle.lane_kernels.proofs.due.later_from.Goals as goal

pub returns-then-deadlines-i : goal.returns-then-deadlines-i
returns-then-deadlines-i c = stopped_at (λ end. not (is_due c.args.now end)) c.args.deadlines.now c.loop-i.i c.loop-i.invariant (omega arith) (ap not (le-leb _ _ c.if-deadlines-i.true))

pub loop-i-preserved : goal.loop-i-preserved
loop-i-preserved c = passed_one (λ end. not (is_due c.args.now end)) c.args.deadlines.now c.loop-i.i c.loop-i.invariant (omega arith) (ap not (lt-leb _ _ (omega (arith, c.if-deadlines-i.false))))

pub returns : goal.returns
returns c = passed_all (λ end. not (is_due c.args.now end)) c.args.deadlines.now c.loop-i.i c.loop-i.invariant (omega arith)
