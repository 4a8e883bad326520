use Rattle.std.proofs.Common.{sym, ◌∙◌, arith}
use Rattle.lane_kernels.specs.Kernels.{is_plain}
use Rattle.lane_kernels.proofs.LongestRuns.{passed_one, stopped_at, passed_all}
use Rattle.lane_kernels.proofs.runs.run_from.Goals as goal

pub returns-then-not-is_plain : goal.returns-then-not-is_plain
returns-then-not-is_plain c = stopped_at is_plain c.args.bytes.now c.loop-i.i c.loop-i.invariant (omega arith) (sym c.is_plain.ensures ∙ c.if-not-is_plain.true)

pub loop-i-preserved : goal.loop-i-preserved
loop-i-preserved c = passed_one is_plain c.args.bytes.now c.loop-i.i c.loop-i.invariant (omega arith) (sym c.is_plain.ensures ∙ c.if-not-is_plain.false)

pub returns : goal.returns
returns c = passed_all is_plain c.args.bytes.now c.loop-i.i c.loop-i.invariant (omega arith)
