use Rattle.std.proofs.Common.{not, sym, ap, ◌∙◌, arith}
use Rattle.lane_kernels.specs.Kernels.{is_plain}
use Rattle.lane_kernels.proofs.LongestRuns.{passed_one, stopped_at, passed_all}
use Rattle.ser_read.proofs.spelled.other_run.Goals as goal

pub returns-then-is_plain-clause-value : goal.returns-then-is_plain-clause-value
returns-then-is_plain-clause-value c = stopped_at (λ b. not (is_plain b)) c.args.bytes.now c.loop-i.i c.loop-i.invariant (omega arith) (ap not (sym c.is_plain.ensures ∙ c.if-is_plain.true))

pub loop-i-preserved : goal.loop-i-preserved
loop-i-preserved c = passed_one (λ b. not (is_plain b)) c.args.bytes.now c.loop-i.i c.loop-i.invariant (omega arith) (ap not (sym c.is_plain.ensures ∙ c.if-is_plain.false))

pub returns-clause-value : goal.returns-clause-value
returns-clause-value c = passed_all (λ b. not (is_plain b)) c.args.bytes.now c.loop-i.i c.loop-i.invariant (omega arith)
