use Rattle.std.proofs.Common.{◌-◌, ◌≤◌, length, not}
use Rattle.std.specs.List.{prefix_len}
use Rattle.lane_kernels.specs.Kernels.{is_due}
use Rattle.lane_kernels.proofs.due.later_run.Given as goal

abbrev pub invariant-loop-at : goal.invariant-loop-at
invariant-loop-at l = (l.at ≤ length l.deadlines) × (l.at ≤ prefix_len (λ end. not (is_due l.now end)) l.deadlines)

abbrev pub decreases-loop-at : goal.decreases-loop-at
decreases-loop-at l = length l.deadlines - l.at
