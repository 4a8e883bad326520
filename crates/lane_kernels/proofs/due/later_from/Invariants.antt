use Rattle.std.proofs.Common.{◌≤◌, not}
use Rattle.std.specs.List.{prefix_len}
use Rattle.lane_kernels.specs.Kernels.{is_due}
use Rattle.lane_kernels.proofs.due.later_from.Given as goal

abbrev pub invariant-loop-i : goal.invariant-loop-i
invariant-loop-i l = l.i ≤ prefix_len (λ end. not (is_due l.now end)) l.deadlines
