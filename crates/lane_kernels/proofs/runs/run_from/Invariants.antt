use Rattle.std.proofs.Common.{◌≤◌}
use Rattle.std.specs.List.{prefix_len}
use Rattle.lane_kernels.specs.Kernels.{is_plain}
use Rattle.lane_kernels.proofs.runs.run_from.Given as goal

abbrev pub invariant-loop-i : goal.invariant-loop-i
invariant-loop-i l = l.i ≤ prefix_len is_plain l.bytes
