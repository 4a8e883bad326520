use Rattle.std.proofs.Common.{◌≤◌, not}
use Rattle.std.specs.List.{prefix_len}
use Rattle.lane_kernels.specs.Kernels.{is_plain}
use Rattle.ser_read.proofs.spelled.other_run.Given as goal

abbrev pub invariant-loop-i : goal.invariant-loop-i
invariant-loop-i l = l.i ≤ prefix_len (λ b. not (is_plain b)) l.bytes
