use Rattle.std.proofs.Common.{◌≡◌, ◌-◌, ◌≤◌, length, take, w32}
use Rattle.lane_kernels.specs.Kernels.{signed_words}
use Rattle.lane_kernels.proofs.words.be_words32.Given as goal

abbrev pub invariant-loop-out : goal.invariant-loop-out
invariant-loop-out l = (l.read ≤ length l.out) × (length l.out ≡ length l.fn.out) × (take l.read l.out ≡ signed_words w32 l.read l.bytes)

abbrev pub decreases-loop-out : goal.decreases-loop-out
decreases-loop-out l = length l.out - l.read
