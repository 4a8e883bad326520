use Rattle.std.proofs.Common.{◌≡◌, length, take, w64}
use Rattle.lane_kernels.specs.Kernels.{signed_words}
use Rattle.lane_kernels.proofs.words.words64_from.Given as goal

abbrev pub invariant-loop-i : goal.invariant-loop-i
invariant-loop-i l = (length l.out ≡ length l.fn.out) × (take l.i l.out ≡ signed_words w64 l.i l.bytes)
