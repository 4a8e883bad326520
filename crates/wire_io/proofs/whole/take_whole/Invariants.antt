use Rattle.std.proofs.Common.{◌≡◌, ◌≤◌, ◌+◌, ◌-◌, length}
use Rattle.wire_io.specs.Wire.{with_front}
use Rattle.wire_io.proofs.whole.take_whole.Given as goal
use Rattle.wire_io.specs.declared.whole.TheConstants.{READ_BLOCK}

abbrev pub invariant-loop-block : goal.invariant-loop-block
invariant-loop-block g l = ((g.S.Source.half l.initial.source).left ≡ with_front l.bytes (g.S.Source.half l.source).left)
    × ((g.S.Source.half l.source).faults ≡ (g.S.Source.half l.initial.source).faults) × (length l.block ≡ READ_BLOCK)
    × (length l.bytes ≤ l.limit + READ_BLOCK) × ((g.S.Source.half l.source).shut ≡ (g.S.Source.half l.initial.source).shut)

abbrev pub decreases-loop-block : goal.decreases-loop-block
decreases-loop-block g l = l.limit + 1 - length l.bytes
