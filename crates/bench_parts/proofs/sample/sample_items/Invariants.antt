use Rattle.std.proofs.Common.{◌≡◌, ◌∷◌}
use Rattle.class_desc.specs.declared.slot.Slot.TheVariants as slots
use Rattle.class_desc.specs.declared.slot.Item.TheVariants as contents
use Rattle.bench_parts.specs.Sample.{items_after}
use Rattle.bench_parts.proofs.sample.sample_items.Given as goal

abbrev pub invariant-loop-i : goal.invariant-loop-i
invariant-loop-i l = l.items ≡ contents.Ref (slots.Node 3) ∷ items_after l.i
