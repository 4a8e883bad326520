use Rattle.std.proofs.Common.{◌≡◌, ℕ, true, map, take, drop, slice_get}
use Rattle.ser_values.specs.Node.{has}
use Rattle.ser_values.specs.Seen.{Once}
use Rattle.ser_values.specs.Renumber.{place_at, node_or_by}
use Rattle.ser_values.proofs.finishing.take_nodes.Given as goal

abbrev pub invariant-loop-number : goal.invariant-loop-number
invariant-loop-number l = record {
  once : Once (drop l.number-index l.order);
  kept : (j : ℕ) → has (drop l.number-index l.order) j ≡ true → slice_get l.nodes j ≡ slice_get l.initial.nodes j;
  made : l.taken.items ≡ map (λ j. node_or_by (place_at l.places) (slice_get l.initial.nodes j)) (take l.number-index l.order);
}
