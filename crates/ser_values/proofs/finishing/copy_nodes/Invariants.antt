use Rattle.std.proofs.Common.{◌≡◌, map, take, slice_get}
use Rattle.ser_values.specs.Renumber.{place_at, node_or_by}
use Rattle.ser_values.proofs.finishing.copy_nodes.Given as goal

abbrev pub invariant-loop-number : goal.invariant-loop-number
invariant-loop-number l = l.copies.items ≡ map (λ j. node_or_by (place_at l.places) (slice_get l.nodes j)) (take l.number-index l.order)
