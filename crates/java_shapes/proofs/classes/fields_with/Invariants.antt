use Rattle.std.proofs.Common.{◌≡◌, ◌-◌, ◌++◌, length, drop, map, min}
use Rattle.std.specs.List.{zip}
use Rattle.java_shapes.specs.Put.{field_with}
use Rattle.java_shapes.proofs.classes.fields_with.Given as goal

abbrev pub invariant-loop-at : goal.invariant-loop-at
invariant-loop-at l = record {
  all : l.count ≡ min (length l.fields) (length l.texts);
  rest : l.list ++ map (λ p. field_with p.0 p.1) (zip (drop l.at l.fields) (drop l.at l.texts)) ≡ map (λ p. field_with p.0 p.1) (zip l.fields l.texts);
}

abbrev pub decreases-loop-at : goal.decreases-loop-at
decreases-loop-at l = l.count - l.at
