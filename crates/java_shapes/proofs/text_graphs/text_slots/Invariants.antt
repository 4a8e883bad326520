use Rattle.std.proofs.Common.{◌≡◌, ◌++◌, ◌+◌, drop}
use Rattle.java_shapes.specs.TextsGraph.{slots_from}
use Rattle.java_shapes.proofs.text_graphs.text_slots.Given as goal

abbrev pub invariant-loop-name : goal.invariant-loop-name
invariant-loop-name l = record {
  place : l.at ≡ l._name-index + 2;
  rest : l.list ++ slots_from l.at (drop l._name-index l.names) ≡ slots_from 2 l.names;
}
