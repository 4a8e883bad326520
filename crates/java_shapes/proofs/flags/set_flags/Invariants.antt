use Rattle.std.proofs.Common.{◌≡◌, drop}
use Rattle.java_shapes.specs.Flags.{set_flags}
use Rattle.java_shapes.proofs.flags.set_flags.Given as goal

-- With the flags that are left, the nodes are those with all flags.
abbrev pub invariant-loop-place : goal.invariant-loop-place
invariant-loop-place l = record {
  nodes : set_flags l.graph.nodes (drop l.place-index l.places) ≡ set_flags l.initial.graph.nodes l.places;
  items : l.graph.items ≡ l.initial.graph.items;
}
