-- How a registry keeps its bindings: as a map from names to objects, in the order of binding.
use Rattle.std.specs.Prelude.{ℕ, List, Vec, map}
use Rattle.object_ids.specs.declared.ids.ObjId.{ObjId}
use Rattle.rmi_registry.specs.declared.binding.Binding.{Binding}

abbrev pub binding_of : {Z : Type 0} → Vec ℕ Z × ObjId → Binding
binding_of e = record { name = e.0.items; object = e.1 }

-- The bindings of a map's entries.
abbrev pub bindings_of : {Z : Type 0} → List (Vec ℕ Z × ObjId) → List Binding
bindings_of es = map binding_of es
