-- The loose nodes and the items of the graph that is measured.
use Rattle.std.specs.Prelude.{ℕ, zero, suc, ◌+◌, List, [], ◌∷◌, ◌++◌, pos, replicate, codes}
use Rattle.class_desc.specs.declared.desc.ClassDesc.{ClassDesc}
use Rattle.class_desc.specs.declared.field.TypeCode.TheVariants as types
use Rattle.class_desc.specs.declared.slot.Slot.TheVariants as slots
use Rattle.class_desc.specs.declared.slot.Item.{Item}
use Rattle.class_desc.specs.declared.slot.Item.TheVariants as contents
use Rattle.ser_values.specs.declared.value.Value.TheVariants as values
use Rattle.ser_values.specs.declared.value.Values.TheVariants as kinds
use Rattle.ser_values.specs.declared.node.Node.{Node}
use Rattle.ser_values.specs.declared.node.Node.TheVariants.{Text, Desc, Object, Array}

-- `Node`, with the field `next` of the type that the text of number 1 names
abbrev pub node_class : ClassDesc
node_class = record { name = codes "Node"; suid = pos 1; flags = 2; fields = record { code = types.Object; name = codes "next"; type_text = slots.Node 1 } ∷ []; note = []; parent = slots.Null }

-- `[B`
abbrev pub array_class : ClassDesc
array_class = record { name = codes "[B"; suid = pos 1; flags = 2; fields = []; note = []; parent = slots.Null }

-- The class, `LNode;`, and a byte array of zeros after its class.
abbrev pub fixed_nodes : ℕ → List Node
fixed_nodes bytes = Desc node_class ∷ Text (codes "LNode;") ∷ Desc array_class ∷ Array 2 (kinds.Bytes (replicate bytes 0)) ∷ []

-- An object that holds the node of a number.
abbrev pub object_after : ℕ → Node
object_after held = Object 0 (record { values = values.Ref (slots.Node held) ∷ []; note = [] } ∷ [])

-- So many objects after the four nodes: each holds the node before it.
unfoldable pub objects : ℕ → List Node
objects zero = []
objects (suc n) = objects n ++ object_after (n + 3) ∷ []

-- References to so many objects.
unfoldable pub items_after : ℕ → List Item
items_after zero = []
items_after (suc n) = items_after n ++ contents.Ref (slots.Node (n + 4)) ∷ []
