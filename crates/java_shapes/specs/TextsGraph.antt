-- The graph of a list of texts.
use Rattle.std.specs.Prelude.{◌<◌, ◌^◌, ℕ, suc, List, [], ◌∷◌, ◌++◌, length, map}
use Rattle.mod_utf.specs.Utf.{utf}
use Rattle.class_desc.specs.declared.slot.Slot.{Slot}
use Rattle.class_desc.specs.declared.slot.Slot.TheVariants as slots
use Rattle.class_desc.specs.declared.slot.Item.{Item}
use Rattle.class_desc.specs.declared.slot.Item.TheVariants as items
use Rattle.class_desc.specs.declared.known_class.KnownClass.TheVariants as known
use Rattle.ser_values.specs.declared.value.Values.TheVariants as kinds
use Rattle.ser_values.specs.declared.node.Node.{Node}
use Rattle.ser_values.specs.declared.node.Node.TheVariants.{Text, Array}
use Rattle.ser_values.specs.Ranges.{TextFits}
use Rattle.java_shapes.specs.Fault.{class_node}

-- The slots of these texts, the first of which is the node of this number.
unfoldable pub slots_from : ℕ → List (List ℕ) → List Slot
slots_from at [] = []
slots_from at (name ∷ names) = slots.Node at ∷ slots_from (suc at) names

-- The array's class, and the array of these texts, which follow it.
abbrev pub array_first : List (List ℕ) → List Node
array_first names = class_node known.TextArray [] slots.Null ∷ Array 0 (kinds.Refs (slots_from 2 names)) ∷ []

abbrev pub text_nodes : List (List ℕ) → List Node
text_nodes names = map (λ name. Text name) names

-- The nodes of the graph of a String[] of these texts, in the order of their handles.
unfoldable pub texts_nodes : List (List ℕ) → List Node
texts_nodes names = array_first names ++ text_nodes names

-- its one item: the array
abbrev pub texts_items : List Item
texts_items = items.Ref (slots.Node 1) ∷ []

-- The text's units are in their type's range, and it can be written.
abbrev pub CanBeText : List ℕ → Type 0
CanBeText name = TextFits name × (length (utf name) < 2 ^ 63)
