-- Laws of streams and graphs, which functions of `laws` promise.
use Rattle.std.specs.Prelude.{◌≡◌, ◌↔◌, ◌⊎◌, ◌<◌, ℕ, true, List, length, Some, Ok, slice_get}
use Rattle.std.specs.List.{AllByRecursion}
use Rattle.class_desc.specs.declared.slot.Slot.TheVariants as slots
use Rattle.class_desc.specs.declared.slot.Item.{Item}
use Rattle.ser_values.specs.declared.node.Node.{Node}
use Rattle.ser_values.specs.declared.node.Node.TheVariants.{Object}
use Rattle.ser_values.specs.declared.value.Part.{Part}
use Rattle.ser_values.specs.Chain.{chain, is_externalizable}
use Rattle.ser_values.specs.Numbered.{IsGraph}
use Rattle.stream_grammar.specs.Reading.{stream_of}
use Rattle.stream_grammar.specs.Spelled.{IsStream}

-- Bytes are a stream of at most one graph.
abbrev pub HaveOneReading : Type 0
HaveOneReading = (nodes others : List Node) (items contents : List Item) (bytes : List ℕ) → IsStream nodes items bytes → IsStream others contents bytes → (nodes ≡ others) × (items ≡ contents)

-- What a stream is of is a graph.
abbrev pub AreOfGraphs : Type 0
AreOfGraphs = (nodes : List Node) (items : List Item) (bytes : List ℕ) → IsStream nodes items bytes → IsGraph nodes items

-- A stream is exactly a list of bytes of which reading from left to right answers the graph; so a fault is answered where they are none.
abbrev pub AreRead : Type 0
AreRead = (nodes : List Node) (items : List Item) (bytes : List ℕ) → IsStream nodes items bytes ↔ AllByRecursion (λ b. b < 256) bytes × (stream_of bytes ≡ Ok (nodes, items))

-- An object of a graph has a part for each description of its class's chain; or its class is externalizable, and it has one part.
abbrev pub HavePartsByChain : Type 0
HavePartsByChain = (nodes : List Node) (items : List Item) → IsGraph nodes items → (number class : ℕ) (parts : List Part) → slice_get nodes number ≡ Some (Object class parts)
    → (length (chain nodes (slots.Node class)) ≡ length parts) ⊎ ((is_externalizable (slice_get nodes class) ≡ true) × (length parts ≡ 1))
