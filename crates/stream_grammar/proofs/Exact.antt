-- What reading a whole stream answers, and when it answers a fault.
use Rattle.std.proofs.Common.{◌≡◌, ◌<◌, ℕ, List, Ok, Err, sym, ◌∙◌}
use Rattle.std.specs.Prelude.{◌↔◌}
use Rattle.std.specs.List.{AllByRecursion}
use Rattle.class_desc.specs.declared.slot.Item.{Item}
use Rattle.ser_values.specs.declared.node.Node.{Node}
use Rattle.ser_values.specs.Numbered.{IsGraph}
use Rattle.stream_grammar.specs.Spelled.{IsStream}
use Rattle.stream_grammar.specs.Reading.{Fault, stream_of}
use Rattle.stream_grammar.proofs.Spelling.{stream_graph}
use Rattle.stream_grammar.proofs.Shrinks.{stream_few}
use Rattle.stream_grammar.proofs.PlainSound.{AreBytes, from_bytes}
use Rattle.stream_grammar.proofs.Complete.{stream_complete}
use Rattle.stream_grammar.proofs.Sound.{Answer, stream_got, stream_sound}

-- Where reading answers a fault, the bytes are no stream of a graph.
pub fault_none : (bytes : List ℕ) (f : Fault) → stream_of bytes ≡ Err f → (nodes : List Node) (items : List Item) → IsStream nodes items bytes → ⊥
fault_none bytes f e nodes items h = let read = sym e ∙ stream_complete nodes items bytes h in absurd cc

-- The nodes and items of a stream are a graph.
pub graph_of_stream : (nodes : List Node) (items : List Item) (bytes : List ℕ) → IsStream nodes items bytes → IsGraph nodes items
graph_of_stream nodes items bytes h =
    let read = stream_got bytes (nodes, items) (from_bytes bytes h.are_bytes) (stream_complete nodes items bytes h) in
    stream_graph nodes items bytes h (stream_few nodes items bytes h) read.1

-- What is read is a graph.
pub read_graph : (bytes : List ℕ) (x : Answer) → AreBytes bytes → stream_of bytes ≡ Ok x → IsGraph x.0 x.1
read_graph bytes x are e = graph_of_stream x.0 x.1 bytes (stream_sound bytes x are e)

-- Exactly the streams are read.
pub are_read : (nodes : List Node) (items : List Item) (bytes : List ℕ) → IsStream nodes items bytes ↔ AllByRecursion (λ b. b < 256) bytes × (stream_of bytes ≡ Ok (nodes, items))
are_read nodes items bytes = (λ h. (h.are_bytes, stream_complete nodes items bytes h), λ e. stream_sound bytes (nodes, items) (from_bytes bytes e.0) e.1)
