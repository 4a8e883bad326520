-- Which bytes spell what a list of wants asks for.
use Rattle.std.specs.Prelude.{◌≡◌, ◌+◌, ◌≤◌, ℕ, List, [], ◌∷◌, length, Result, Ok, Err}
use Rattle.wire_io.specs.Pulled.{PullState, Takes}
use Rattle.class_desc.specs.declared.slot.Item.{Item}
use Rattle.class_desc.specs.declared.slot.Item.TheVariants as items
use Rattle.ser_values.specs.declared.node.Node.{Node}
use Rattle.ser_values.specs.declared.graph.Graph.{Graph}
use Rattle.ser_values.specs.declared.limits.TheConstants.{LEVELS, PARTS}
use Rattle.ser_values.specs.Ranges.{NumbersFit, UnitsFit}
use Rattle.ser_values.specs.Shape.{refs_in, parts_in}
use Rattle.ser_read.specs.declared.fault.StreamFault.{StreamFault}
use Rattle.stream_grammar.specs.Spelled.{joined, Spells, SpellsBlocks}
use Rattle.ser_read.specs.Here.{IsOutside}
use Rattle.stream_grammar.specs.Faults.{AreBytes}
use Rattle.ser_read.specs.declared.serving.Want.{Want}
use Rattle.ser_read.specs.declared.serving.Want.TheVariants as wanted

-- answers of the kinds and the lengths that are wanted
abbrev pub Fits : List Want → List Item → Type 0
Fits [] [] = Unit {0}
Fits (wanted.Bytes n ∷ ws) (items.Bytes p ∷ is) = (length p ≡ n) × Fits ws is
Fits (wanted.Slot ∷ ws) (items.Ref s ∷ is) = Fits ws is
Fits _ _ = ⊥

abbrev pub IsSome : Item → Type 0
IsSome (items.Bytes []) = ⊥
IsSome (items.Bytes (b ∷ p)) = Unit {0}
IsSome (items.Ref s) = Unit {0}

-- the last one is no empty block
abbrev pub EndsFull : List Item → Type 0
EndsFull [] = Unit {0}
EndsFull (i ∷ []) = IsSome i
EndsFull (i ∷ j ∷ is) = EndsFull (j ∷ is)

-- The bytes spell the answers to these wants, as blocks in whatever partition and references, which give these nodes their handles in order.
-- They end with no empty block. The nodes' numbers are in range, and with the answers they have not too many parts.
pub record SpellsWants (wants : List Want) (answers : List Item) (nodes : List Node) (bytes : List ℕ) : Type 0 where
  pub are_bytes : AreBytes bytes
  pub fits : Fits wants answers
  pub blocks : List Item
  pub spelled : SpellsBlocks (Spells nodes LEVELS []) blocks 0 bytes [] (length nodes)
  pub full : EndsFull blocks
  pub same : joined answers ≡ joined blocks
  pub numbers : NumbersFit nodes
  pub units : UnitsFit nodes
  pub few_parts : parts_in nodes + refs_in answers ≤ PARTS

-- A front of the bytes was taken, which is a stream of what these wants ask for.
pub record TakesWants (old new : PullState) (wants : List Want) (answers : List Item) (nodes : List Node) (contents : List Item) : Type 0 where
  pub bytes : List ℕ
  pub takes : Takes old new (0xAC ∷ 0xED ∷ 0x00 ∷ 0x05 ∷ bytes)
  pub asked : SpellsWants wants answers nodes bytes
  pub contents_are : contents ≡ joined answers

-- these answers and nodes, with these bytes to come; or a fault of the outside
abbrev pub AnswersWants : List Item → List Node → List ℕ → List ℕ → Result (List Item × Graph) StreamFault → Type 0
AnswersWants answers nodes rest now (Ok x) = (x.0 ≡ answers) × (x.1.nodes ≡ nodes) × (x.1.items ≡ joined answers) × (now ≡ rest)
AnswersWants answers nodes rest now (Err e) = IsOutside e
