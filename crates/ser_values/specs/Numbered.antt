-- Graphs: the nodes are numbered in the order in which handles are given when the items are written in order
-- (Java Object Serialization Specification, chapter 6). Those below n have handles.
use Rattle.std.specs.Prelude.{◌≡◌, ℕ, zero, suc, ◌+◌, ◌<◌, ◌≤◌, true, List, [], ◌∷◌, length, Some, slice_get}
use Rattle.class_desc.specs.declared.slot.Slot.TheVariants as slots
use Rattle.class_desc.specs.declared.slot.Item.{Item}
use Rattle.ser_values.specs.declared.node.Node.{Node}
use Rattle.ser_values.specs.declared.limits.TheConstants.{LEVELS, NODES, PARTS}
use Rattle.ser_values.specs.Node.{has, Want, item_wants, before, after, admits, admits_null, takes, inside}
use Rattle.ser_values.specs.Shape.{is_shaped, is_joined, refs_in, parts_in}
use Rattle.ser_values.specs.Ranges.{ItemsFit, NumbersFit, UnitsFit}

-- The unread descriptions, what is wanted, and how many nodes have handles before it is written and afterwards.
abbrev pub Numbering : Type 1
Numbering = List ℕ → Want → ℕ → ℕ → Type 0

-- wants one after the other
abbrev pub NumberAll : (Want → ℕ → ℕ → Type 0) → List Want → ℕ → ℕ → Type 0
NumberAll One [] n m = m ≡ n
NumberAll One (w ∷ ws) n m = (k : ℕ) × One w n k × NumberAll One ws k m

-- Null; a node that has a handle; or a node that gets the next handle once what stands before it has its own.
-- So many levels may still begin; Inner numbers what stands one level down.
pub data Numbers (nodes : List Node) (left : ℕ) (Inner : Numbering) (unread : List ℕ) (w : Want) (n m : ℕ) : Type 0 where
  a_null : w.1 ≡ slots.Null → admits_null w.0 ≡ true → m ≡ n → Numbers nodes left Inner unread w n m
  again : (k : ℕ) (i : Node) → w.1 ≡ slots.Node k → slice_get nodes k ≡ Some i → k < n → takes w.0 (has unread k) i ≡ true → m ≡ n → Numbers nodes left Inner unread w n m
  fresh : (k : ℕ) (i : Node) → w.1 ≡ slots.Node k → slice_get nodes k ≡ Some i → n ≤ k → 0 < left → admits w.0 i ≡ true → is_shaped nodes i ≡ true
      → NumberAll (Inner unread) (before i) n k → NumberAll (Inner (inside unread k i)) (after i) (suc k) m → Numbers nodes left Inner unread w n m

abbrev pub no_numbers : Numbering
no_numbers unread w n m = ⊥

-- At most so many levels deep.
unfoldable pub Numbered : List Node → ℕ → Numbering
Numbered nodes zero unread w n m = Numbers nodes zero no_numbers unread w n m
Numbered nodes (suc d) unread w n m = Numbers nodes (suc d) (Numbered nodes d) unread w n m

-- A graph: its items reach each of its nodes, in the order of the nodes' numbers, within the limits; its numbers are in range, and so
-- are the bytes of its items.
pub record IsGraph (nodes : List Node) (items : List Item) : Type 0 where
  pub numbered : NumberAll (Numbered nodes LEVELS []) (item_wants items) 0 (length nodes)
  pub joined : is_joined items ≡ true
  pub few_nodes : length nodes ≤ NODES
  pub few_parts : parts_in nodes + refs_in items ≤ PARTS
  pub numbers : NumbersFit nodes
  pub units : UnitsFit nodes
  pub bytes : ItemsFit items
