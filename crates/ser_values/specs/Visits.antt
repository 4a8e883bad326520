-- The order in which loose nodes get handles when items are written: a list of the numbers of the nodes that have one.
use Rattle.std.specs.Prelude.{◌≡◌, ℕ, zero, suc, ◌<◌, true, false, List, [], ◌∷◌, ◌++◌, Some, slice_get}
use Rattle.class_desc.specs.declared.slot.Slot.TheVariants as slots
use Rattle.ser_values.specs.declared.node.Node.{Node}
use Rattle.ser_values.specs.Node.{has, Want, before, after, admits, admits_null, takes, inside}
use Rattle.ser_values.specs.Shape.{is_shaped}

-- The unread descriptions, what is wanted, and which nodes have handles before it is written and afterwards.
abbrev pub Visiting : Type 1
Visiting = List ℕ → Want → List ℕ → List ℕ → Type 0

-- wants one after the other
abbrev pub VisitAll : (Want → List ℕ → List ℕ → Type 0) → List Want → List ℕ → List ℕ → Type 0
VisitAll One [] order order2 = order2 ≡ order
VisitAll One (w ∷ ws) order order2 = (o : List ℕ) × One w order o × VisitAll One ws o order2

-- Null; a node that has a handle; or a node that gets one once what stands before it has its own.
pub data Visit (nodes : List Node) (left : ℕ) (Inner : Visiting) (unread : List ℕ) (w : Want) (order order2 : List ℕ) : Type 0 where
  a_null : w.1 ≡ slots.Null → admits_null w.0 ≡ true → order2 ≡ order → Visit nodes left Inner unread w order order2
  again : (j : ℕ) (i : Node) → w.1 ≡ slots.Node j → slice_get nodes j ≡ Some i → has order j ≡ true → takes w.0 (has unread j) i ≡ true → order2 ≡ order → Visit nodes left Inner unread w order order2
  fresh : (j : ℕ) (i : Node) (middle : List ℕ) → w.1 ≡ slots.Node j → slice_get nodes j ≡ Some i → has order j ≡ false → 0 < left → admits w.0 i ≡ true → is_shaped nodes i ≡ true
      → VisitAll (Inner unread) (before i) order middle → has middle j ≡ false → VisitAll (Inner (inside unread j i)) (after i) (middle ++ j ∷ []) order2 → Visit nodes left Inner unread w order order2

abbrev pub never : Visiting
never unread w order order2 = ⊥

-- At most so many levels deep.
unfoldable pub Visits : List Node → ℕ → Visiting
Visits nodes zero unread w order order2 = Visit nodes zero never unread w order order2
Visits nodes (suc d) unread w order order2 = Visit nodes (suc d) (Visits nodes d) unread w order order2
