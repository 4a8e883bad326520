-- Each node that gets a handle keeps the rules.
use Rattle.std.proofs.Common.{◌≡◌, ℕ, zero, suc, ◌<◌, ◌≤◌, true, List, [], ◌∷◌, length, Some, slice_get, sym, subst, ◌∙◌, arith, inl, inr}
use Rattle.std.proofs.lemmas.Bool.{cases_lt}
use Rattle.std.proofs.lemmas.Option.{slice_get_within}
use Rattle.class_desc.specs.declared.slot.Item.{Item}
use Rattle.ser_values.specs.declared.node.Node.{Node}
use Rattle.ser_values.specs.Node.{Want, item_wants, before, after, inside}
use Rattle.ser_values.specs.Shape.{is_shaped}
use Rattle.ser_values.specs.Numbered.{Numbering, NumberAll, Numbers, a_null, again, fresh, no_numbers, Numbered, IsGraph}

-- the nodes from n up to m are there, and keep the rules
pub record AreShaped (nodes : List Node) (n m : ℕ) : Type 0 where
  pub ordered : n ≤ m
  pub shaped : (k : ℕ) → n ≤ k → k < m → (i : Node) × (slice_get nodes k ≡ Some i) × (is_shaped nodes i ≡ true)

shaped_none : (nodes : List Node) (n m : ℕ) → m ≡ n → AreShaped nodes n m
shaped_none nodes n m e = record { ordered = omega arith; shaped = λ k low high. absurd (omega arith) }

shaped_two : (nodes : List Node) (n k m : ℕ) → AreShaped nodes n k → AreShaped nodes k m → AreShaped nodes n m
shaped_two nodes n k m p q = record {
  ordered = let a = p.ordered in let b = q.ordered in omega arith;
  shaped = λ j low high. elim (cases_lt j k) [
    | inl less ↦ p.shaped j low less
    | inr more ↦ q.shaped j more high
  ];
}

shaped_one : (nodes : List Node) (k : ℕ) (i : Node) → slice_get nodes k ≡ Some i → is_shaped nodes i ≡ true → AreShaped nodes k (suc k)
shaped_one nodes k i is shaped = record {
  ordered = omega arith;
  shaped = λ j low high. (let same : j ≡ k = omega arith in rw same (i, is, shaped));
}

abbrev IsShaping : List Node → Numbering → Type 0
IsShaping nodes N = (unread : List ℕ) (w : Want) (n m : ℕ) → N unread w n m → AreShaped nodes n m

all_shaped : (nodes : List Node) (N : Numbering) → IsShaping nodes N → (unread : List ℕ) (ws : List Want) (n m : ℕ) → NumberAll (N unread) ws n m → AreShaped nodes n m
all_shaped nodes N shaping unread [] n m h = shaped_none nodes n m h
all_shaped nodes N shaping unread (w ∷ ws) n m h = shaped_two nodes n h.0 m (shaping unread w n h.0 h.1) (all_shaped nodes N shaping unread ws h.0 m h.2)

one_shaped : (nodes : List Node) (left : ℕ) (N : Numbering) → IsShaping nodes N → IsShaping nodes (Numbers nodes left N)
one_shaped nodes left N shaping unread w n m (a_null what ok same) = shaped_none nodes n m same
one_shaped nodes left N shaping unread w n m (again k i what is lt ok same) = shaped_none nodes n m same
one_shaped nodes left N shaping unread w n m (fresh k i what is le lt admitted shaped befores afters) =
    let a = all_shaped nodes N shaping unread (before i) n k befores in
    let b = all_shaped nodes N shaping (inside unread k i) (after i) (suc k) m afters in
    shaped_two nodes n k m a (shaped_two nodes k (suc k) m (shaped_one nodes k i is shaped) b)

numbered_shaped : (nodes : List Node) (d : ℕ) → IsShaping nodes (Numbered nodes d)
unfolding Numbered
numbered_shaped nodes zero unread w n m h = one_shaped nodes zero no_numbers (λ unread w n m h. absurd h) unread w n m h
numbered_shaped nodes (suc d) unread w n m h = one_shaped nodes (suc d) (Numbered nodes d) (numbered_shaped nodes d) unread w n m h

-- A graph's nodes keep the rules.
pub graph_shaped : (nodes : List Node) (items : List Item) → IsGraph nodes items → (k : ℕ) (i : Node) → slice_get nodes k ≡ Some i → is_shaped nodes i ≡ true
graph_shaped nodes items g k i is =
    let all = all_shaped nodes (Numbered nodes 200) (numbered_shaped nodes 200) [] (item_wants items) 0 (length nodes) g.numbered in
    let lt = slice_get_within nodes k i is in
    let found = all.shaped k (omega arith) lt in
    let same : Some found.0 ≡ Some i = sym found.1 ∙ is in
    let one : found.0 ≡ i = cc in
    subst (λ (x : Node). is_shaped nodes x ≡ true) one found.2
