-- What two readings of the same bytes have in common so far.
use Rattle.std.proofs.Common.{◌≡◌, not, ℕ, zero, suc, ◌<◌, ◌≤◌, ◌⊎◌, Bool, true, false, cond, List, [], ◌∷◌, ◌++◌, Some, Option, slice_get, refl, sym, ap, subst, ◌∙◌, arith, inl, inr}
use Rattle.std.proofs.lemmas.Bool.{cases_lt, and_parts}
use Rattle.class_desc.specs.declared.slot.Slot.{Slot}
use Rattle.class_desc.specs.declared.slot.Slot.TheVariants as slots
use Rattle.ser_values.specs.declared.node.Node.{Node}
use Rattle.ser_values.specs.declared.node.SlotPlace.{SlotPlace}
use Rattle.ser_values.specs.declared.node.SlotPlace.TheVariants as places
use Rattle.ser_values.specs.Node.{has, is_desc, admits, takes, admits_null, inside}
use Rattle.ser_values.proofs.Lists.{has-append_no, has-append_other, some_same, still_not}
use Rattle.stream_grammar.proofs.Leading.{SameAbove, SameChain, SameUp, Chained}
use Rattle.stream_grammar.proofs.Forms.{Whole}

-- The descriptions below n that are read whole are the same in both, with all above them; the unread ones are below n.
pub record IsState (A B : List Node) (unread : List ℕ) (n : ℕ) : Type 0 where
  pub few : n ≤ 65536
  pub below : (k : ℕ) → has unread k ≡ true → k < n
  pub known : (k : ℕ) (i : Node) → k < n → has unread k ≡ false → slice_get A k ≡ Some i → is_desc i ≡ true → SameUp A B (slots.Node k)

-- Two readings from n handles on stop at the same place, with the same nodes.
pub record Agree (A B : List Node) (unread : List ℕ) (n : ℕ) (x y : List ℕ) (m k : ℕ) : Type 0 where
  pub rests : x ≡ y
  pub counts : m ≡ k
  pub ordered : n ≤ m
  pub state : IsState A B unread m
  pub agrees : (j : ℕ) → n ≤ j → j < m → slice_get A j ≡ slice_get B j

pub agree_none : (A B : List Node) (unread : List ℕ) (n : ℕ) (x y : List ℕ) (m k : ℕ) → x ≡ y → m ≡ n → k ≡ n → IsState A B unread n → Agree A B unread n x y m k
agree_none A B unread n x y m k e p q s = record {
  rests = e;
  counts = p ∙ sym q;
  ordered = omega arith;
  state = rw p s;
  agrees = λ j low high. absurd (omega arith);
}

pub agree_two : (A B : List Node) (unread : List ℕ) (n : ℕ) (x y u v : List ℕ) (m k i j : ℕ) → Agree A B unread n x y m k → Agree A B unread m u v i j → Agree A B unread n u v i j
agree_two A B unread n x y u v m k i j a b = record {
  rests = b.rests;
  counts = b.counts;
  ordered = let p = a.ordered in let q = b.ordered in omega arith;
  state = b.state;
  agrees = λ z low high. elim (cases_lt z m) [
    | inl less ↦ a.agrees z low less
    | inr more ↦ b.agrees z more high
  ];
}

-- ---- slots in their places

pub chained_null : (A B : List Node) (p : SlotPlace) (s : Slot) → s ≡ slots.Null → admits_null p ≡ true → Chained A B p s
unfolding admits_null
chained_null A B places.Reference s e h = tt
chained_null A B places.Text s e h = tt
chained_null A B places.Class s e h = absurd cc
chained_null A B places.Parent s e h = rw e go
  where
    go : SameUp A B slots.Null
    go zero = tt
    go (suc n) = tt

pub chained_again : (A B : List Node) (unread : List ℕ) (n k : ℕ) (i : Node) (p : SlotPlace) (s : Slot) → IsState A B unread n → s ≡ slots.Node k → slice_get A k ≡ Some i → k < n → takes p (has unread k) i ≡ true → Chained A B p s
unfolding takes
chained_again A B unread n k i places.Reference s st e is lt h = tt
chained_again A B unread n k i places.Text s st e is lt h = tt
chained_again A B unread n k i places.Class s st e is lt h = rw e (st.known k i lt (whole (has unread k) (and_parts (is_desc i) (not (has unread k)) h).1) is (and_parts (is_desc i) (not (has unread k)) h).0)
  where
    whole : (b : Bool) → not b ≡ true → b ≡ false
    whole false h = refl
    whole true h = absurd cc
chained_again A B unread n k i places.Parent s st e is lt h = rw e (st.known k i lt (whole (has unread k) (and_parts (is_desc i) (not (has unread k)) h).1) is (and_parts (is_desc i) (not (has unread k)) h).0)
  where
    whole : (b : Bool) → not b ≡ true → b ≡ false
    whole false h = refl
    whole true h = absurd cc

pub chained_fresh : (A B : List Node) (p : SlotPlace) (s : Slot) (i : Node) → admits p i ≡ true → (is_desc i ≡ true → SameUp A B s) → Chained A B p s
unfolding admits
chained_fresh A B places.Reference s i h up = tt
chained_fresh A B places.Text s i h up = tt
chained_fresh A B places.Class s i h up = up h
chained_fresh A B places.Parent s i h up = up h

-- ---- a node that is being read, and one that was read

last_has : (xs : List ℕ) (k j : ℕ) → has (xs ++ k ∷ []) j ≡ true → (has xs j ≡ true) ⊎ (j ≡ k)
last_has xs k j h = go (has xs j) refl (cases_lt j k) (cases_lt k j)
  where
    go : (b : Bool) → has xs j ≡ b → (j < k) ⊎ (k ≤ j) → (k < j) ⊎ (j ≤ k) → (has xs j ≡ true) ⊎ (j ≡ k)
    go true e p q = inl e
    go false e (inl p) q = absurd (let n : has (xs ++ k ∷ []) j ≡ false = has-append_other xs k j e (λ same. omega arith) in cc)
    go false e (inr p) (inl q) = absurd (let n : has (xs ++ k ∷ []) j ≡ false = has-append_other xs k j e (λ same. omega arith) in cc)
    go false e (inr p) (inr q) = inr (omega arith)

-- where the node is at k, others are below
opened_desc : (A B : List Node) (unread : List ℕ) (k : ℕ) → IsState A B unread k → k < 65536 → IsState A B (unread ++ k ∷ []) (suc k)
opened_desc A B unread k st few = record {
  few = omega arith;
  below = λ j h. elim (last_has unread k j h) [
    | inl old ↦ let lt : j < k = st.below j old in omega arith
    | inr new ↦ omega arith
  ];
  known = λ j i lt h is d. (let p = has-append_no unread k j h in st.known j i (elim (cases_lt j k) [ inl less ↦ less | inr more ↦ absurd (p.1 (omega arith)) ]) p.0 is d);
}

opened_other : (A B : List Node) (unread : List ℕ) (k : ℕ) (i : Node) → IsState A B unread k → k < 65536 → slice_get A k ≡ Some i → is_desc i ≡ false → IsState A B unread (suc k)
opened_other A B unread k i st few is other = record {
  few = omega arith;
  below = λ j h. (let lt : j < k = st.below j h in omega arith);
  known = λ j i2 lt h is2 d. elim (cases_lt j k) [
    | inl less ↦ st.known j i2 less h is2 d
    | inr more ↦
        let same : j ≡ k = omega arith in
        let one : i2 ≡ i = some_same i2 i (sym is2 ∙ (ap (slice_get A) same ∙ is)) in
        let no_desc : is_desc i2 ≡ false = ap is_desc one ∙ other in
        absurd cc
  ];
}

opened_by : (A B : List Node) (unread : List ℕ) (k : ℕ) (i : Node) (d : Bool) → is_desc i ≡ d → IsState A B unread k → k < 65536 → slice_get A k ≡ Some i → IsState A B (cond d (unread ++ k ∷ []) unread) (suc k)
opened_by A B unread k i true e st few is = opened_desc A B unread k st few
opened_by A B unread k i false e st few is = opened_other A B unread k i st few is e

pub opened : (A B : List Node) (unread : List ℕ) (k : ℕ) (i : Node) → IsState A B unread k → k < 65536 → slice_get A k ≡ Some i → IsState A B (inside unread k i) (suc k)
opened A B unread k i st few is = opened_by A B unread k i (is_desc i) refl st few is

pub whole_up : (A B : List Node) (k : ℕ) (i j : Node) → slice_get A k ≡ Some i → slice_get B k ≡ Some j → Whole A B i j → SameUp A B (slots.Node k)
whole_up A B k i j is_a is_b w zero = tt
whole_up A B k i j is_a is_b w (suc n) =
    (is_a ∙ (ap (λ (x : Node). Some x) w.same ∙ sym is_b), subst (λ (o : Option Node). SameAbove (SameChain A B n) o) (sym is_a) (w.above n))

three_ways : (j k : ℕ) → (j < k) ⊎ ((j ≡ k) ⊎ (k < j))
three_ways j k = elim (cases_lt j k) [
  | inl less ↦ inl less
  | inr more ↦ inr (elim (cases_lt k j) [ inl past ↦ inr past | inr up_to ↦ inl (omega arith) ])
]

-- A node whose befores and afters are read, and which is the same in both.
pub agree_node : (A B : List Node) (unread : List ℕ) (n k : ℕ) (i j : Node) (b c x y : List ℕ) (l m o : ℕ) → IsState A B unread n → n ≤ k → slice_get A k ≡ Some i → slice_get B k ≡ Some j → Whole A B i j
    → Agree A B unread n b c k l → Agree A B (inside unread k i) (suc k) x y m o → Agree A B unread n x y m o
agree_node A B unread n k i j b c x y l m o st le is_a is_b w before after = record {
  rests = after.rests;
  counts = after.counts;
  ordered = let p = after.ordered in omega arith;
  state = record {
    few = after.state.few;
    below = λ z h. (let lt : z < n = st.below z h in let p = after.ordered in omega arith);
    known = λ z i2 lt h is2 d. elim (three_ways z k) [
      | inl less ↦ after.state.known z i2 lt (still_not unread k z (is_desc i) h (λ same. omega arith)) is2 d
      | inr (inl same) ↦ rw same (whole_up A B k i j is_a is_b w)
      | inr (inr past) ↦ after.state.known z i2 lt (still_not unread k z (is_desc i) h (λ same. omega arith)) is2 d
    ];
  };
  agrees = λ z low high. elim (three_ways z k) [
    | inl less ↦ before.agrees z low less
    | inr (inl same) ↦ rw same (is_a ∙ (ap (λ (v : Node). Some v) w.same ∙ sym is_b))
    | inr (inr past) ↦ after.agrees z past high
  ];
}
