-- Bytes before items, taken away and put there.
use Rattle.std.proofs.Common.{◌≡◌, ◌≢◌, ◌⊎◌, ◌||◌, not, ℕ, zero, suc, ◌+◌, ◌<◌, ◌≤◌, ◌^◌, Bool, true, false, cond, eqb, ltb, List, [], ◌∷◌, ◌++◌, length, take, drop, Some, None, refl, sym, ap, subst, ◌∙◌, append_assoc, append-nil, arith, inl, inr}
use Rattle.std.specs.Prelude.{All}
use Rattle.std.proofs.lemmas.List.Elements.{All-cons, All-head, All-tail, All-drop}
use Rattle.std.proofs.lemmas.Bool.{cases_Bool, eqb-true, eqb-false, ltb-false, lt-ltb, le-ltb, cases_eq, and_parts, ne_eqb}
use Rattle.class_desc.specs.declared.slot.Item.{Item}
use Rattle.class_desc.specs.declared.slot.Item.TheVariants as items
use Rattle.class_desc.specs.TypeText.{is_nil}
use Rattle.ser_values.specs.declared.node.Node.{Node}
use Rattle.ser_values.specs.Node.{Want, item_wants}
use Rattle.ser_values.specs.Numbered.{NumberAll, Numbered, IsGraph}
use Rattle.ser_values.specs.Ranges.{ItemFits, ItemsFit}
use Rattle.ser_values.specs.Shape.{joined_from, is_joined, parts_in}
use Rattle.ser_values.specs.Fronts.{put_block, front_len, without_front, HasFront}
use Rattle.ser_values.proofs.Lists.{some_same}
use Rattle.ser_values.proofs.Ranged.{block_fits}

-- ---- bytes before items

-- Bytes before items join one another.
pub put_both : (p q : List ℕ) (is : List Item) → put_block (p ++ q) is ≡ put_block p (put_block q is)
put_both [] q is = refl
put_both (x ∷ p) [] is = ap (λ (b : List ℕ). put_block b is) (append-nil (x ∷ p))
put_both (x ∷ p) (y ∷ q) [] = refl
put_both (x ∷ p) (y ∷ q) (items.Bytes r ∷ is) = ap (λ (b : List ℕ). items.Bytes b ∷ is) (append_assoc (x ∷ p) (y ∷ q) r)
put_both (x ∷ p) (y ∷ q) (items.Ref s ∷ is) = refl

pub put_wants : (b : List ℕ) (is : List Item) → item_wants (put_block b is) ≡ item_wants is
unfolding item_wants
put_wants [] is = refl
put_wants (x ∷ b) [] = refl
put_wants (x ∷ b) (items.Bytes p ∷ is) = refl
put_wants (x ∷ b) (items.Ref s ∷ is) = refl

pub joined_put : (b : List ℕ) (is : List Item) → is_joined is ≡ true → is_joined (put_block b is) ≡ true
unfolding joined_from
joined_put [] is h = h
joined_put (x ∷ b) [] h = refl
joined_put (x ∷ b) (items.Bytes p ∷ is) h = (and_parts (not (false || is_nil p)) (joined_from true is) h).1
joined_put (x ∷ b) (items.Ref s ∷ is) h = h

-- ---- what is cut away

pub few_cut : (n : ℕ) (is : List Item) → front_len is < n → without_front n is ≡ None
few_cut zero is lt = absurd (omega arith)
few_cut (suc n) [] lt = refl
few_cut (suc n) (items.Ref s ∷ is) lt = refl
few_cut (suc n) (items.Bytes b ∷ is) lt = let e : ltb (length b) (suc n) ≡ true = lt-ltb _ _ lt in rw e refl

pub eqb_same : (n : ℕ) → eqb n n ≡ true
eqb_same n = elim (cases_Bool (eqb n n)) [
  | inl e ↦ e
  | inr e ↦ absurd (eqb-false n n e refl)
]

pub whole_cut : (n : ℕ) (is : List Item) → n ≢ 0 → n ≡ front_len is → without_front n is ≡ Some (drop 1 is)
whole_cut zero is ne e = absurd (ne refl)
whole_cut (suc n) [] ne e = absurd (omega arith)
whole_cut (suc n) (items.Ref s ∷ is) ne e = absurd (omega arith)
whole_cut (suc n) (items.Bytes b ∷ is) ne e =
    let long : ltb (length b) (suc n) ≡ false = le-ltb _ _ (omega arith) in
    let same : eqb (length b) (suc n) ≡ true = subst (λ k. eqb k (suc n) ≡ true) e (eqb_same (suc n)) in
    rw long (rw same refl)

pub part_cut : (n : ℕ) (b : List ℕ) (is whole : List Item) → n ≢ 0 → n < length b → whole ≡ items.Bytes b ∷ is → without_front n whole ≡ Some (items.Bytes (drop n b) ∷ is)
part_cut zero b is whole ne lt e = absurd (ne refl)
part_cut (suc n) b is whole ne lt e =
    let long : ltb (length b) (suc n) ≡ false = le-ltb _ _ (omega arith) in
    let other : eqb (length b) (suc n) ≡ false = ne_eqb _ _ (λ same. omega arith) in
    ap (without_front (suc n)) e ∙ rw long (rw other refl)

-- ---- joined items

pub later_joined : (is : List Item) → joined_from true is ≡ true → is_joined is ≡ true
unfolding joined_from
later_joined [] h = refl
later_joined (items.Ref s ∷ is) h = h
later_joined (items.Bytes b ∷ is) h = absurd cc

-- what stands after bytes begins with none
pub put_apart : (b : List ℕ) (is : List Item) → is_nil b ≡ false → joined_from true is ≡ true → put_block b is ≡ items.Bytes b ∷ is
unfolding joined_from
put_apart [] is h j = absurd cc
put_apart (x ∷ b) [] h j = refl
put_apart (x ∷ b) (items.Ref s ∷ is) h j = refl
put_apart (x ∷ b) (items.Bytes p ∷ is) h j = absurd cc

take-drop : {X : Type 0} (n : ℕ) (xs : List X) → take n xs ++ drop n xs ≡ xs
take-drop zero xs = refl
take-drop (suc n) [] = refl
take-drop (suc n) (x ∷ xs) = ap (λ (l : List _). x ∷ l) (take-drop n xs)

take-length : {X : Type 0} (n : ℕ) (xs : List X) → n ≤ length xs → length (take n xs) ≡ n
take-length zero xs le = refl
take-length (suc n) [] le = absurd (omega arith)
take-length (suc n) (x ∷ xs) le = ap suc (take-length n xs (omega arith))

drop-all : {X : Type 0} (xs : List X) → drop (length xs) xs ≡ []
drop-all [] = refl
drop-all (x ∷ xs) = drop-all xs

drop-some : {X : Type 0} (n : ℕ) (xs : List X) → n < length xs → (y : X) × (ys : List X) × (drop n xs ≡ y ∷ ys)
drop-some n [] lt = absurd (omega arith)
drop-some zero (x ∷ xs) lt = (x, xs, refl)
drop-some (suc n) (x ∷ xs) lt = drop-some n xs (omega arith)

front_drop : {X : Type 0} (xs ys : List X) → drop (length xs) (xs ++ ys) ≡ ys
front_drop [] ys = refl
front_drop (x ∷ xs) ys = front_drop xs ys

len_append : {X : Type 0} (xs ys : List X) → length (xs ++ ys) ≡ length xs + length ys
len_append [] ys = omega arith
len_append (x ∷ xs) ys = let h = len_append xs ys in omega arith

put_front : (b : List ℕ) (n : ℕ) (is : List Item) → n < length b → joined_from true is ≡ true → n ≢ 0 → put_block (take n b) (items.Bytes (drop n b) ∷ is) ≡ items.Bytes b ∷ is
put_front b zero is lt j ne = absurd (ne refl)
put_front [] (suc n) is lt j ne = absurd (omega arith)
put_front (x ∷ b) (suc n) is lt j ne = ap (λ (l : List ℕ). items.Bytes (x ∷ l) ∷ is) (take-drop n b)

pub cut_front : (n : ℕ) (is rest : List Item) → is_joined is ≡ true → without_front n is ≡ Some rest → HasFront n is rest
unfolding joined_from
cut_front zero is rest j e = record { bytes = []; count = refl; joined = ap is_joined (sym (some_same is rest e)) ∙ j; parts = some_same is rest e }
cut_front (suc n) [] rest j e = absurd cc
cut_front (suc n) (items.Ref s ∷ is) rest j e = absurd cc
cut_front (suc n) (items.Bytes b ∷ is) rest j e = go (ltb (length b) (suc n)) (eqb (length b) (suc n)) refl refl e (and_parts (not (false || is_nil b)) (joined_from true is) j)
  where
    go : (c d : Bool) → ltb (length b) (suc n) ≡ c → eqb (length b) (suc n) ≡ d → cond c None (Some (cond d is (items.Bytes (drop (suc n) b) ∷ is))) ≡ Some rest → (not (false || is_nil b) ≡ true) × (joined_from true is ≡ true) → HasFront (suc n) (items.Bytes b ∷ is) rest
    go true d f g e p = absurd cc
    go false true f g e p =
        let same : length b ≡ suc n = eqb-true _ _ g in
        record { bytes = b; count = same; joined = ap is_joined (sym (some_same is rest e)) ∙ later_joined is p.1; parts = whole b same p.1 ∙ ap (put_block b) (some_same is rest e) }
      where
        whole : (b : List ℕ) → length b ≡ suc n → joined_from true is ≡ true → items.Bytes b ∷ is ≡ put_block b is
        whole [] l p = absurd (omega arith)
        whole (x ∷ b) l p = sym (put_apart (x ∷ b) is refl p)
    go false false f g e p =
        let long : suc n ≤ length b = ltb-false _ _ f in
        let ne = eqb-false _ _ g in
        let lt : suc n < length b = more (length b) (suc n) long ne in
        let made : List Item = items.Bytes (drop (suc n) b) ∷ is in
        record { bytes = take (suc n) b; count = take-length (suc n) b long; joined = ap is_joined (sym (some_same made rest e)) ∙ left (drop (suc n) b) (drop-some (suc n) b lt) p.1; parts = sym (put_front b (suc n) is lt p.1 (λ z. omega arith)) ∙ ap (put_block (take (suc n) b)) (some_same made rest e) }
      where
        more : (m k : ℕ) → k ≤ m → m ≢ k → k < m
        more m k le ne = elim (cases_eq m k) [
          | inl same ↦ absurd (ne same)
          | inr other ↦ omega arith
        ]

        left : (c : List ℕ) → (y : ℕ) × (ys : List ℕ) × (c ≡ y ∷ ys) → joined_from true is ≡ true → is_joined (items.Bytes c ∷ is) ≡ true
        left [] s p = absurd (let bad = s.2 in cc)
        left (x ∷ c) s p = p

-- Bytes that were put before items are taken away again.
pub front_undone : (b : List ℕ) (is : List Item) → is_joined is ≡ true → without_front (length b) (put_block b is) ≡ Some is
unfolding joined_from
front_undone [] is j = refl
front_undone (x ∷ b) [] j = whole_cut (suc (length b)) (items.Bytes (x ∷ b) ∷ []) (λ e. omega arith) refl
front_undone (x ∷ b) (items.Ref s ∷ is) j = whole_cut (suc (length b)) (items.Bytes (x ∷ b) ∷ items.Ref s ∷ is) (λ e. omega arith) refl
front_undone (x ∷ b) (items.Bytes [] ∷ is) j = absurd cc
front_undone (x ∷ b) (items.Bytes (y ∷ p) ∷ is) j =
    let l = len_append b (y ∷ p) in
    let lt : suc (length b) < length (x ∷ (b ++ (y ∷ p))) = omega arith in
    part_cut (suc (length b)) (x ∷ (b ++ (y ∷ p))) is (put_block (x ∷ b) (items.Bytes (y ∷ p) ∷ is)) (λ e. omega arith) lt refl ∙ ap (λ (l : List ℕ). Some (items.Bytes l ∷ is)) (front_drop b (y ∷ p))

-- Items that do not begin with so many bytes are not such bytes and a rest.
pub front_none : (n : ℕ) (is rest : List Item) → without_front n is ≡ None → HasFront n is rest → ⊥
front_none n is rest e h =
    let back : without_front n is ≡ Some rest = ap (λ k. without_front k is) (sym h.count) ∙ (ap (without_front (length h.bytes)) h.parts ∙ front_undone h.bytes rest h.joined) in
    let bad : None ≡ Some rest = sym e ∙ back in
    absurd cc

-- ---- graphs

-- what is left of items is in range
front_fits : (n : ℕ) (is rest : List Item) → without_front n is ≡ Some rest → ItemsFit is → ItemsFit rest
front_fits zero is rest e h = subst (λ (l : List Item). ItemsFit l) (some_same is rest e) h
front_fits (suc n) [] rest e h = absurd cc
front_fits (suc n) (items.Ref s ∷ is) rest e h = absurd cc
front_fits (suc n) (items.Bytes b ∷ is) rest e h = go (ltb (length b) (suc n)) (eqb (length b) (suc n)) e
  where
    go : (c d : Bool) → cond c None (Some (cond d is (items.Bytes (drop (suc n) b) ∷ is))) ≡ Some rest → ItemsFit rest
    go true d e = absurd cc
    go false true e = subst (λ (l : List Item). ItemsFit l) (some_same is rest e) (All-tail ItemFits (items.Bytes b) is h)
    go false false e =
        let left = All-drop (λ x. x < 2 ^ 8) (suc n) b (All-head ItemFits (items.Bytes b) is h) in
        subst (λ (l : List Item). ItemsFit l) (some_same (items.Bytes (drop (suc n) b) ∷ is) rest e) (All-cons ItemFits (items.Bytes (drop (suc n) b)) is left (All-tail ItemFits (items.Bytes b) is h))

-- other items with the same references are a graph's too
pub graph_items : (nodes : List Node) (is js : List Item) → IsGraph nodes is → item_wants js ≡ item_wants is → is_joined js ≡ true → ItemsFit js → IsGraph nodes js
graph_items nodes is js g e j fit = record {
  numbered = subst (λ (ws : List Want). NumberAll (Numbered nodes 200 []) ws 0 (length nodes)) (sym e) g.numbered;
  joined = j;
  few_nodes = g.few_nodes;
  few_parts = subst (λ (ws : List Want). parts_in nodes + length ws ≤ 1048576) (sym e) g.few_parts;
  numbers = g.numbers;
  units = g.units;
  bytes = fit;
}

pub with_graph : (nodes : List Node) (b : List ℕ) (is : List Item) → All (λ x. x < 2 ^ 8) b → IsGraph nodes is → IsGraph nodes (put_block b is)
with_graph nodes b is fit g = graph_items nodes is (put_block b is) g (put_wants b is) (joined_put b is g.joined) (block_fits b is fit g.bytes)

pub without_graph : (nodes : List Node) (n : ℕ) (is rest : List Item) → IsGraph nodes is → without_front n is ≡ Some rest → IsGraph nodes rest
without_graph nodes n is rest g e =
    let h = cut_front n is rest g.joined e in
    graph_items nodes is rest g (sym (put_wants h.bytes rest) ∙ ap item_wants (sym h.parts)) h.joined (front_fits n is rest e g.bytes)
