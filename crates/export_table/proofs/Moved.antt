-- Waits of which those that stay are moved back, over those that go.
use Rattle.std.proofs.Common.{◌≡◌, ℕ, ◌+◌, ◌-◌, ◌<◌, ◌≤◌, List, [], ◌∷◌, length, take, drop, get_or, refl, ap, sym, subst, ◌∙◌, arith, suc, zero, add-one}
use Rattle.std.specs.Prelude.{Bool, true, false, filter, slice_set}
use Rattle.std.proofs.Math.Seq.{drop-cons}
use Rattle.std.proofs.lemmas.List.{drop-set, take-set-le, length-set, get_or-take}
use Rattle.export_table.specs.declared.waits.Wait.{Wait}

-- What stays of the waits from a place on stands at the end of the list, and what is before the place stands where it stood.
pub record KeepsBack (s : Wait → Bool) (old new : List Wait) (kept i : ℕ) : Type 0 where
  pub back : drop kept new ≡ filter s (drop i old)
  pub front : take i new ≡ take i old
  pub order : i ≤ kept
  pub within : kept ≤ length new
  pub long : length new ≡ length old

pub back-start : (s : Wait → Bool) (ws : List Wait) (n : ℕ) → n ≤ length ws → filter s (drop n ws) ≡ drop n ws → KeepsBack s ws ws n n
back-start s ws n within h = record { back = sym h; front = refl; order = omega arith; within = within; long = refl }

here : (old new : List Wait) (i : ℕ) (d : Wait) → take (i + 1) new ≡ take (i + 1) old → get_or new i d ≡ get_or old i d
here old new i d same = sym (get_or-take (i + 1) new i d (omega arith)) ∙ ap (λ l. get_or l i d) same ∙ get_or-take (i + 1) old i d (omega arith)

inner : (n : ℕ) (l : List Wait) → take n (take (suc n) l) ≡ take n l
inner zero l = refl
inner (suc n) [] = refl
inner (suc n) (w ∷ l) = ap (λ r. w ∷ r) (inner n l)

shorter : (old new : List Wait) (i : ℕ) → take (i + 1) new ≡ take (i + 1) old → take i new ≡ take i old
shorter old new i same =
    let one = add-one i in
    sym (inner i new)
    ∙ ap (λ n. take i (take n new)) (sym one)
    ∙ ap (take i) same
    ∙ ap (λ n. take i (take n old)) one
    ∙ inner i old

step-no : (s : Wait → Bool) (old new : List Wait) (kept i : ℕ) (d : Wait) → KeepsBack s old new kept (i + 1) → s (get_or new i d) ≡ false → KeepsBack s old new kept i
step-no s old new kept i d k e =
    let order = k.order in let within = k.within in let long = k.long in
    let there : drop i old ≡ get_or old i d ∷ drop (i + 1) old = rw add-one (drop-cons old i d (omega arith)) in
    let out : s (get_or old i d) ≡ false = ap s (sym (here old new i d k.front)) ∙ e in record {
      back = k.back ∙ sym (ap (filter s) there ∙ rw out refl);
      front = shorter old new i k.front;
      order = omega arith;
      within = k.within;
      long = k.long;
    }

step-yes : (s : Wait → Bool) (old new : List Wait) (kept i : ℕ) (d : Wait) → KeepsBack s old new (kept + 1) (i + 1) → s (get_or new i d) ≡ true →
    KeepsBack s old (slice_set new kept (get_or new i d)) kept i
step-yes s old new kept i d k e =
    let order = k.order in let within = k.within in let long = k.long in
    let there : drop i old ≡ get_or old i d ∷ drop (i + 1) old = rw add-one (drop-cons old i d (omega arith)) in
    let same = here old new i d k.front in
    let stays : s (get_or old i d) ≡ true = ap s (sym same) ∙ e in record {
      back = drop-set new kept (get_or new i d) (omega arith)
          ∙ ap (λ l. get_or new i d ∷ l) k.back
          ∙ ap (λ w. w ∷ filter s (drop (i + 1) old)) same
          ∙ sym (ap (filter s) there ∙ rw stays refl);
      front = take-set-le i new kept (get_or new i d) (omega arith) ∙ shorter old new i k.front;
      order = omega arith;
      within = (let a = length-set new kept (get_or new i d) in omega arith);
      long = length-set new kept (get_or new i d) ∙ k.long;
    }

-- One step towards the front.
pub back-no : (s : Wait → Bool) (old new : List Wait) (kept place : ℕ) (d : Wait) → 0 < place → KeepsBack s old new kept place → s (get_or new (place - 1) d) ≡ false → KeepsBack s old new kept (place - 1)
back-no s old new kept place d some k e =
    let one : place ≡ place - 1 + 1 = omega arith in
    step-no s old new kept (place - 1) d (subst (KeepsBack s old new kept) one k) e

pub back-yes : (s : Wait → Bool) (old new : List Wait) (kept place : ℕ) (d : Wait) → 0 < place → KeepsBack s old new kept place → s (get_or new (place - 1) d) ≡ true →
    KeepsBack s old (slice_set new (kept - 1) (get_or new (place - 1) d)) (kept - 1) (place - 1)
back-yes s old new kept place d some k e =
    let order = k.order in
    let one : place ≡ place - 1 + 1 = omega arith in
    let more : kept ≡ kept - 1 + 1 = omega arith in
    step-yes s old new (kept - 1) (place - 1) d (subst (λ n. KeepsBack s old new n (place - 1 + 1)) more (subst (KeepsBack s old new kept) one k)) e
