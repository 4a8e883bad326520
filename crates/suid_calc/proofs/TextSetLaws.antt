-- The set of type texts, seen as a list of texts.
use Rattle.std.proofs.Common.{◌≡◌, ℕ, Bool, true, false, cond, not, ◌||◌, List, [], ◌∷◌, ◌++◌, length, Vec, Some, None, refl, sym, ap, ◌∙◌, arith, ◌+◌, ◌≤◌, ltb}
use Rattle.std.specs.Prelude.{nat_eq, position}
use Rattle.std.specs.List.{list_any, position_or_len}
use Rattle.std.specs.Cmp.Lexicographic.{pointwise}
use Rattle.std.proofs.lemmas.Bool.{ltb-false}
use Rattle.std.proofs.lemmas.List.{map-append}
use Rattle.suid_calc.specs.Description.{same_text, with_text, place_in, texts_in}

-- a key is among the keys where its text is among theirs
among : {Z : Type 0} (t : List ℕ) (keys : List (Vec ℕ Z)) → list_any (λ k. pointwise nat_eq t k.items) keys ≡ list_any (same_text t) (texts_in keys)
among t [] = refl
among t (k ∷ keys) = ap (λ (b : Bool). pointwise nat_eq t k.items || b) (among t keys)

-- and it stands at the same place
pub placed : {Z : Type 0} (t : List ℕ) (keys : List (Vec ℕ Z)) → position_or_len (λ k. pointwise nat_eq t k.items) keys ≡ place_in (texts_in keys) t
placed t [] = refl
placed t (k ∷ keys) = ap (λ (n : ℕ). cond (not (pointwise nat_eq t k.items)) (1 + n) 0) (placed t keys)

-- a further key
pub inserted : {Z : Type 0} (key : Vec ℕ Z) (keys : List (Vec ℕ Z)) → texts_in (cond (list_any (λ k. pointwise nat_eq key.items k.items) keys) keys (keys ++ key ∷ [])) ≡ with_text (texts_in keys) key.items
inserted {Z} key keys = go (list_any (λ k. pointwise nat_eq key.items k.items) keys) (among key.items keys)
  where
    go : (b : Bool) → b ≡ list_any (same_text key.items) (texts_in keys) → texts_in (cond b keys (keys ++ key ∷ [])) ≡ with_text (texts_in keys) key.items
    go true e = rw (sym e) refl
    go false e = rw (sym e) (map-append (λ (k : Vec ℕ Z). k.items) keys (key ∷ []))

abbrev place : {Z : Type 0} → List ℕ → List (Vec ℕ Z) → ℕ
place t keys = position_or_len (λ k. pointwise nat_eq t k.items) keys

within : {Z : Type 0} (t : List ℕ) (keys : List (Vec ℕ Z)) → place t keys ≤ length keys
within t [] = omega arith
within t (k ∷ keys) = go (within t keys) (pointwise nat_eq t k.items)
  where
    go : place t keys ≤ length keys → (b : Bool) → cond (not b) (1 + place t keys) 0 ≤ length (k ∷ keys)
    go rest true = omega arith
    go rest false = omega (arith, rest)

-- what a search answers
pub found_place : {Z : Type 0} (t : List ℕ) (keys : List (Vec ℕ Z)) (i : ℕ) → Some i ≡ position (λ k. pointwise nat_eq t k.items) keys → i ≡ place_in (texts_in keys) t
found_place t keys i h = go (ltb (place t keys) (length keys)) h ∙ placed t keys
  where
    go : (b : Bool) → Some i ≡ cond b (Some (place t keys)) None → i ≡ place t keys
    go true e = cc
    go false e = absurd cc

pub no_place : {Z : Type 0} (t : List ℕ) (keys : List (Vec ℕ Z)) → None ≡ position (λ k. pointwise nat_eq t k.items) keys → length keys ≡ place_in (texts_in keys) t
no_place t keys h = go (ltb (place t keys) (length keys)) refl h ∙ placed t keys
  where
    go : (b : Bool) → ltb (place t keys) (length keys) ≡ b → None ≡ cond b (Some (place t keys)) None → length keys ≡ place t keys
    go true e f = absurd cc
    go false e f = let past : length keys ≤ place t keys = ltb-false (place t keys) (length keys) e in omega (arith, within t keys)
