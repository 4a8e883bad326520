-- The first that passes a test, and the hashes of methods.
use Rattle.std.proofs.Common.{◌≡◌, ℕ, ℤ, zero, suc, ◌+◌, ◌<◌, ◌^◌, Bool, true, false, cond, List, [], ◌∷◌, length, map, get_or, Option, Some, None, slice_get, refl, sym, ap, ◌∙◌, subst, inl, inr, arith}
use Rattle.std.specs.Prelude.{All, pos}
use Rattle.std.specs.List.{position, position_from, list_any}
use Rattle.std.specs.Ordering.{int_eq}
use Rattle.std.proofs.lemmas.Iterator.Adapters.{position_from-zero}
use Rattle.stream_grammar.proofs.PlainSound.{chosen}
use Rattle.ser_values.proofs.Lists.{some_same}
use Rattle.method_hash.specs.declared.method.Method.{Method}
use Rattle.method_hash.specs.Hash.{hash_of}
use Rattle.system_objects.specs.declared.book.Kind.{Kind}
use Rattle.system_objects.specs.Book.{methods_of, first_with, hashes_of}

from_map : {X Y : Type 0} (f : X → Y) (p : Y → Bool) (i : ℕ) (xs : List X) → position_from p i (map f xs) ≡ position_from (λ x. p (f x)) i xs
from_map f p i [] = refl
from_map f p i (x ∷ xs) = ap (λ (r : Option ℕ). cond (p (f x)) (Some i) r) (from_map f p (i + 1) xs)

pub position_map : {X Y : Type 0} (f : X → Y) (p : Y → Bool) (xs : List X) → position p (map f xs) ≡ position (λ x. p (f x)) xs
position_map f p xs = position_from-zero p (map f xs) ∙ from_map f p 0 xs ∙ sym (position_from-zero (λ x. p (f x)) xs)

pub record Here {X : Type 0} (p : X → Bool) (i : ℕ) (xs : List X) (k : ℕ) (d : X) : Type 0 where
  pub behind : ℕ
  pub is : k ≡ i + behind
  pub within : behind < length xs
  pub passes : p (get_or xs behind d) ≡ true

from_here : {X : Type 0} (p : X → Bool) (i : ℕ) (xs : List X) (k : ℕ) (d : X) → position_from p i xs ≡ Some k → Here p i xs k d
from_here p i [] k d e = absurd cc
from_here p i (x ∷ xs) k d e = elim (chosen (p x) (Some i) (position_from p (i + 1) xs) (Some k) e) [
  | inl h ↦ (let same = some_same i k h.1 in record { behind = 0; is = omega (arith, same); within = omega arith; passes = h.0 })
  | inr h ↦ (let r = from_here p (i + 1) xs k d h.1 in record { behind = suc r.behind; is = omega (arith, r.is); within = omega (arith, r.within); passes = r.passes })
]

-- The first that passes is in the list, and passes.
pub first_here : {X : Type 0} (p : X → Bool) (xs : List X) (k : ℕ) (d : X) → position p xs ≡ Some k → (k < length xs) × (p (get_or xs k d) ≡ true)
first_here p xs k d e =
    let h = from_here p 0 xs k d (sym (position_from-zero p xs) ∙ e) in
    let same : h.behind ≡ k = omega (arith, h.is) in
    (omega (arith, h.within, same), subst (λ j. p (get_or xs j d) ≡ true) same h.passes)

from_none : {X : Type 0} (p : X → Bool) (i : ℕ) (xs : List X) → position_from p i xs ≡ None → list_any p xs ≡ false
from_none p i [] e = refl
from_none p i (x ∷ xs) e = elim (chosen (p x) (Some i) (position_from p (i + 1) xs) None e) [
  | inl h ↦ absurd (let bad = h.1 in cc)
  | inr h ↦ rw h.0 (from_none p (i + 1) xs h.1)
]

-- Where none is the first, none passes.
pub none_passes : {X : Type 0} (p : X → Bool) (xs : List X) → position p xs ≡ None → list_any p xs ≡ false
none_passes p xs e = from_none p 0 xs (sym (position_from-zero p xs) ∙ e)

-- ---- methods

pub within_or : {A : Type 0} (xs : List A) (k : ℕ) (d : A) → k < length xs → slice_get xs k ≡ Some (get_or xs k d)
within_or [] k d lt = absurd (omega arith)
within_or (x ∷ xs) zero d lt = refl
within_or (x ∷ xs) (suc k) d lt = within_or xs k d (omega arith)

pub methods_here : (kinds : List Kind) (kind : ℕ) (d : Kind) → kind < length kinds → methods_of kinds kind ≡ (get_or kinds kind d).methods
methods_here kinds kind d lt = rw (within_or kinds kind d lt) refl

hashes_here : (kinds : List Kind) (kind : ℕ) (hashes : List ℤ) → slice_get (map hashes_of kinds) kind ≡ Some hashes → (kind < length kinds) × (hashes ≡ map (λ method. hash_of method.text) (methods_of kinds kind))
hashes_here [] kind hashes e = absurd cc
hashes_here (k ∷ kinds) zero hashes e = (omega arith, sym (some_same (hashes_of k) hashes e))
hashes_here (k ∷ kinds) (suc kind) hashes e = let r = hashes_here kinds kind hashes e in (omega (arith, r.0), r.1)

no_kind : (kinds : List Kind) (kind : ℕ) → slice_get (map hashes_of kinds) kind ≡ None → methods_of kinds kind ≡ []
no_kind [] kind e = refl
no_kind (k ∷ kinds) zero e = absurd cc
no_kind (k ∷ kinds) (suc kind) e = no_kind kinds kind e

-- The first of a kind's hashes is the first method's.
pub hash_found : (all : List (List ℤ)) (kinds : List Kind) (kind : ℕ) (hashes : List ℤ) (hash : ℤ) → all ≡ map hashes_of kinds → slice_get all kind ≡ Some hashes → position (λ other. int_eq other hash) hashes ≡ first_with hash (methods_of kinds kind)
hash_found all kinds kind hashes hash same e =
    let h = hashes_here kinds kind hashes (ap (λ (l : List (List ℤ)). slice_get l kind) (sym same) ∙ e) in
    ap (position (λ other. int_eq other hash)) h.1 ∙ position_map (λ (method : Method). hash_of method.text) (λ other. int_eq other hash) (methods_of kinds kind)

-- A kind that is no place has no methods, and none is found.
pub none_found : (all : List (List ℤ)) (kinds : List Kind) (kind : ℕ) (hash : ℤ) → all ≡ map hashes_of kinds → slice_get all kind ≡ None → first_with hash (methods_of kinds kind) ≡ None
none_found all kinds kind hash same e = rw (no_kind kinds kind (ap (λ (l : List (List ℤ)). slice_get l kind) (sym same) ∙ e)) refl

-- The place of a method is below the greatest number of methods.
pub place_fits : (all : List (List ℤ)) (kinds : List Kind) (kind : ℕ) (hashes : List ℤ) (p : ℤ → Bool) (place : ℕ) → all ≡ map hashes_of kinds → All (λ kind. length kind.methods < 2 ^ 32) kinds → slice_get all kind ≡ Some hashes → position p hashes ≡ Some place → place < 2 ^ 32
place_fits all kinds kind hashes p place same few e first =
    let h = hashes_here kinds kind hashes (ap (λ (l : List (List ℤ)). slice_get l kind) (sym same) ∙ e) in
    by kinds kind few h.0 (first_here p hashes place (pos 0) first).0 (ap length h.1 ∙ length_map (methods_of kinds kind))
  where
    length_map : (ms : List Method) → length (map (λ (m : Method). hash_of m.text) ms) ≡ length ms
    length_map [] = refl
    length_map (m ∷ ms) = ap suc (length_map ms)

    by : (kinds : List Kind) (kind : ℕ) → All (λ kind. length kind.methods < 2 ^ 32) kinds → kind < length kinds → place < length hashes → length hashes ≡ length (methods_of kinds kind) → place < 2 ^ 32
    by [] kind few lt within long = absurd (omega arith)
    by (k ∷ kinds) kind few lt within long =
        let here = methods_here (k ∷ kinds) kind k lt in
        let most = few kind k lt in
        omega (arith, within, long, ap (λ (l : List Method). length l) here, most)
