-- What a client's share in the count of an object is, before and after.
use Rattle.std.proofs.Common.{◌≡◌, ℕ, ◌+◌, ◌≤◌, List, [], ◌∷◌, refl, ap, sym, ◌∙◌, arith, cond, map}
use Rattle.std.specs.Prelude.{Bool, true, false, ◌&&◌, ◌||◌, not, filter, is_some, nat_lt, if◌then◌else◌}
use Rattle.std.proofs.lemmas.Bool.{and_parts, not-true}
use Rattle.object_ids.specs.declared.ids.ObjId.{ObjId}
use Rattle.object_ids.specs.Same.{same_id}
use Rattle.object_ids.proofs.Exact.{same_id-equal}
use Rattle.history.proofs.ListLemmas.{or_false}
use Rattle.dgc_server.specs.declared.numbers.Numbers.{Numbers}
use Rattle.dgc_server.specs.Numbers.{is_dirty_highest}
use Rattle.dgc_server.specs.Entry.{ObjectEntry, Entry, entry_after_lapse, numbers_of, has_object, dirty_in, with_numbers, has_strong, strong_only, tenure_forgotten}
use Rattle.dgc_server.specs.StandsForCalls.{each_once}
use Rattle.dgc_server.specs.HolderIndex.{Way, Holding, Naming, counts_in, is_counted, loses, has_with, one_if}
use Rattle.dgc_server.proofs.Objects.{no_object, object-with}
use Rattle.dgc_server.proofs.MarkLaws.{not-dirty}
use Rattle.dgc_server.proofs.Steps.{earlier}

-- ---- a tenure that is forgotten

has-forgotten : (es : List ObjectEntry) (o : ObjId) → each_once es ≡ true → has_object (tenure_forgotten es) o ≡ (has_object es o && is_some (numbers_of es o).strong)
has-forgotten [] o h = refl
has-forgotten (e ∷ es) o h = go (has_strong e) (same_id e.object o) refl refl (has-forgotten es o two.1)
  where
    two : (not (has_object es e.object) ≡ true) × (each_once es ≡ true)
    two = let parts = and_parts (not (has_object es e.object)) (each_once es) h in (parts.0, parts.1)

    gone : same_id e.object o ≡ true → has_object es o ≡ false
    gone y = ap (has_object es) (sym (same_id-equal e.object o y)) ∙ not-true (has_object es e.object) two.0

    go : (b a : Bool) → has_strong e ≡ b → same_id e.object o ≡ a → has_object (tenure_forgotten es) o ≡ (has_object es o && is_some (numbers_of es o).strong) →
        has_object (map strong_only (cond b (e ∷ filter has_strong es) (filter has_strong es))) o ≡ ((a || has_object es o) && is_some (if a then e.numbers else numbers_of es o).strong)
    go true true x y rest = rw y (sym x)
    go true false x y rest = rw y rest
    go false true x y rest = rest ∙ ap (λ b. b && is_some (numbers_of es o).strong) (gone y) ∙ sym x
    go false false x y rest = rest

-- What is left of a share and what it loses are the whole.
pub share-lost : (w : Way) (held : Bool) (es : List ObjectEntry) (o : ObjId) → each_once es ≡ true →
    one_if (counts_in w held es o) ≡ one_if (counts_in w false (tenure_forgotten es) o) + one_if (has_with (loses w held) es o)
share-lost Holding held es o h = go held (has_object es o) refl
  where
    go : (a b : Bool) → has_object es o ≡ b → one_if (a && dirty_in es o) ≡ 0 + one_if (b && (a && dirty_in es o))
    go a true x = omega arith
    go true false x = let none : one_if (dirty_in es o) ≡ 0 = ap (λ n. one_if (is_dirty_highest n)) (no_object es o x) in omega arith
    go false false x = omega arith
share-lost Naming held es o h = go (has_object es o) (is_some (numbers_of es o).strong) (has-forgotten es o h)
  where
    go : (a b : Bool) → has_object (tenure_forgotten es) o ≡ (a && b) → one_if a ≡ one_if (has_object (tenure_forgotten es) o) + one_if (a && not b)
    go true true x = rw x (omega arith)
    go true false x = rw x (omega arith)
    go false b x = rw x (omega arith)

pub lost-enough : (w : Way) (held : Bool) (es : List ObjectEntry) (o : ObjId) (n : ℕ) → each_once es ≡ true → one_if (counts_in w held es o) ≤ n → one_if (has_with (loses w held) es o) ≤ n
lost-enough w held es o n once h = let lost = share-lost w held es o once in omega arith

pub settle-step : (w : Way) (held : Bool) (es : List ObjectEntry) (o : ObjId) (n m : ℕ) → each_once es ≡ true → n + one_if (has_with (loses w held) es o) ≡ m →
    n + one_if (counts_in w held es o) ≡ m + one_if (counts_in w true (tenure_forgotten es) o)
settle-step w held es o n m once h =
    let lost = share-lost w held es o once in let after = ap one_if (left w) in omega arith
  where
    left : (w : Way) → counts_in w true (tenure_forgotten es) o ≡ counts_in w false (tenure_forgotten es) o
    left Holding = not-dirty es o once
    left Naming = refl

pub over-step : (w : Way) (o : ObjId) (e : Entry) (from to n m : ℕ) → nat_lt to e.until ≡ false → each_once e.objects ≡ true → n + one_if (has_with (loses w (nat_lt from e.until)) e.objects o) ≡ m →
    n + one_if (is_counted w from o e) ≡ m + one_if (is_counted w to o (entry_after_lapse to e))
over-step w o e from to n m over once h =
    let lost = share-lost w (nat_lt from e.until) e.objects o once in
    let after : is_counted w to o (entry_after_lapse to e) ≡ counts_in w false (tenure_forgotten e.objects) o =
    ap (λ b. is_counted w to o (if b then e else record e { objects = tenure_forgotten e.objects })) over ∙ ap (λ b. counts_in w b (tenure_forgotten e.objects) o) over in
    let same = ap one_if after in omega arith

pub still-step : (w : Way) (o : ObjId) (e : Entry) (from to : ℕ) → from ≤ to → nat_lt to e.until ≡ true → is_counted w from o e ≡ is_counted w to o (entry_after_lapse to e)
still-step w o e from to le left =
    ap (λ b. counts_in w b e.objects o) (earlier from to e.until le left ∙ sym left)
    ∙ ap (λ b. is_counted w to o (if b then e else record e { objects = tenure_forgotten e.objects })) (sym left)

-- ---- an object that has other numbers

pub named-shifted : (o : ObjId) (numbers : Numbers) (es : List ObjectEntry) (f g : ObjId → ℕ) →
    ((p : ObjId) → g p + (if has_object es o then one_if (same_id o p) else 0) ≡ f p + one_if (same_id o p)) →
    (p : ObjId) → g p + one_if (has_object es p) ≡ f p + one_if (has_object (with_numbers o numbers es) p)
named-shifted o numbers es f g h p = go (same_id o p) (has_object es o) refl refl (h p) ∙ ap (λ b. f p + one_if b) (sym (object-with o numbers es p))
  where
    here : (a : Bool) → same_id o p ≡ true → has_object es o ≡ a → has_object es p ≡ a
    here a x y = ap (has_object es) (sym (same_id-equal o p x)) ∙ y

    go : (s a : Bool) → same_id o p ≡ s → has_object es o ≡ a → g p + (if a then one_if s else 0) ≡ f p + one_if s → g p + one_if (has_object es p) ≡ f p + one_if (has_object es p || s)
    go true true x y e = rw (here true x y) e
    go true false x y e = rw (here false x y) e
    go false true x y e = let b = ap one_if (or_false (has_object es p)) in omega arith
    go false false x y e = let b = ap one_if (or_false (has_object es p)) in omega arith
