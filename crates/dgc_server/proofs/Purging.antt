-- A walk over the clients that keeps of each the objects that pass a test.
use Rattle.std.proofs.Common.{◌≡◌, ℕ, ◌+◌, ◌≤◌, ◌<◌, List, [], ◌∷◌, refl, ap, ◌∙◌, arith, cond, length, map, get_or, suc, zero}
use Rattle.std.specs.Prelude.{Bool, true, false, filter, slice_set}
use Rattle.std.specs.List.{list_all}
use Rattle.std.proofs.lemmas.Bool.{and_parts}
use Rattle.std.proofs.lemmas.List.Sums.{sum_by-cons, sum_by-set}
use Rattle.object_ids.specs.declared.ids.ObjId.{ObjId}
use Rattle.dgc_server.specs.Entry.{ObjectEntry, Entry, is_entry_kept}
use Rattle.dgc_server.specs.HolderIndex.{with_only, object_count, objects_in}

-- What passes a test passes it again.
filter-again : {X : Type 0} (p : X → Bool) (xs : List X) → filter p (filter p xs) ≡ filter p xs
filter-again p [] = refl
filter-again p (x ∷ xs) = go (p x) refl (filter-again p xs)
  where
    go : (b : Bool) → p x ≡ b → filter p (filter p xs) ≡ filter p xs → filter p (cond b (x ∷ filter p xs) (filter p xs)) ≡ cond b (x ∷ filter p xs) (filter p xs)
    go true y h = rw y (ap (λ l. x ∷ l) h)
    go false y h = h

pub filter-fewer : {X : Type 0} (p : X → Bool) (xs : List X) → length (filter p xs) ≤ length xs
filter-fewer p [] = omega arith
filter-fewer p (x ∷ xs) = go (p x) (filter-fewer p xs)
  where
    go : (b : Bool) → length (filter p xs) ≤ length xs → length (cond b (x ∷ filter p xs) (filter p xs)) ≤ length (x ∷ xs)
    go true h = omega arith
    go false h = omega arith

-- Where as many are left, all are.
filter-whole : {X : Type 0} (p : X → Bool) (xs : List X) → length (filter p xs) ≡ length xs → filter p xs ≡ xs
filter-whole p [] h = refl
filter-whole p (x ∷ xs) h = go (p x) h (filter-fewer p xs) (filter-whole p xs)
  where
    go : (b : Bool) → length (cond b (x ∷ filter p xs) (filter p xs)) ≡ length (x ∷ xs) → length (filter p xs) ≤ length xs → (length (filter p xs) ≡ length xs → filter p xs ≡ xs) →
        cond b (x ∷ filter p xs) (filter p xs) ≡ x ∷ xs
    go true k few rest = ap (λ l. x ∷ l) (rest (omega arith))
    go false k few rest = absurd (omega arith)

-- Some client of a list that has one.
pub any_entry : (es : List Entry) (i : ℕ) → i < length es → Entry
any_entry [] i h = absurd (omega arith)
any_entry (e ∷ es) i h = e

module _ (q : ObjId → Bool) where
  abbrev pub only : List Entry → List Entry
  only es = map (with_only q) es

  again : (e : Entry) → with_only q (with_only q e) ≡ with_only q e
  again e = ap (λ (os : List ObjectEntry). record e { objects = os }) (filter-again (λ x. q x.object) e.objects)

  pub only-only : (es : List Entry) → only (only es) ≡ only es
  only-only [] = refl
  only-only (e ∷ es) = ap (λ x. x ∷ only (only es)) (again e) ∙ ap (λ l. with_only q e ∷ l) (only-only es)

  -- What is kept of a client already is kept again.
  pub only-set : (i : ℕ) (d : Entry) (es : List Entry) → i < length es → only (slice_set es i (with_only q (get_or es i d))) ≡ only es
  only-set i d [] h = absurd (omega arith)
  only-set zero d (e ∷ es) h = ap (λ x. x ∷ only es) (again e)
  only-set (suc i) d (e ∷ es) h = ap (λ l. with_only q e ∷ l) (only-set i d es (omega arith))

  pub only-fewer : (es : List Entry) → objects_in (only es) ≤ objects_in es
  only-fewer [] = omega arith
  only-fewer (e ∷ es) =
      let one = filter-fewer (λ (x : ObjectEntry). q x.object) e.objects in let rest = only-fewer es in
      let a = sum_by-cons object_count (with_only q e) (only es) in let b = sum_by-cons object_count e es in omega arith

  -- Where nothing is to go, all is as it is to be.
  pub only-none : (es : List Entry) → objects_in es ≤ objects_in (only es) → only es ≡ es
  only-none [] h = refl
  only-none (e ∷ es) h =
      let one = filter-fewer (λ (x : ObjectEntry). q x.object) e.objects in let rest = only-fewer es in
      let a = sum_by-cons object_count (with_only q e) (only es) in let b = sum_by-cons object_count e es in
      let own : with_only q e ≡ e = ap (λ (os : List ObjectEntry). record e { objects = os }) (filter-whole (λ x. q x.object) e.objects (omega arith)) in
      ap (λ x. x ∷ only es) own ∙ ap (λ l. e ∷ l) (only-none es (omega arith))

  -- What one client loses is among what is to go, and the rest is to go then.
  pub one-within : (i : ℕ) (d : Entry) (es : List Entry) (to_go gone : ℕ) → i < length es → objects_in es ≤ to_go + objects_in (only es) →
      gone + object_count (with_only q (get_or es i d)) ≡ object_count (get_or es i d) → gone ≤ to_go
  one-within i d es to_go gone h k g =
      let x = with_only q (get_or es i d) in
      let same = ap objects_in (only-set i d es h) in let few = only-fewer (slice_set es i x) in let one = sum_by-set object_count es i x d h in omega arith

  pub one-less : (i : ℕ) (d : Entry) (es : List Entry) (to_go gone rest : ℕ) → i < length es → objects_in es ≤ to_go + objects_in (only es) →
      gone + object_count (with_only q (get_or es i d)) ≡ object_count (get_or es i d) → rest + gone ≡ to_go →
      objects_in (slice_set es i (with_only q (get_or es i d))) ≤ rest + objects_in (only (slice_set es i (with_only q (get_or es i d))))
  one-less i d es to_go gone rest h k g l =
      let x = with_only q (get_or es i d) in
      let same = ap objects_in (only-set i d es h) in let one = sum_by-set object_count es i x d h in omega arith

-- Where each client is kept, keeping them leaves all.
pub kept-whole : (m : ℕ) (es : List Entry) → list_all (is_entry_kept m) es ≡ true → filter (is_entry_kept m) es ≡ es
kept-whole m [] all = refl
kept-whole m (e ∷ es) all =
    let parts = and_parts (is_entry_kept m e) (list_all (is_entry_kept m) es) all in
    ap (λ b. cond b (e ∷ filter (is_entry_kept m) es) (filter (is_entry_kept m) es)) parts.0 ∙ ap (λ l. e ∷ l) (kept-whole m es parts.1)
