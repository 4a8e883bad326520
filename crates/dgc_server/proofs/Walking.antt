-- A walk over the clients that forgets an object.
use Rattle.std.proofs.Common.{◌≡◌, ℕ, ◌+◌, ◌≤◌, ◌<◌, List, [], ◌∷◌, refl, ap, sym, ◌∙◌, arith, cond, length, map, take, get_or, suc, zero}
use Rattle.std.specs.Prelude.{Bool, true, false, ◌&&◌, ◌||◌, not, filter, nat_lt, slice_set, remove, if◌then◌else◌}
use Rattle.std.specs.List.{list_all, AllByRecursion}
use Rattle.std.proofs.lemmas.Bool.{and_parts, and_from, not-true}
use Rattle.std.proofs.lemmas.List.Sums.{sum_by-cons}
use Rattle.std.proofs.lemmas.List.{length-map}
use Rattle.object_ids.specs.declared.ids.ObjId.{ObjId}
use Rattle.object_ids.specs.Same.{same_id}
use Rattle.object_ids.proofs.Exact.{same_id-self, same_id-equal}
use Rattle.dgc_server.specs.Numbers.{is_remembered}
use Rattle.dgc_server.specs.Entry.{ObjectEntry, Entry, entry_after_lapse, is_entry_kept, is_empty, has_time_left, has_number, each_has_number, has_object, has_strong, strong_only, tenure_forgotten, entry_without, remembered_of}
use Rattle.dgc_server.specs.Table.{remembered_count}
use Rattle.dgc_server.specs.StandsForCalls.{each_once}
use Rattle.dgc_server.specs.HolderIndex.{IsSettled, entry_names, one_if}
use Rattle.dgc_server.proofs.MarkLaws.{others-all, all-remembered}
use Rattle.dgc_server.proofs.IndexLaws.{names-without}
use Rattle.dgc_server.proofs.Dropping.{lapsed-without}

-- Of a settled client each object makes a remembered pair.
pub whole : (m : ℕ) (e : Entry) → entry_after_lapse m e ≡ e → each_has_number e.objects ≡ true → remembered_of m e ≡ length e.objects
whole m e settled numbered = go (nat_lt m e.until) settled
  where
    go : (b : Bool) → (if b then e else record e { objects = tenure_forgotten e.objects }) ≡ e → length (filter (λ (x : ObjectEntry). is_remembered b x.numbers) e.objects) ≡ length e.objects
    go true s = all-remembered e.objects numbered
    go false s = sym (length-map (filter has_strong e.objects) strong_only) ∙ ap (λ (x : Entry). length x.objects) s

-- ---- one step

module _ (o : ObjId) (m : ℕ) where
  -- The clients without the object, but for those of which nothing is left.
  abbrev pub rest_of : List Entry → List Entry
  rest_of es = filter (is_entry_kept m) (map (entry_without o) es)

  -- The clients once the i-th is without the object.
  abbrev pub changed : ℕ → Entry → List Entry → List Entry
  changed i d es = if is_entry_kept m (entry_without o (get_or es i d)) then slice_set es i (entry_without o (get_or es i d)) else remove es i

  changed-later : (i : ℕ) (d e : Entry) (es : List Entry) → changed (suc i) d (e ∷ es) ≡ e ∷ changed i d es
  changed-later i d e es = go (is_entry_kept m (entry_without o (get_or es i d)))
    where
      go : (b : Bool) → (if b then e ∷ slice_set es i (entry_without o (get_or es i d)) else e ∷ remove es i) ≡ e ∷ (if b then slice_set es i (entry_without o (get_or es i d)) else remove es i)
      go true = refl
      go false = refl

  again : (os : List ObjectEntry) → filter (λ x. not (same_id x.object o)) (filter (λ x. not (same_id x.object o)) os) ≡ filter (λ x. not (same_id x.object o)) os
  again [] = refl
  again (x ∷ os) = go (same_id x.object o) refl (again os)
    where
      go : (b : Bool) → same_id x.object o ≡ b → filter (λ x. not (same_id x.object o)) (filter (λ x. not (same_id x.object o)) os) ≡ filter (λ x. not (same_id x.object o)) os →
          filter (λ x. not (same_id x.object o)) (cond (not b) (x ∷ filter (λ x. not (same_id x.object o)) os) (filter (λ x. not (same_id x.object o)) os))
          ≡ cond (not b) (x ∷ filter (λ x. not (same_id x.object o)) os) (filter (λ x. not (same_id x.object o)) os)
      go true y h = h
      go false y h = rw y (ap (λ l. x ∷ l) h)

  without-again : (e : Entry) → entry_without o (entry_without o e) ≡ entry_without o e
  without-again e = ap (λ os. record e { objects = os }) (again e.objects)

  names-no-more : (e : Entry) → entry_names o (entry_without o e) ≡ false
  names-no-more e = names-without o o e.objects ∙ ap (λ b. not b && has_object e.objects o) (same_id-self o)

  pub changed-same : (i : ℕ) (d : Entry) (es : List Entry) → i < length es → rest_of (changed i d es) ≡ rest_of es
  changed-same i d [] h = absurd (omega arith)
  changed-same zero d (e ∷ es) h = go (is_entry_kept m (entry_without o e)) refl
    where
      go : (b : Bool) → is_entry_kept m (entry_without o e) ≡ b → rest_of (if b then entry_without o e ∷ es else es) ≡ cond b (entry_without o e ∷ rest_of es) (rest_of es)
      go true k = ap (λ x. cond (is_entry_kept m x) (x ∷ rest_of es) (rest_of es)) (without-again e) ∙ ap (λ b. cond b (entry_without o e ∷ rest_of es) (rest_of es)) k
      go false k = refl
  changed-same (suc i) d (e ∷ es) h =
      ap rest_of (changed-later i d e es) ∙ ap (λ l. cond (is_entry_kept m (entry_without o e)) (entry_without o e ∷ l) l) (changed-same i d es (omega arith))

  pub changed-kept : (i : ℕ) (d : Entry) (es : List Entry) → i < length es → list_all (is_entry_kept m) es ≡ true → list_all (is_entry_kept m) (changed i d es) ≡ true
  changed-kept i d [] h all = absurd (omega arith)
  changed-kept zero d (e ∷ es) h all = go (is_entry_kept m (entry_without o e)) refl (and_parts (is_entry_kept m e) (list_all (is_entry_kept m) es) all).1
    where
      go : (b : Bool) → is_entry_kept m (entry_without o e) ≡ b → list_all (is_entry_kept m) es ≡ true → list_all (is_entry_kept m) (if b then entry_without o e ∷ es else es) ≡ true
      go true k a = and_from (is_entry_kept m (entry_without o e)) (list_all (is_entry_kept m) es) k a
      go false k a = a
  changed-kept (suc i) d (e ∷ es) h all =
      let two = and_parts (is_entry_kept m e) (list_all (is_entry_kept m) es) all in
      ap (list_all (is_entry_kept m)) (changed-later i d e es) ∙ and_from (is_entry_kept m e) (list_all (is_entry_kept m) (changed i d es)) two.0 (changed-kept i d es (omega arith) two.1)

  pub changed-names : (i : ℕ) (d : Entry) (es : List Entry) → i < length es →
      length (filter (entry_names o) (changed i d es)) + one_if (entry_names o (get_or es i d)) ≡ length (filter (entry_names o) es)
  changed-names i d [] h = absurd (omega arith)
  changed-names zero d (e ∷ es) h = rest (is_entry_kept m (entry_without o e)) ∙ sym (first (entry_names o e))
    where
      first : (b : Bool) → length (cond b (e ∷ filter (entry_names o) es) (filter (entry_names o) es)) ≡ length (filter (entry_names o) es) + one_if b
      first true = omega arith
      first false = omega arith

      rest : (b : Bool) → length (filter (entry_names o) (if b then entry_without o e ∷ es else es)) + one_if (entry_names o e) ≡ length (filter (entry_names o) es) + one_if (entry_names o e)
      rest true = ap (λ b. length (cond b (entry_without o e ∷ filter (entry_names o) es) (filter (entry_names o) es)) + one_if (entry_names o e)) (names-no-more e)
      rest false = refl
  changed-names (suc i) d (e ∷ es) h =
      ap (λ l. length (filter (entry_names o) l) + one_if (entry_names o (get_or es i d))) (changed-later i d e es) ∙ go (entry_names o e) (changed-names i d es (omega arith))
    where
      go : (b : Bool) → length (filter (entry_names o) (changed i d es)) + one_if (entry_names o (get_or es i d)) ≡ length (filter (entry_names o) es) →
          length (cond b (e ∷ filter (entry_names o) (changed i d es)) (filter (entry_names o) (changed i d es))) + one_if (entry_names o (get_or es i d)) ≡ length (cond b (e ∷ filter (entry_names o) es) (filter (entry_names o) es))
      go true x = omega arith
      go false x = x

  pub changed-front : (i : ℕ) (d : Entry) (es : List Entry) → i < length es → take i (changed i d es) ≡ take i es
  changed-front i d [] h = absurd (omega arith)
  changed-front zero d (e ∷ es) h = refl
  changed-front (suc i) d (e ∷ es) h = ap (take (suc i)) (changed-later i d e es) ∙ ap (λ l. e ∷ l) (changed-front i d es (omega arith))

  pub changed-short : (i : ℕ) (d : Entry) (es : List Entry) → i < length es → length (changed i d es) ≤ length es
  changed-short i d [] h = absurd (omega arith)
  changed-short zero d (e ∷ es) h = go (is_entry_kept m (entry_without o e))
    where
      go : (b : Bool) → length (if b then entry_without o e ∷ es else es) ≤ length (e ∷ es)
      go true = omega arith
      go false = omega arith
  changed-short (suc i) d (e ∷ es) h = let same = ap length (changed-later i d e es) in let rest = changed-short i d es (omega arith) in omega arith

  -- ---- the end

  -- Once no client names the object, nothing of it is to be forgotten.
  pub walked-all : (es : List Entry) → length (filter (entry_names o) es) ≡ 0 → list_all (is_entry_kept m) es ≡ true → rest_of es ≡ es
  walked-all [] none all = refl
  walked-all (e ∷ es) none all = go (has_object e.objects o) refl none (λ k. walked-all es k two.1)
    where
      two : (is_entry_kept m e ≡ true) × (list_all (is_entry_kept m) es ≡ true)
      two = let parts = and_parts (is_entry_kept m e) (list_all (is_entry_kept m) es) all in (parts.0, parts.1)

      go : (b : Bool) → has_object e.objects o ≡ b → length (cond b (e ∷ filter (entry_names o) es) (filter (entry_names o) es)) ≡ 0 →
          (length (filter (entry_names o) es) ≡ 0 → rest_of es ≡ es) → rest_of (e ∷ es) ≡ e ∷ es
      go true x none later = absurd (omega arith)
      go false x none later =
          let same : entry_without o e ≡ e = ap (λ os. record e { objects = os }) (others-all o e.objects x) in
          ap (λ x. cond (is_entry_kept m x) (x ∷ rest_of es) (rest_of es)) same ∙ ap (λ b. cond b (e ∷ rest_of es) (rest_of es)) two.0 ∙ ap (λ l. e ∷ l) (later none)

  -- ---- the sums

  pub leased-dropped : (es : List Entry) → length (filter (has_time_left m) (rest_of es)) ≡ length (filter (has_time_left m) es)
  leased-dropped [] = refl
  leased-dropped (e ∷ es) = go (nat_lt m e.until) (not (is_empty (entry_without o e).objects)) refl (leased-dropped es)
    where
      go : (a b : Bool) → nat_lt m e.until ≡ a → length (filter (has_time_left m) (rest_of es)) ≡ length (filter (has_time_left m) es) →
          length (filter (has_time_left m) (cond (a || b) (entry_without o e ∷ rest_of es) (rest_of es))) ≡ length (cond a (e ∷ filter (has_time_left m) es) (filter (has_time_left m) es))
      go true b x h = rw x (omega arith)
      go false true x h = rw x h
      go false false x h = h

  short : (os : List ObjectEntry) → each_once os ≡ true → length (filter (λ x. not (same_id x.object o)) os) + one_if (has_object os o) ≡ length os
  short [] once = refl
  short (x ∷ os) once = go (same_id x.object o) refl (short os two.1)
    where
      two : (not (has_object os x.object) ≡ true) × (each_once os ≡ true)
      two = let parts = and_parts (not (has_object os x.object)) (each_once os) once in (parts.0, parts.1)

      go : (b : Bool) → same_id x.object o ≡ b → length (filter (λ x. not (same_id x.object o)) os) + one_if (has_object os o) ≡ length os →
          length (cond (not b) (x ∷ filter (λ x. not (same_id x.object o)) os) (filter (λ x. not (same_id x.object o)) os)) + one_if (b || has_object os o) ≡ length (x ∷ os)
      go true y h =
          let none : one_if (has_object os o) ≡ 0 = ap one_if (ap (has_object os) (sym (same_id-equal x.object o y)) ∙ not-true (has_object os x.object) two.0) in omega arith
      go false y h = omega arith

  numbered-filter : (os : List ObjectEntry) → each_has_number os ≡ true → each_has_number (filter (λ x. not (same_id x.object o)) os) ≡ true
  numbered-filter [] h = refl
  numbered-filter (x ∷ os) h = go (same_id x.object o) (and_parts (has_number x) (each_has_number os) h).0 (numbered-filter os (and_parts (has_number x) (each_has_number os) h).1)
    where
      go : (b : Bool) → has_number x ≡ true → each_has_number (filter (λ x. not (same_id x.object o)) os) ≡ true →
          each_has_number (cond (not b) (x ∷ filter (λ x. not (same_id x.object o)) os) (filter (λ x. not (same_id x.object o)) os)) ≡ true
      go true a r = r
      go false a r = and_from (has_number x) (each_has_number (filter (λ x. not (same_id x.object o)) os)) a r

  -- As many pairs go as clients name the object.
  pub pairs-dropped : (n : ℕ) (es : List Entry) → AllByRecursion (IsSettled m n) es → list_all (λ e. each_has_number e.objects) es ≡ true → list_all (λ e. each_once e.objects) es ≡ true →
      remembered_count m (rest_of es) + length (filter (entry_names o) es) ≡ remembered_count m es
  pairs-dropped n [] a numbered once = refl
  pairs-dropped n (e ∷ es) a numbered once =
      let number = and_parts (each_has_number e.objects) (list_all (λ e. each_has_number e.objects) es) numbered in
      let one = and_parts (each_once e.objects) (list_all (λ e. each_once e.objects) es) once in
      let all = whole m e a.0.forgotten number.0 in
      let left = whole m (entry_without o e) (lapsed-without m n o e a.0) (numbered-filter e.objects number.0) in
      let parted = short e.objects one.0 in
      let sums = sum_by-cons (remembered_of m) e es in
      first (is_entry_kept m (entry_without o e)) (entry_names o e) refl refl all left parted sums (pairs-dropped n es a.1 number.1 one.1)
    where
      nothing : (b : Bool) (os : List ObjectEntry) → (b || not (is_empty os)) ≡ false → length os ≡ 0
      nothing b [] h = refl
      nothing true (x ∷ os) h = absurd (cc)
      nothing false (x ∷ os) h = absurd (cc)

      first : (k b : Bool) → is_entry_kept m (entry_without o e) ≡ k → entry_names o e ≡ b → remembered_of m e ≡ length e.objects → remembered_of m (entry_without o e) ≡ length (entry_without o e).objects →
          length (entry_without o e).objects + one_if (entry_names o e) ≡ length e.objects → remembered_count m (e ∷ es) ≡ remembered_of m e + remembered_count m es →
          remembered_count m (rest_of es) + length (filter (entry_names o) es) ≡ remembered_count m es →
          remembered_count m (cond k (entry_without o e ∷ rest_of es) (rest_of es)) + length (cond b (e ∷ filter (entry_names o) es) (filter (entry_names o) es)) ≡ remembered_count m (e ∷ es)
      first true true x y all left parted sums rest =
          let s = sum_by-cons (remembered_of m) (entry_without o e) (rest_of es) in let v = ap one_if y in omega arith
      first true false x y all left parted sums rest =
          let s = sum_by-cons (remembered_of m) (entry_without o e) (rest_of es) in let v = ap one_if y in omega arith
      first false true x y all left parted sums rest =
          let gone = nothing (nat_lt m e.until) (entry_without o e).objects x in let v = ap one_if y in omega arith
      first false false x y all left parted sums rest =
          let gone = nothing (nat_lt m e.until) (entry_without o e).objects x in let v = ap one_if y in omega arith

pub all-kept : (m n : ℕ) (es : List Entry) → AllByRecursion (IsSettled m n) es → list_all (is_entry_kept m) es ≡ true
all-kept m n [] a = refl
all-kept m n (e ∷ es) a = and_from (is_entry_kept m e) (list_all (is_entry_kept m) es) a.0.kept (all-kept m n es a.1)
