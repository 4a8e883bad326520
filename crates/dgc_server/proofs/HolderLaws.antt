-- Counts of an index: one count after it is set, and the counts over the objects of a client.
use Rattle.std.proofs.Common.{◌≡◌, ℕ, ◌+◌, ◌≤◌, ◌<◌, List, [], ◌∷◌, refl, ap, sym, subst, ◌∙◌, arith, cond, Option, Some, None, length, drop, suc, zero}
use Rattle.std.specs.Prelude.{Bool, true, false, ◌&&◌, ◌||◌, not, is_some, unwrap_or, filter, if◌then◌else◌}
use Rattle.std.proofs.Common.{get_or, take}
use Rattle.std.specs.Prelude.{pos}
use Rattle.std.proofs.lemmas.List.{take_more}
use Rattle.std.proofs.lemmas.List.Folds.{list_any-append}
use Rattle.std.proofs.lemmas.Bool.{and_parts, not-true, or_right}
use Rattle.object_ids.specs.declared.ids.ObjId.{ObjId}
use Rattle.object_ids.specs.Same.{same_id, same_key}
use Rattle.object_ids.proofs.Exact.{same_id-self, same_id-equal, same_key-same}
use Rattle.indexmap.specs.IndexMap.{IndexMap, get}
use Rattle.dgc_server.specs.declared.holders.Count.{Count}
use Rattle.dgc_server.specs.declared.holders.Share.{Share}
use Rattle.dgc_server.specs.declared.numbers.Numbers.{Numbers}
use Rattle.dgc_server.specs.Entry.{ObjectEntry, Entry, numbers_of, has_object, is_in, entry_holds}
use Rattle.dgc_server.specs.StandsForCalls.{each_once}
use Rattle.dgc_server.specs.HolderIndex.{Way, Holding, Naming, no_count, count_by, count_at, counted_at, share_by, has_with, has_count, one_if}

-- ---- one count

-- What holds of both ways to count.
pub each-way : (P : Way → Type 0) → P Holding → P Naming → (w : Way) → P w
each-way P a b Holding = a
each-way P a b Naming = b

-- n has w at the key of k, and elsewhere what m has
abbrev pub Puts : {S : Type 0} → ObjId → Count → IndexMap ObjId Count S → IndexMap ObjId Count S → Type 0
Puts k w m n = (q : ObjId) → get same_key n q ≡ cond (same_key k q) (Some w) (get same_key m q)

pub put-count : {S : Type 0} (k : ObjId) (w : Count) (m n : IndexMap ObjId Count S) → Puts k w m n → (o : ObjId) → count_at n o ≡ (if same_id k o then w else count_at m o)
put-count k w m n h o = ap (λ v. unwrap_or v no_count) (h o) ∙ ap (λ b. unwrap_or (cond b (Some w) (get same_key m o)) no_count) (same_key-same k o) ∙ go (same_id k o)
  where
    go : (b : Bool) → unwrap_or (cond b (Some w) (get same_key m o)) no_count ≡ (if b then w else count_at m o)
    go true = refl
    go false = refl

pub put-has : {S : Type 0} (k : ObjId) (w : Count) (m n : IndexMap ObjId Count S) → Puts k w m n → (o : ObjId) → has_count n o ≡ (same_id k o || has_count m o)
put-has k w m n h o = ap is_some (h o) ∙ ap (λ b. is_some (cond b (Some w) (get same_key m o))) (same_key-same k o) ∙ go (same_id k o)
  where
    go : (b : Bool) → is_some (cond b (Some w) (get same_key m o)) ≡ (b || has_count m o)
    go true = refl
    go false = refl

pub put-kept : {S : Type 0} (k : ObjId) (w : Count) (m n : IndexMap ObjId Count S) → Puts k w m n → (o : ObjId) → has_count m o ≡ true → has_count n o ≡ true
put-kept k w m n h o there = put-has k w m n h o ∙ or_right (same_id k o) (has_count m o) there

pub put-here : {S : Type 0} (k : ObjId) (w : Count) (m n : IndexMap ObjId Count S) → Puts k w m n → has_count n k ≡ true
put-here k w m n h = put-has k w m n h k ∙ ap (λ b. b || has_count m k) (same_id-self k)

none-counted : (v : Option Count) → is_some v ≡ false → unwrap_or v no_count ≡ no_count
none-counted None h = refl
none-counted (Some x) h = absurd (cc)

pub touched : {S : Type 0} (k : ObjId) (m n : IndexMap ObjId Count S) (w : Count) → w ≡ no_count → Puts k w m n → has_count m k ≡ false → (v : Way) (o : ObjId) → counted_at v n o ≡ counted_at v m o
touched k m n w new h none v o = ap (count_by v) (put-count k w m n h o ∙ go (same_id k o) refl)
  where
    go : (b : Bool) → same_id k o ≡ b → (if b then w else count_at m o) ≡ count_at m o
    go true e = new ∙ sym (ap (count_at m) (sym (same_id-equal k o e)) ∙ none-counted (get same_key m k) none)
    go false e = refl

-- n has nothing at the key of k, and elsewhere what m has
pub removed : {S : Type 0} (k : ObjId) (m n : IndexMap ObjId Count S) → ((q : ObjId) → get same_key n q ≡ cond (same_key k q) None (get same_key m q)) →
    (w : Way) (o : ObjId) → counted_at w n o ≡ (if same_id k o then 0 else counted_at w m o)
removed k m n h w o =
    ap (λ v. count_by w (unwrap_or v no_count)) (h o) ∙ ap (λ b. count_by w (unwrap_or (cond b None (get same_key m o)) no_count)) (same_key-same k o) ∙ go (same_id k o) w
  where
    go : (b : Bool) (w : Way) → count_by w (unwrap_or (cond b None (get same_key m o)) no_count) ≡ (if b then 0 else counted_at w m o)
    go true Holding = refl
    go true Naming = refl
    go false w = refl

-- a set count, by which one share is another
pub moved : {S : Type 0} (k : ObjId) (v : Count) (m n : IndexMap ObjId Count S) (w : Way) (a b : Bool) → ((o : ObjId) → count_at n o ≡ (if same_id k o then v else count_at m o)) →
    count_by w v + one_if a ≡ counted_at w m k + one_if b →
    (o : ObjId) → counted_at w n o + (if a then one_if (same_id k o) else 0) ≡ counted_at w m o + (if b then one_if (same_id k o) else 0)
moved k v m n w a b h e o = ap (λ x. count_by w x + (if a then one_if (same_id k o) else 0)) (h o) ∙ go (same_id k o) refl
  where
    plain : (a b : Bool) → counted_at w m o + (if a then 0 else 0) ≡ counted_at w m o + (if b then 0 else 0)
    plain true true = refl
    plain true false = refl
    plain false true = refl
    plain false false = refl

    go : (s : Bool) → same_id k o ≡ s → count_by w (if s then v else count_at m o) + (if a then one_if s else 0) ≡ counted_at w m o + (if b then one_if s else 0)
    go true x = e ∙ ap (λ p. counted_at w m p + one_if b) (same_id-equal k o x)
    go false x = plain a b

pub lowered-at : {S : Type 0} (k : ObjId) (v : Count) (m n : IndexMap ObjId Count S) (w : Way) (a : Bool) → ((o : ObjId) → count_at n o ≡ (if same_id k o then v else count_at m o)) →
    count_by w v + one_if a ≡ counted_at w m k → (o : ObjId) → counted_at w n o + (if a then one_if (same_id k o) else 0) ≡ counted_at w m o
lowered-at k v m n w a h e o = let all = moved k v m n w a false h (omega arith) o in omega arith

-- An object of which some share is counted has a count.
pub share-has : {S : Type 0} (m : IndexMap ObjId Count S) (k : ObjId) (s : Share) → (s.holds || s.names) ≡ true → ((w : Way) → one_if (share_by w s) ≤ counted_at w m k) → has_count m k ≡ true
share-has m k s some enough = go (has_count m k) refl
  where
    over : (a b : Bool) → (a || b) ≡ true → one_if a ≤ 0 → one_if b ≤ 0 → true ≡ false
    over true b p x y = absurd (omega arith)
    over false true p x y = absurd (omega arith)
    over false false p x y = sym p

    go : (b : Bool) → has_count m k ≡ b → b ≡ true
    go true e = refl
    go false e =
        let none = none-counted (get same_key m k) e in
        let holding : one_if s.holds ≤ 0 = subst (λ n. one_if s.holds ≤ n) (ap (λ (v : Count). v.holders) none) (enough Holding) in
        let naming : one_if s.names ≤ 0 = subst (λ n. one_if s.names ≤ n) (ap (λ (v : Count). v.clients) none) (enough Naming) in
        sym (over s.holds s.names some holding naming)

-- No share at all changes nothing.
pub no-share : (s : Share) → (s.holds || s.names) ≡ false → (w : Way) → share_by w s ≡ false
no-share s h = each-way (λ w. share_by w s ≡ false) (parts s.holds s.names h).0 (parts s.holds s.names h).1
  where
    parts : (a b : Bool) → (a || b) ≡ false → (a ≡ false) × (b ≡ false)
    parts true b p = absurd (cc)
    parts false true p = absurd (cc)
    parts false false p = (refl, refl)

-- ---- the objects of a client

pub drop-gone : {X : Type 0} (xs : List X) (k : ℕ) → length xs ≤ k → drop k xs ≡ []
drop-gone [] zero h = refl
drop-gone [] (suc k) h = refl
drop-gone (x ∷ xs) zero h = absurd (omega arith)
drop-gone (x ∷ xs) (suc k) h = drop-gone xs k (omega arith)

-- An object to name where a list has none.
abbrev pub no_id : ObjId
no_id = record { number = pos 0; space = record { unique = pos 0; time = pos 0; count = pos 0 } }

pub at-most-one : (b : Bool) → one_if b ≤ 1
at-most-one true = omega arith
at-most-one false = omega arith

module _ (test : Numbers → Bool) where
  -- What the first entry adds to the rest.
  with-first : (x : ObjectEntry) (rest : List ObjectEntry) → each_once (x ∷ rest) ≡ true → (o : ObjId) →
      one_if (has_with test (x ∷ rest) o) ≡ one_if (has_with test rest o) + (if test x.numbers then one_if (same_id x.object o) else 0)
  with-first x rest once o = go (same_id x.object o) (test x.numbers) refl refl
    where
      absent : same_id x.object o ≡ true → has_object rest o ≡ false
      absent e = ap (has_object rest) (sym (same_id-equal x.object o e)) ∙ not-true (has_object rest x.object) (and_parts (not (has_object rest x.object)) (each_once rest) once).0

      go : (a b : Bool) → same_id x.object o ≡ a → test x.numbers ≡ b →
          one_if ((a || has_object rest o) && test (if a then x.numbers else numbers_of rest o)) ≡ one_if (has_with test rest o) + (if b then one_if a else 0)
      go true true p q = rw (q, absent p) refl
      go true false p q = rw (q, absent p) refl
      go false true p q = omega arith
      go false false p q = omega arith

  -- An invariant of a loop over the objects: g is what is counted now, f what was at first, and the objects to come make the difference.
  abbrev pub Lowers : List ObjectEntry → (f g : ObjId → ℕ) → List ObjectEntry → Type 0
  Lowers objects f g rest = (o : ObjId) → g o + one_if (has_with test objects o) ≡ f o + one_if (has_with test rest o)

  pub lowers-step : (objects : List ObjectEntry) (f g h : ObjId → ℕ) (x : ObjectEntry) (rest : List ObjectEntry) → each_once (x ∷ rest) ≡ true → Lowers objects f g (x ∷ rest) →
      ((o : ObjId) → h o + (if test x.numbers then one_if (same_id x.object o) else 0) ≡ g o) → Lowers objects f h rest
  lowers-step objects f g h x rest once inv less o =
      sums (h o) (g o) (f o) (one_if (has_with test objects o)) (one_if (has_with test (x ∷ rest) o)) (one_if (has_with test rest o)) (if test x.numbers then one_if (same_id x.object o) else 0) (inv o) (with-first x rest once o) (less o)
    where
      sums : (h g f all before rest one : ℕ) → g + all ≡ f + before → before ≡ rest + one → h + one ≡ g → h + all ≡ f + rest
      sums h g f all before rest one p q r = omega arith

  -- The next object is counted, so that its count can be lowered.
  pub lower-enough : (objects : List ObjectEntry) (f g : ObjId → ℕ) (x : ObjectEntry) (rest : List ObjectEntry) → Lowers objects f g (x ∷ rest) →
      ((o : ObjId) → one_if (has_with test objects o) ≤ f o) → one_if (test x.numbers) ≤ g x.object
  lower-enough objects f g x rest inv enough =
      let here : one_if (has_with test (x ∷ rest) x.object) ≡ one_if (test x.numbers) = ap (λ b. one_if ((b || has_object rest x.object) && test (if b then x.numbers else numbers_of rest x.object))) (same_id-self x.object) in
      let now = inv x.object in let e = enough x.object in omega arith

-- The next object is among them.
pub next-in : (os : List ObjId) (i : ℕ) (d : ObjId) → i < length os → is_in (get_or os i d) os ≡ true
next-in [] i d h = absurd (omega arith)
next-in (o ∷ os) zero d h = rw (same_id-self o) refl
next-in (o ∷ os) (suc i) d h = or_right (same_id o (get_or os i d)) (is_in (get_or os i d) os) (next-in os i d (omega arith))

-- Each object so far has a count, and the next one.
pub there-more : {S : Type 0} (objects : List ObjId) (m n : IndexMap ObjId Count S) (i : ℕ) (d : ObjId) → i < length objects →
    ((o : ObjId) → has_count m o ≡ true → has_count n o ≡ true) → has_count n (get_or objects i d) ≡ true →
    ((o : ObjId) → is_in o (take i objects) ≡ true → has_count m o ≡ true) → (o : ObjId) → is_in o (take (i + 1) objects) ≡ true → has_count n o ≡ true
there-more objects m n i d within kept here inv o h =
    let x = get_or objects i d in
    go (is_in o (take i objects)) (same_id x o) refl refl
    (sym (list_any-append (λ (y : ObjId). same_id y o) (take i objects) (x ∷ [])) ∙ ap (is_in o) (sym (take_more objects i d within)) ∙ h)
  where
    go : (a b : Bool) → is_in o (take i objects) ≡ a → same_id (get_or objects i d) o ≡ b → (a || (b || false)) ≡ true → has_count n o ≡ true
    go true b p q e = kept o (inv o p)
    go false true p q e = ap (has_count n) (sym (same_id-equal (get_or objects i d) o q)) ∙ here
    go false false p q e = absurd (cc)

-- ---- the clients

-- How many of these clients hold an object at the moment t.
abbrev pub holding : ℕ → List Entry → ObjId → ℕ
holding t es o = length (filter (entry_holds t o) es)
