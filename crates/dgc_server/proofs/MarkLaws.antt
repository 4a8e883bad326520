-- The map from a client's objects to their numbers, as the list of its objects.
use Rattle.std.proofs.Common.{◌≡◌, ℕ, ◌+◌, ◌-◌, ◌≤◌, ◌<◌, List, [], ◌∷◌, refl, ap, sym, subst, ◌∙◌, arith, cond, length, map, Some, drop, get_or, add-one, suc, zero}
use Rattle.std.specs.Prelude.{ℤ, Bool, true, false, ◌&&◌, ◌||◌, not, ◌↔◌, IsTrue, is_some, unwrap_or, filter, max, nat_lt, if◌then◌else◌}
use Rattle.std.specs.List.{list_all}
use Rattle.std.specs.Map.{lookup, set_value, values_of}
use Rattle.std.specs.Map.Calls.{RetainsPairs}
use Rattle.std.proofs.Math.Seq.{drop-cons}
use Rattle.std.proofs.lemmas.Bool.{lt-ltb, and_parts}
use Rattle.sequence.proofs.Lists.{drop-at}
use Rattle.indexmap.specs.IndexMap.{insert_entry}
use Rattle.object_ids.specs.declared.ids.ObjId.{ObjId}
use Rattle.object_ids.specs.Same.{same_id, same_key}
use Rattle.object_ids.proofs.Exact.{same_id-equal, same_key-same}
use Rattle.history.specs.Lists.{distinct}
use Rattle.history.specs.Leases.{is_dirty_kind}
use Rattle.history.specs.declared.calls.CallKind.{CallKind}
use Rattle.history.specs.declared.calls.CallKind.TheVariants.{Dirty, Weak, Strong}
use Rattle.history.proofs.ListLemmas.{and_false}
use Rattle.history.proofs.Equalities.{same_id-turned}
use Rattle.dgc_server.specs.declared.numbers.Numbers.{Numbers}
use Rattle.dgc_server.specs.Numbers.{no_numbers, strong_part, is_dirty_highest, is_remembered}
use Rattle.dgc_server.specs.Entry.{has_number, each_has_number, ObjectEntry, object_entry, object_entries, numbers_of, has_object, is_in, with_numbers, objects_after, entry_holds, Entry, has_strong, strong_only, tenure_forgotten, is_empty, dirty_in}
use Rattle.dgc_server.specs.StandsForCalls.{each_once, entry_after}
use Rattle.dgc_server.specs.HolderIndex.{one_if}
use Rattle.dgc_server.proofs.Fresh.{counted}
use Rattle.dgc_server.proofs.Objects.{numbers_after, numbers-with, numbers-forgotten, numbers-after}
use Rattle.dgc_server.proofs.Steps.{earlier}

pub key-turned : (a b : ObjId) → same_key a b ≡ same_id b a
key-turned a b = same_key-same a b ∙ same_id-turned a b

-- ---- one object

pub numbers-looked_up : (ps : List (ObjId × Numbers)) (o : ObjId) → unwrap_or (lookup (same_key o) ps) no_numbers ≡ numbers_of (object_entries ps) o
numbers-looked_up [] o = refl
numbers-looked_up (p ∷ ps) o = ap (λ b. unwrap_or (cond b (Some p.1) (lookup (same_key o) ps)) no_numbers) (key-turned o p.0) ∙ go (same_id p.0 o) (numbers-looked_up ps o)
  where
    go : (b : Bool) → unwrap_or (lookup (same_key o) ps) no_numbers ≡ numbers_of (object_entries ps) o →
        unwrap_or (cond b (Some p.1) (lookup (same_key o) ps)) no_numbers ≡ (if b then p.1 else numbers_of (object_entries ps) o)
    go true rest = refl
    go false rest = rest

pub has-looked_up : (ps : List (ObjId × Numbers)) (o : ObjId) → is_some (lookup (same_key o) ps) ≡ has_object (object_entries ps) o
has-looked_up [] o = refl
has-looked_up (p ∷ ps) o = ap (λ b. is_some (cond b (Some p.1) (lookup (same_key o) ps))) (key-turned o p.0) ∙ go (same_id p.0 o) (has-looked_up ps o)
  where
    go : (b : Bool) → is_some (lookup (same_key o) ps) ≡ has_object (object_entries ps) o → is_some (cond b (Some p.1) (lookup (same_key o) ps)) ≡ (b || has_object (object_entries ps) o)
    go true rest = refl
    go false rest = rest

pub entries-inserted : (ps : List (ObjId × Numbers)) (o : ObjId) (numbers : Numbers) → object_entries (insert_entry same_key ps o numbers) ≡ with_numbers o numbers (object_entries ps)
entries-inserted [] o numbers = refl
entries-inserted (p ∷ ps) o numbers =
    ap (λ b. object_entries (if b then (p.0, numbers) ∷ ps else p ∷ insert_entry same_key ps o numbers)) (key-turned o p.0) ∙ go (same_id p.0 o) (entries-inserted ps o numbers)
  where
    go : (b : Bool) → object_entries (insert_entry same_key ps o numbers) ≡ with_numbers o numbers (object_entries ps) →
        object_entries (if b then (p.0, numbers) ∷ ps else p ∷ insert_entry same_key ps o numbers)
        ≡ (if b then record { object = p.0; numbers = numbers } ∷ object_entries ps else object_entry p ∷ with_numbers o numbers (object_entries ps))
    go true rest = refl
    go false rest = ap (λ l. object_entry p ∷ l) rest

-- What is written where an object is found.
pub entries-written : (ps : List (ObjId × Numbers)) (o : ObjId) (numbers : Numbers) → has_object (object_entries ps) o ≡ true →
    object_entries (set_value (same_key o) ps numbers) ≡ with_numbers o numbers (object_entries ps)
entries-written [] o numbers h = absurd (cc)
entries-written (p ∷ ps) o numbers h =
    ap (λ b. object_entries (cond b ((p.0, numbers) ∷ ps) (p ∷ set_value (same_key o) ps numbers))) (key-turned o p.0) ∙ go (same_id p.0 o) h (entries-written ps o numbers)
  where
    go : (b : Bool) → (b || has_object (object_entries ps) o) ≡ true →
        (has_object (object_entries ps) o ≡ true → object_entries (set_value (same_key o) ps numbers) ≡ with_numbers o numbers (object_entries ps)) →
        object_entries (cond b ((p.0, numbers) ∷ ps) (p ∷ set_value (same_key o) ps numbers))
        ≡ (if b then record { object = p.0; numbers = numbers } ∷ object_entries ps else object_entry p ∷ with_numbers o numbers (object_entries ps))
    go true f rest = refl
    go false f rest = ap (λ l. object_entry p ∷ l) (rest f)

-- ---- all objects

pub counted-values : (q : Numbers → Bool) (ps : List (ObjId × Numbers)) → length (filter q (values_of ps)) ≡ length (filter (λ (e : ObjectEntry). q e.numbers) (object_entries ps))
counted-values q [] = refl
counted-values q (p ∷ ps) = go (q p.1) (counted-values q ps)
  where
    go : (b : Bool) → length (filter q (values_of ps)) ≡ length (filter (λ (e : ObjectEntry). q e.numbers) (object_entries ps)) →
        length (cond b (p.1 ∷ filter q (values_of ps)) (filter q (values_of ps))) ≡ length (cond b (object_entry p ∷ filter (λ (e : ObjectEntry). q e.numbers) (object_entries ps)) (filter (λ (e : ObjectEntry). q e.numbers) (object_entries ps)))
    go true rest = ap suc rest
    go false rest = rest

pub entries-filtered : (q : ObjId → Bool) (ps : List (ObjId × Numbers)) → object_entries (filter (λ p. q p.0) ps) ≡ filter (λ (e : ObjectEntry). q e.object) (object_entries ps)
entries-filtered q [] = refl
entries-filtered q (p ∷ ps) = go (q p.0) (entries-filtered q ps)
  where
    go : (b : Bool) → object_entries (filter (λ p. q p.0) ps) ≡ filter (λ (e : ObjectEntry). q e.object) (object_entries ps) →
        object_entries (cond b (p ∷ filter (λ p. q p.0) ps) (filter (λ p. q p.0) ps)) ≡ cond b (object_entry p ∷ filter (λ (e : ObjectEntry). q e.object) (object_entries ps)) (filter (λ (e : ObjectEntry). q e.object) (object_entries ps))
    go true rest = ap (λ l. object_entry p ∷ l) rest
    go false rest = rest

-- Where an object is not there, all are others.
pub others-all : (o : ObjId) (es : List ObjectEntry) → has_object es o ≡ false → filter (λ x. not (same_id x.object o)) es ≡ es
others-all o [] h = refl
others-all o (e ∷ es) h = go (same_id e.object o) h (others-all o es)
  where
    go : (b : Bool) → (b || has_object es o) ≡ false → (has_object es o ≡ false → filter (λ x. not (same_id x.object o)) es ≡ es) →
        cond (not b) (e ∷ filter (λ x. not (same_id x.object o)) es) (filter (λ x. not (same_id x.object o)) es) ≡ e ∷ es
    go true f rest = absurd (cc)
    go false f rest = ap (λ l. e ∷ l) (rest f)

pub none-kept : (b : Bool) (ps : List (ObjId × Numbers)) → (IsTrue b ↔ (length ps ≡ 0)) → b ≡ is_empty (object_entries ps)
none-kept b [] h = h.1 refl
none-kept true (p ∷ ps) h = absurd (let e = h.0 refl in omega arith)
none-kept false (p ∷ ps) h = refl

-- What `retain` leaves where the closure keeps the objects of strong cleans, and of them the strong cleans' numbers.
module _ {F : Type 0} (T : F → ObjId → Numbers → Bool → Numbers → F → Type 0) (f : F)
    (says : (k : ObjId) (v : Numbers) (b : Bool) (w : Numbers) (g : F) → T f k v b w g → (b ≡ is_some v.strong) × (w ≡ strong_part v) × (g ≡ f)) where
  pub tenure-retained : (ps kept : List (ObjId × Numbers)) → RetainsPairs T f ps kept → object_entries kept ≡ tenure_forgotten (object_entries ps)
  tenure-retained [] kept h = ap object_entries h
  tenure-retained (p ∷ ps) kept h =
      let s = says p.0 p.1 h.0 h.1 h.2 h.4 in
      let rest = tenure-retained ps h.3 (let P : F → Type 0 = λ g. RetainsPairs T g ps h.3 in subst P s.2 h.5) in
      ap object_entries h.6 ∙ ap (λ b. object_entries (cond b ((p.0, h.1) ∷ h.3) h.3)) s.0 ∙ ap (λ w. object_entries (cond (is_some p.1.strong) ((p.0, w) ∷ h.3) h.3)) s.1 ∙ go (is_some p.1.strong) h.3 rest
    where
      go : (b : Bool) (l : List (ObjId × Numbers)) → object_entries l ≡ tenure_forgotten (object_entries ps) →
          object_entries (cond b ((p.0, strong_part p.1) ∷ l) l) ≡ map strong_only (cond b (object_entry p ∷ filter has_strong (object_entries ps)) (filter has_strong (object_entries ps)))
      go true l r = ap (λ l. record { object = p.0; numbers = strong_part p.1 } ∷ l) r
      go false l r = r

-- ---- counts

-- An object that has other numbers: what is counted before and after.
pub shifted : (o : ObjId) (numbers : Numbers) (es : List ObjectEntry) (f g : ObjId → ℕ) →
    ((p : ObjId) → g p + (if dirty_in es o then one_if (same_id o p) else 0) ≡ f p + (if is_dirty_highest numbers then one_if (same_id o p) else 0)) →
    (p : ObjId) → g p + one_if (dirty_in es p) ≡ f p + one_if (dirty_in (with_numbers o numbers es) p)
shifted o numbers es f g h p =
    go (same_id o p) (dirty_in es o) (is_dirty_highest numbers) refl refl refl (h p)
    ∙ ap (λ n. f p + one_if (is_dirty_highest n)) (sym (numbers-with o numbers es p))
  where
    plain : (b a : Bool) → g p + (if b then 0 else 0) ≡ f p + (if a then 0 else 0) → g p ≡ f p
    plain true true e = omega arith
    plain true false e = omega arith
    plain false true e = omega arith
    plain false false e = omega arith

    go : (s b a : Bool) → same_id o p ≡ s → dirty_in es o ≡ b → is_dirty_highest numbers ≡ a → g p + (if b then one_if s else 0) ≡ f p + (if a then one_if s else 0) →
        g p + one_if (dirty_in es p) ≡ f p + one_if (is_dirty_highest (if s then numbers else numbers_of es p))
    go true b a x y z e = ap (λ v. g p + one_if v) (ap (dirty_in es) (sym (same_id-equal o p x)) ∙ y) ∙ e ∙ ap (λ v. f p + one_if v) (sym z)
    go false b a x y z e = ap (λ n. n + one_if (dirty_in es p)) (plain b a e)

pub not-dirty : (es : List ObjectEntry) (o : ObjId) → each_once es ≡ true → dirty_in (tenure_forgotten es) o ≡ false
not-dirty es o h = ap is_dirty_highest (numbers-forgotten es o h)

-- What an entry holds after a call is what its objects say: it has time left, or no dirty is left.
pub holds-after : (lease : ℕ) (kind : CallKind) (n : ℤ) (os : List ObjId) (time from : ℕ) (e : Entry) → from ≤ time → 1 ≤ lease → each_once e.objects ≡ true → (o : ObjId) →
    dirty_in (entry_after lease kind n os time e).objects o ≡ entry_holds from o (entry_after lease kind n os time e)
holds-after lease kind n os time from e le some once o = go kind (nat_lt time e.until) refl
  where
    dirty : CallKind → Bool → Bool
    dirty k left = dirty_in (objects_after left k n os e.objects) o

    none : (k : CallKind) → is_dirty_kind k ≡ false → dirty k false ≡ false
    none k d = ap is_dirty_highest (numbers-after false k n os e.objects o once) ∙ over k (is_in o os) d
      where
        over : (k : CallKind) (named : Bool) → is_dirty_kind k ≡ false → is_dirty_highest (numbers_after false k n named (numbers_of e.objects o)) ≡ false
        over Dirty named f = absurd (cc)
        over Weak named f = refl
        over Strong true f = refl
        over Strong false f = refl

    other : (k : CallKind) (left : Bool) → is_dirty_kind k ≡ false → nat_lt time e.until ≡ left → dirty k left ≡ (nat_lt from e.until && dirty k left)
    other k true f x = ap (λ b. b && dirty k true) (sym (earlier from time e.until le x))
    other k false f x = none k f ∙ sym (ap (λ b. nat_lt from e.until && b) (none k f) ∙ and_false (nat_lt from e.until))

    go : (k : CallKind) (left : Bool) → nat_lt time e.until ≡ left → dirty k left ≡ (nat_lt from (if is_dirty_kind k then max (time + lease) e.until else e.until) && dirty k left)
    go Dirty left x = ap (λ b. b && dirty Dirty left) (sym (lt-ltb from (max (time + lease) e.until) (omega arith)))
    go Weak left x = other Weak left refl x
    go Strong left x = other Strong left refl x

-- ---- counting from the last to the first

pub counted-at : (p : ObjId → Bool) (os : List ObjId) (i : ℕ) (d : ObjId) → i < length os →
    length (filter p (distinct same_id (drop i os))) ≡ (if not (is_in (get_or os i d) (drop (i + 1) os)) && p (get_or os i d) then 1 else 0) + length (filter p (distinct same_id (drop (i + 1) os)))
counted-at p os i d h = rw add-one (ap (λ l. length (filter p (distinct same_id l))) (drop-cons os i d h) ∙ counted p (get_or os i d) (drop (suc i) os))

pub counting-step : (p : ObjId → Bool) (os : List ObjId) (i : ℕ) (d : ObjId) (before : ObjId → Bool) (count : ℕ) (first : Bool) → 0 < i → i ≤ length os →
    ((o : ObjId) → before o ≡ is_in o (drop i os)) → count ≡ length (filter p (distinct same_id (drop i os))) → first ≡ (not (before (get_or os (i - 1) d)) && p (get_or os (i - 1) d)) →
    count + (if first then 1 else 0) ≡ length (filter p (distinct same_id (drop (i - 1) os)))
counting-step p os i d before count first some within seen counted f =
    let x = get_or os (i - 1) d in
    let next : i - 1 + 1 ≡ i = omega arith in
    let whole : length (filter p (distinct same_id (drop (i - 1) os))) ≡ (if first then 1 else 0) + length (filter p (distinct same_id (drop i os))) =
    counted-at p os (i - 1) d (omega arith)
    ∙ ap (λ n. (if not (is_in x (drop n os)) && p x then 1 else 0) + length (filter p (distinct same_id (drop n os)))) next
    ∙ ap (λ b. (if b then 1 else 0) + length (filter p (distinct same_id (drop i os)))) (sym (f ∙ ap (λ b. not b && p x) (seen x))) in
    omega (arith, whole, counted)

pub seen-step : (os : List ObjId) (i : ℕ) (d : ObjId) (before after : ObjId → Bool) → 0 < i → i ≤ length os → ((o : ObjId) → before o ≡ is_in o (drop i os)) →
    ((o : ObjId) → after o ≡ cond (same_key (get_or os (i - 1) d) o) true (before o)) → (o : ObjId) → after o ≡ is_in o (drop (i - 1) os)
seen-step os i d before after some within seen step o =
    let x = get_or os (i - 1) d in
    let next : i - 1 + 1 ≡ i = omega arith in
    step o ∙ ap (λ b. cond b true (before o)) (same_key-same x o) ∙ go (same_id x o)
    ∙ ap (λ b. same_id x o || b) (seen o ∙ ap (λ n. is_in o (drop n os)) (sym next))
    ∙ ap (is_in o) (sym (drop-at os (i - 1) d (omega arith)))
  where
    go : (b : Bool) → cond b true (before o) ≡ (b || before o)
    go true = refl
    go false = refl

-- ---- all are remembered while there is time left

pub all-remembered : (es : List ObjectEntry) → each_has_number es ≡ true → length (filter (λ (x : ObjectEntry). is_remembered true x.numbers) es) ≡ length es
all-remembered [] h = refl
all-remembered (e ∷ es) h =
    let two = and_parts (has_number e) (each_has_number es) h in
    ap (λ b. length (cond b (e ∷ filter (λ (x : ObjectEntry). is_remembered true x.numbers) es) (filter (λ (x : ObjectEntry). is_remembered true x.numbers) es))) two.0 ∙ ap suc (all-remembered es two.1)

pub all-at : {X : Type 0} (q : X → Bool) (xs : List X) (i : ℕ) (d : X) → i < length xs → list_all q xs ≡ true → q (get_or xs i d) ≡ true
all-at q [] i d h a = absurd (omega arith)
all-at q (x ∷ xs) zero d h a = (and_parts (q x) (list_all q xs) a).0
all-at q (x ∷ xs) (suc i) d h a = all-at q xs i d (omega arith) (and_parts (q x) (list_all q xs) a).1
