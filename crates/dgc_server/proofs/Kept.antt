-- How many pairs are remembered, as time passes, after a call, and without an object; and that each client has its objects once, with some
-- number of each.
use Rattle.std.proofs.Common.{◌≡◌, ℕ, ◌+◌, ◌≤◌, List, [], ◌∷◌, ◌++◌, length, refl, ap, sym, ◌∙◌, arith, cond, map, length-append}
use Rattle.std.specs.Prelude.{ℤ, Bool, true, false, ◌&&◌, ◌||◌, not, filter, is_some, int_lt, nat_lt, sum_by, Option, Some, None, if◌then◌else◌}
use Rattle.std.specs.List.{list_any, list_all}
use Rattle.std.specs.Ordering.{is_lt, is_eq}
use Rattle.std.specs.declared.cmp.Ordering.{Ordering}
use Rattle.std.specs.declared.cmp.Ordering.TheVariants.{Less, Equal, Greater}
use Rattle.std.proofs.lemmas.Bool.{and_parts, and_from, not-true}
use Rattle.std.proofs.lemmas.List.Folds.{list_any-append}
use Rattle.std.proofs.lemmas.List.Sums.{sum_by-cons}
use Rattle.std.proofs.lemmas.List.{length-map}
use Rattle.object_ids.specs.declared.ids.ObjId.{ObjId}
use Rattle.object_ids.specs.Client.{Client, client_cmp}
use Rattle.object_ids.specs.Same.{same_client, same_id}
use Rattle.object_ids.proofs.Exact.{same_client-equal, same_client-true, same_id-self, same_id-equal}
use Rattle.object_ids.proofs.Order.{client_cmp-equal, client_cmp-self}
use Rattle.history.specs.declared.calls.CallKind.{CallKind}
use Rattle.history.specs.declared.calls.CallKind.TheVariants.{Dirty, Weak, Strong}
use Rattle.history.specs.Lists.{distinct, AllOnce}
use Rattle.history.proofs.ListLemmas.{length-fewer, or_true, any-filtered, any-distinct, same-turned}
use Rattle.history.proofs.Equalities.{object-equality}
use Rattle.dgc_server.specs.declared.numbers.Numbers.{Numbers}
use Rattle.dgc_server.specs.Numbers.{larger, with_call_noted, is_remembered}
use Rattle.dgc_server.specs.Entry.{ObjectEntry, Entry, numbers_of, is_in, has_number, each_has_number, with_numbers, object_noted, objects_noted, objects_after, call_counts, has_strong, strong_only, tenure_forgotten, entry_after_lapse, is_entry_kept, has_time_left, remembered_of, entry_remembers, fresh_of, entry_without}
use Rattle.dgc_server.specs.Table.{no_entry, entry_of, with_entry, after_lapse, remembered_count, pairs_after}
use Rattle.dgc_server.specs.StandsForCalls.{is_in_order, each_once, entry_after}
use Rattle.dgc_server.proofs.Counting.{object-turned, kept_of, any-kept, once-kept_of, fresh}
use Rattle.dgc_server.proofs.Distinct.{all_once}
use Rattle.dgc_server.proofs.Objects.{numbers_after, numbers-after, once-after, once-filter, once-forgotten}
use Rattle.dgc_server.proofs.Ordered.{all_after, absent, after-absent, after-earlier, client-of}
use Rattle.dgc_server.proofs.Steps.{earlier}

-- ---- what holds of each entry

each-map : (q : Entry → Bool) (f : Entry → Entry) → ((e : Entry) → q e ≡ true → q (f e) ≡ true) → (es : List Entry) → list_all q es ≡ true → list_all q (map f es) ≡ true
each-map q f k [] h = refl
each-map q f k (e ∷ es) h =
    let two = and_parts (q e) (list_all q es) h in
    and_from (q (f e)) (list_all q (map f es)) (k e two.0) (each-map q f k es two.1)

pub each-filtered : {X : Type 0} (q p : X → Bool) (xs : List X) → list_all q xs ≡ true → list_all q (filter p xs) ≡ true
each-filtered q p [] h = refl
each-filtered q p (x ∷ xs) h = let two = and_parts (q x) (list_all q xs) h in go (p x) two.0 (each-filtered q p xs two.1)
  where
    go : (b : Bool) → q x ≡ true → list_all q (filter p xs) ≡ true → list_all q (cond b (x ∷ filter p xs) (filter p xs)) ≡ true
    go true y rest = and_from (q x) (list_all q (filter p xs)) y rest
    go false y rest = rest

pub each-with : (q : Entry → Bool) (e : Entry) (es : List Entry) → q e ≡ true → list_all q es ≡ true → list_all q (with_entry e es) ≡ true
each-with q e [] a h = and_from (q e) true a refl
each-with q e (d ∷ es) a h = let two = and_parts (q d) (list_all q es) h in go (client_cmp e.client d.client) two.0 two.1 (each-with q e es a two.1)
  where
    go : (o : Ordering) → q d ≡ true → list_all q es ≡ true → list_all q (with_entry e es) ≡ true →
        list_all q (if is_lt o then e ∷ d ∷ es else if is_eq o then e ∷ es else d ∷ with_entry e es) ≡ true
    go Less x y rest = rw (a, x, y) refl
    go Equal x y rest = rw (a, y) refl
    go Greater x y rest = rw (x, rest) refl

pub each-entry : (q : Entry → Bool) (es : List Entry) (c : Client) → q (no_entry c) ≡ true → list_all q es ≡ true → q (entry_of es c) ≡ true
each-entry q [] c none h = none
each-entry q (e ∷ es) c none h = let two = and_parts (q e) (list_all q es) h in go (same_client e.client c) two.0 (each-entry q es c none two.1)
  where
    go : (b : Bool) → q e ≡ true → q (entry_of es c) ≡ true → q (if b then e else entry_of es c) ≡ true
    go true x rest = x
    go false x rest = rest

-- ---- each object once

abbrev pub is_once : Entry → Bool
is_once e = each_once e.objects

abbrev pub all_objects_once : List Entry → Bool
all_objects_once es = list_all is_once es

once-lapsed : (k : ℕ) (e : Entry) → each_once e.objects ≡ true → each_once (entry_after_lapse k e).objects ≡ true
once-lapsed k e h = go (nat_lt k e.until)
  where
    go : (b : Bool) → each_once (if b then e else record e { objects = tenure_forgotten e.objects }).objects ≡ true
    go true = h
    go false = once-forgotten e.objects h

pub once-lapse : (k : ℕ) (es : List Entry) → all_objects_once es ≡ true → all_objects_once (after_lapse k es) ≡ true
once-lapse k es h = each-filtered is_once (is_entry_kept k) (map (entry_after_lapse k) es) (each-map is_once (entry_after_lapse k) (once-lapsed k) es h)

pub once-without : (o : ObjId) (es : List Entry) → all_objects_once es ≡ true → all_objects_once (map (entry_without o) es) ≡ true
once-without o es h = each-map is_once (entry_without o) (λ e x. once-filter (λ y. not (same_id y.object o)) e.objects x) es h

pub once-entry : (es : List Entry) (c : Client) → all_objects_once es ≡ true → each_once (entry_of es c).objects ≡ true
once-entry es c h = each-entry is_once es c refl h

pub once-noted : (time lease : ℕ) (kind : CallKind) (c : Client) (n : ℤ) (os : List ObjId) (es : List Entry) → all_objects_once es ≡ true →
    all_objects_once (after_lapse time (with_entry (entry_after lease kind n os time (entry_of es c)) es)) ≡ true
once-noted time lease kind c n os es h =
    once-lapse time (with_entry (entry_after lease kind n os time (entry_of es c)) es)
    (each-with is_once (entry_after lease kind n os time (entry_of es c)) es (once-after (has_time_left time (entry_of es c)) kind n os (entry_of es c).objects (once-entry es c h)) h)

-- ---- some number of each object

abbrev pub is_numbered : Entry → Bool
is_numbered e = each_has_number e.objects

abbrev pub all_numbered : List Entry → Bool
all_numbered es = list_all is_numbered es

numbered-strong : (e : ObjectEntry) → has_strong e ≡ true → has_number (strong_only e) ≡ true
numbered-strong e s = s

numbered-forgotten : (es : List ObjectEntry) → each_has_number (tenure_forgotten es) ≡ true
numbered-forgotten [] = refl
numbered-forgotten (e ∷ es) = go (has_strong e) refl (numbered-forgotten es)
  where
    go : (b : Bool) → has_strong e ≡ b → each_has_number (tenure_forgotten es) ≡ true → each_has_number (map strong_only (cond b (e ∷ filter has_strong es) (filter has_strong es))) ≡ true
    go true s rest = and_from (has_number (strong_only e)) (each_has_number (tenure_forgotten es)) (numbered-strong e s) rest
    go false s rest = rest

number-noted : (kind : CallKind) (n : ℤ) (numbers : Numbers) → is_remembered true (with_call_noted kind n numbers) ≡ true
number-noted kind n numbers = go kind
  where
    some : (o : Option ℤ) → is_some (larger n o) ≡ true
    some None = refl
    some (Some m) = either (int_lt m n)
      where
        either : (b : Bool) → is_some (if b then Some n else Some m) ≡ true
        either true = refl
        either false = refl

    go : (k : CallKind) → is_remembered true (with_call_noted k n numbers) ≡ true
    go Dirty = rw (some numbers.dirty) refl
    go Weak = rw (some numbers.clean, or_true (is_some numbers.dirty)) refl
    go Strong = rw (some numbers.strong) (or_true (is_some numbers.dirty || is_some (larger n numbers.clean)))

numbered-with : (o : ObjId) (numbers : Numbers) (es : List ObjectEntry) → is_remembered true numbers ≡ true → each_has_number es ≡ true → each_has_number (with_numbers o numbers es) ≡ true
numbered-with o numbers [] f h = rw f refl
numbered-with o numbers (e ∷ es) f h = let two = and_parts (has_number e) (each_has_number es) h in go (same_id e.object o) two.0 two.1 (numbered-with o numbers es f two.1)
  where
    go : (a : Bool) → has_number e ≡ true → each_has_number es ≡ true → each_has_number (with_numbers o numbers es) ≡ true →
        each_has_number (if a then record { object = e.object; numbers = numbers } ∷ es else e ∷ with_numbers o numbers es) ≡ true
    go true x y rest = and_from (is_remembered true numbers) (each_has_number es) f y
    go false x y rest = and_from (has_number e) (each_has_number (with_numbers o numbers es)) x rest

numbered-objects : (kind : CallKind) (n : ℤ) (os : List ObjId) (es : List ObjectEntry) → each_has_number es ≡ true → each_has_number (objects_noted kind n os es) ≡ true
numbered-objects kind n [] es h = h
numbered-objects kind n (o ∷ os) es h = numbered-objects kind n os (object_noted kind n o es) (numbered-with o (with_call_noted kind n (numbers_of es o)) es (number-noted kind n (numbers_of es o)) h)

pub numbered-after : (left : Bool) (kind : CallKind) (n : ℤ) (os : List ObjId) (es : List ObjectEntry) → each_has_number es ≡ true → each_has_number (objects_after left kind n os es) ≡ true
numbered-after left kind n os es h = counted (call_counts kind left) (if left then es else tenure_forgotten es) (before left)
  where
    before : (b : Bool) → each_has_number (if b then es else tenure_forgotten es) ≡ true
    before true = h
    before false = numbered-forgotten es

    counted : (b : Bool) (ds : List ObjectEntry) → each_has_number ds ≡ true → each_has_number (if b then objects_noted kind n os ds else ds) ≡ true
    counted true ds x = numbered-objects kind n os ds x
    counted false ds x = x

pub numbered-lapsed : (k : ℕ) (e : Entry) → each_has_number e.objects ≡ true → each_has_number (entry_after_lapse k e).objects ≡ true
numbered-lapsed k e h = go (nat_lt k e.until)
  where
    go : (b : Bool) → each_has_number (if b then e else record e { objects = tenure_forgotten e.objects }).objects ≡ true
    go true = h
    go false = numbered-forgotten e.objects

pub numbered-lapse : (k : ℕ) (es : List Entry) → all_numbered es ≡ true → all_numbered (after_lapse k es) ≡ true
numbered-lapse k es h = each-filtered is_numbered (is_entry_kept k) (map (entry_after_lapse k) es) (each-map is_numbered (entry_after_lapse k) (numbered-lapsed k) es h)

pub numbered-without : (o : ObjId) (es : List Entry) → all_numbered es ≡ true → all_numbered (map (entry_without o) es) ≡ true
numbered-without o es h = each-map is_numbered (entry_without o) (λ e x. each-filtered has_number (λ y. not (same_id y.object o)) e.objects x) es h

pub numbered-with-noted : (time lease : ℕ) (kind : CallKind) (c : Client) (n : ℤ) (os : List ObjId) (es : List Entry) → all_numbered es ≡ true →
    all_numbered (with_entry (entry_after lease kind n os time (entry_of es c)) es) ≡ true
numbered-with-noted time lease kind c n os es h =
    each-with is_numbered (entry_after lease kind n os time (entry_of es c)) es (numbered-after (has_time_left time (entry_of es c)) kind n os (entry_of es c).objects (each-entry is_numbered es c refl h)) h

pub numbered-noted : (time lease : ℕ) (kind : CallKind) (c : Client) (n : ℤ) (os : List ObjId) (es : List Entry) → all_numbered es ≡ true →
    all_numbered (after_lapse time (with_entry (entry_after lease kind n os time (entry_of es c)) es)) ≡ true
numbered-noted time lease kind c n os es h =
    numbered-lapse time (with_entry (entry_after lease kind n os time (entry_of es c)) es) (numbered-with-noted time lease kind c n os es h)

-- ---- fewer pairs

sum-fewer : (f g : Entry → ℕ) (h : Entry → Entry) → ((e : Entry) → f (h e) ≤ g e) → (es : List Entry) → sum_by f (map h es) ≤ sum_by g es
sum-fewer f g h k [] = omega arith
sum-fewer f g h k (e ∷ es) =
    let one = k e in let rest = sum-fewer f g h k es in let a = sum_by-cons f (h e) (map h es) in let b = sum_by-cons g e es in omega arith

sum-filter : (f : Entry → ℕ) (p : Entry → Bool) (es : List Entry) → sum_by f (filter p es) ≤ sum_by f es
sum-filter f p [] = omega arith
sum-filter f p (e ∷ es) = go (p e) (sum-filter f p es)
  where
    go : (b : Bool) → sum_by f (filter p es) ≤ sum_by f es → sum_by f (cond b (e ∷ filter p es) (filter p es)) ≤ sum_by f (e ∷ es)
    go true r = let a = sum_by-cons f e (filter p es) in let b = sum_by-cons f e es in omega arith
    go false r = let b = sum_by-cons f e es in omega arith

-- A test that is narrower, on fewer objects.
fewer-objects : (q r p : ObjectEntry → Bool) → ((e : ObjectEntry) → q e ≡ true → r e ≡ true) → (es : List ObjectEntry) → length (filter q (filter p es)) ≤ length (filter r es)
fewer-objects q r p f [] = omega arith
fewer-objects q r p f (e ∷ es) = go (p e) (q e) (r e) refl refl (fewer-objects q r p f es)
  where
    go : (a b c : Bool) → q e ≡ b → r e ≡ c → length (filter q (filter p es)) ≤ length (filter r es) →
        length (filter q (cond a (e ∷ filter p es) (filter p es))) ≤ length (cond c (e ∷ filter r es) (filter r es))
    go true true true x y h = rw x (omega arith)
    go true true false x y h = absurd (let z = f e x in cc)
    go true false true x y h = rw x (omega arith)
    go true false false x y h = rw x h
    go false b true x y h = omega arith
    go false b false x y h = h

-- Once a tenure is forgotten, the objects of strong cleans are remembered.
fewer-forgotten : (left : Bool) (es : List ObjectEntry) → length (filter (λ x. is_remembered false x.numbers) (tenure_forgotten es)) ≤ length (filter (λ x. is_remembered left x.numbers) es)
fewer-forgotten left [] = omega arith
fewer-forgotten left (e ∷ es) = go (has_strong e) (is_remembered left e.numbers) refl refl (fewer-forgotten left es)
  where
    strong : (x : Bool) → (x || true) ≡ true
    strong x = or_true x

    go : (a b : Bool) → has_strong e ≡ a → is_remembered left e.numbers ≡ b → length (filter (λ x. is_remembered false x.numbers) (tenure_forgotten es)) ≤ length (filter (λ x. is_remembered left x.numbers) es) →
        length (filter (λ x. is_remembered false x.numbers) (map strong_only (cond a (e ∷ filter has_strong es) (filter has_strong es)))) ≤ length (cond b (e ∷ filter (λ x. is_remembered left x.numbers) es) (filter (λ x. is_remembered left x.numbers) es))
    go true true x y h = rw x (omega arith)
    go true false x y h = absurd (let z : is_remembered left e.numbers ≡ true = ap (λ v. (left && (is_some e.numbers.dirty || is_some e.numbers.clean)) || v) x ∙ or_true (left && (is_some e.numbers.dirty || is_some e.numbers.clean)) in cc)
    go false true x y h = omega arith
    go false false x y h = h

pub fewer-lapsed : (m k : ℕ) (e : Entry) → m ≤ k → remembered_of k (entry_after_lapse k e) ≤ remembered_of m e
fewer-lapsed m k e le = go (nat_lt k e.until) refl
  where
    go : (b : Bool) → nat_lt k e.until ≡ b → remembered_of k (if b then e else record e { objects = tenure_forgotten e.objects }) ≤ remembered_of m e
    go true x = rw (x, earlier m k e.until le x) (omega arith)
    go false x = rw x (fewer-forgotten (nat_lt m e.until) e.objects)

pub remembered-lapse : (m k : ℕ) (es : List Entry) → m ≤ k → remembered_count k (after_lapse k es) ≤ remembered_count m es
remembered-lapse m k es le =
    let a = sum-filter (remembered_of k) (is_entry_kept k) (map (entry_after_lapse k) es) in
    let b = sum-fewer (remembered_of k) (remembered_of m) (entry_after_lapse k) (λ e. fewer-lapsed m k e le) es in omega arith

pub remembered-without : (m : ℕ) (o : ObjId) (es : List Entry) → remembered_count m (map (entry_without o) es) ≤ remembered_count m es
remembered-without m o es =
    sum-fewer (remembered_of m) (remembered_of m) (entry_without o)
    (λ e. fewer-objects (λ x. is_remembered (nat_lt m e.until) x.numbers) (λ x. is_remembered (nat_lt m e.until) x.numbers) (λ x. not (same_id x.object o)) (λ x h. h) e.objects) es

longer-time : (m k : ℕ) (e : Entry) → m ≤ k → remembered_of k e ≤ remembered_of m e
longer-time m k e le = fewer-all (λ x. is_remembered (nat_lt k e.until) x.numbers) (λ x. is_remembered (nat_lt m e.until) x.numbers) (λ x h. wider (nat_lt k e.until) (nat_lt m e.until) x.numbers (λ y. earlier m k e.until le y) h) e.objects
  where
    wider : (a b : Bool) (n : Numbers) → (a ≡ true → b ≡ true) → is_remembered a n ≡ true → is_remembered b n ≡ true
    wider true true n f h = h
    wider true false n f h = absurd (let z = f refl in cc)
    wider false true n f h = ap (λ v. (is_some n.dirty || is_some n.clean) || v) h ∙ or_true (is_some n.dirty || is_some n.clean)
    wider false false n f h = h

    fewer-all : (q r : ObjectEntry → Bool) → ((x : ObjectEntry) → q x ≡ true → r x ≡ true) → (es : List ObjectEntry) → length (filter q es) ≤ length (filter r es)
    fewer-all q r f [] = omega arith
    fewer-all q r f (x ∷ es) = go (q x) (r x) refl refl (fewer-all q r f es)
      where
        go : (a b : Bool) → q x ≡ a → r x ≡ b → length (filter q es) ≤ length (filter r es) → length (cond a (x ∷ filter q es) (filter q es)) ≤ length (cond b (x ∷ filter r es) (filter r es))
        go true true y z h = omega arith
        go true false y z h = absurd (let w = f x y in cc)
        go false true y z h = omega arith
        go false false y z h = h

pub remembered-later : (m k : ℕ) (es : List Entry) → m ≤ k → remembered_count k es ≤ remembered_count m es
remembered-later m k [] le = omega arith
remembered-later m k (e ∷ es) le =
    let one = longer-time m k e le in let rest = remembered-later m k es le in
    let a = sum_by-cons (remembered_of k) e es in let b = sum_by-cons (remembered_of m) e es in omega arith

-- ---- after a call

-- What is remembered after a call was remembered before it, or the call counts and names it.
remembered-then : (after left : Bool) (kind : CallKind) (n : ℤ) (named : Bool) (numbers : Numbers) → is_remembered after (numbers_after left kind n named numbers) ≡ true →
    (is_remembered left numbers || (call_counts kind left && named)) ≡ true
remembered-then after true kind n true numbers h = rw (always kind) (or_true (is_remembered true numbers))
  where
    always : (k : CallKind) → call_counts k true ≡ true
    always Dirty = refl
    always Weak = refl
    always Strong = refl
remembered-then after true kind n false numbers h = first (is_remembered true numbers) (call_counts kind true && false) (wider after (before kind h))
  where
    first : (a b : Bool) → a ≡ true → (a || b) ≡ true
    first true b e = refl
    first false b e = absurd (cc)

    before : (k : CallKind) → is_remembered after (numbers_after true k n false numbers) ≡ true → is_remembered after numbers ≡ true
    before Dirty e = e
    before Weak e = e
    before Strong e = e

    wider : (a : Bool) → is_remembered a numbers ≡ true → is_remembered true numbers ≡ true
    wider true e = e
    wider false e = ap (λ v. (is_some numbers.dirty || is_some numbers.clean) || v) e ∙ or_true (is_some numbers.dirty || is_some numbers.clean)
remembered-then after false Dirty n true numbers h = or_true (is_some numbers.strong)
remembered-then after false Strong n true numbers h = or_true (is_some numbers.strong)
remembered-then true false Weak n named numbers h = ap (λ v. v || false) h
remembered-then false false Weak n named numbers h = ap (λ v. v || false) h
remembered-then true false Dirty n false numbers h = ap (λ v. v || false) h
remembered-then false false Dirty n false numbers h = ap (λ v. v || false) h
remembered-then true false Strong n false numbers h = ap (λ v. v || false) h
remembered-then false false Strong n false numbers h = ap (λ v. v || false) h

once-all : (os : List ObjId) → all_once same_id os ≡ true → AllOnce same_id os
once-all [] h = tt
once-all (o ∷ os) h = let two = and_parts (not (list_any (same_id o) os)) (all_once same_id os) h in (not-true (list_any (same_id o) os) two.0, once-all os two.1)

any-kept_of : (t : ℕ) (e : Entry) (o : ObjId) → each_once e.objects ≡ true → list_any (same_id o) (kept_of t e) ≡ entry_remembers t o e
any-kept_of t e o h = object-turned o (filter (λ x. is_remembered (nat_lt t e.until) x.numbers) e.objects) ∙ any-kept (nat_lt t e.until) e.objects o h

any-fresh : (t : ℕ) (e : Entry) (o : ObjId) (os : List ObjId) → list_any (same_id o) (fresh t e os) ≡ (list_any (same_id o) os && not (entry_remembers t o e))
any-fresh t e o os =
    any-filtered object-equality (λ x. not (entry_remembers t x e)) o (distinct same_id os) ∙ ap (λ v. v && not (entry_remembers t o e)) (any-distinct object-equality o os)

named-turned : (o : ObjId) (os : List ObjId) → is_in o os ≡ list_any (same_id o) os
named-turned o [] = refl
named-turned o (x ∷ os) = rw (named-turned o os) (ap (λ v. v || list_any (same_id o) os) (same-turned object-equality x o))

length-kept_of : (t : ℕ) (e : Entry) → length (kept_of t e) ≡ remembered_of t e
length-kept_of t e = length-map (filter (λ x. is_remembered (nat_lt t e.until) x.numbers) e.objects) (λ (x : ObjectEntry). x.object)

-- What a call brings to what is remembered of its client.
remembered-entry : (lease t : ℕ) (kind : CallKind) (n : ℤ) (os : List ObjId) (e : Entry) → each_once e.objects ≡ true →
    remembered_of t (entry_after lease kind n os t e) ≤ remembered_of t e + (if call_counts kind (has_time_left t e) then fresh_of t e os else 0)
remembered-entry lease t kind n os e once =
    let next = entry_after lease kind n os t e in
    let next_once = once-after (has_time_left t e) kind n os e.objects once in
    let both = kept_of t e ++ (if call_counts kind (has_time_left t e) then fresh t e os else []) in
    let few : length (kept_of t next) ≤ length both =
    length-fewer same_id (record { self = same_id-self; equal = same_id-equal }) (kept_of t next) both (once-all (kept_of t next) (once-kept_of t next next_once))
    (λ o h. list_any-append (same_id o) (kept_of t e) (if call_counts kind (has_time_left t e) then fresh t e os else [])
    ∙ ap (λ v. v || list_any (same_id o) (if call_counts kind (has_time_left t e) then fresh t e os else [])) (any-kept_of t e o once)
    ∙ member o (entry_remembers t o e) (call_counts kind (has_time_left t e)) refl
    (ap (λ v. entry_remembers t o e || (call_counts kind (has_time_left t e) && v)) (sym (named-turned o os))
    ∙ remembered-then (has_time_left t next) (has_time_left t e) kind n (is_in o os) (numbers_of e.objects o)
    (ap (is_remembered (has_time_left t next)) (sym (numbers-after (has_time_left t e) kind n os e.objects o once)) ∙ sym (any-kept_of t next o next_once) ∙ h))) in
    let a = length-kept_of t next in let b = length-kept_of t e in
    let c = length-append (kept_of t e) (if call_counts kind (has_time_left t e) then fresh t e os else []) in
    let d = size (call_counts kind (has_time_left t e)) in omega arith
  where
    size : (b : Bool) → length (if b then fresh t e os else []) ≡ (if b then fresh_of t e os else 0)
    size true = refl
    size false = refl

    member : (o : ObjId) (r b : Bool) → entry_remembers t o e ≡ r → (r || (b && list_any (same_id o) os)) ≡ true → (r || list_any (same_id o) (if b then fresh t e os else [])) ≡ true
    member o true b x h = refl
    member o false true x h = any-fresh t e o os ∙ ap (λ v. list_any (same_id o) os && not v) x ∙ ap (λ v. v && true) h
    member o false false x h = h

-- One client's entry in place of its own, or one more.
pub sum-with : (f : Entry → ℕ) → ((c : Client) → f (no_entry c) ≡ 0) → (e : Entry) (es : List Entry) → is_in_order es ≡ true →
    sum_by f (with_entry e es) + f (entry_of es e.client) ≡ sum_by f es + f e
sum-with f none e [] order = let a = none e.client in let b = sum_by-cons f e [] in omega arith
sum-with f none e (d ∷ es) order =
    let two = and_parts (all_after d.client es) (is_in_order es) order in
    go (client_cmp e.client d.client) refl two.0 (sum-with f none e es two.1)
  where
    go : (o : Ordering) → client_cmp e.client d.client ≡ o → all_after d.client es ≡ true →
        sum_by f (with_entry e es) + f (entry_of es e.client) ≡ sum_by f es + f e →
        sum_by f (if is_lt o then e ∷ d ∷ es else if is_eq o then e ∷ es else d ∷ with_entry e es) + f (if same_client d.client e.client then d else entry_of es e.client)
        ≡ sum_by f (d ∷ es) + f e
    go Less x after h =
        let gone : entry_of (d ∷ es) e.client ≡ no_entry e.client = absent (d ∷ es) e.client (after-absent e.client (d ∷ es) (rw x (after-earlier e.client d.client es x after))) in
        let zero_of = ap f gone in let a = none e.client in let b = sum_by-cons f e (d ∷ es) in omega arith
    go Equal x after h =
        let same : same_client d.client e.client ≡ true = same_client-true d.client e.client (sym (client_cmp-equal e.client d.client x)) in
        let b = sum_by-cons f e es in let c = sum_by-cons f d es in
        rw same (omega arith)
    go Greater x after h =
        let b = sum_by-cons f d (with_entry e es) in let c = sum_by-cons f d es in
        rw (other (same_client d.client e.client) refl) (omega arith)
      where
        other : (b : Bool) → same_client d.client e.client ≡ b → b ≡ false
        other false y = refl
        other true y = absurd (let s : client_cmp e.client d.client ≡ Equal = ap (client_cmp e.client) (same_client-equal d.client e.client y) ∙ client_cmp-self e.client in cc)

-- THE PAIRS AFTER A CALL are no more than are counted before it.
pub remembered-noted : (time lease : ℕ) (kind : CallKind) (c : Client) (n : ℤ) (os : List ObjId) (es : List Entry) → is_in_order es ≡ true → all_objects_once es ≡ true →
    remembered_count time (after_lapse time (with_entry (entry_after lease kind n os time (entry_of es c)) es)) ≤ pairs_after time es c kind os
remembered-noted time lease kind c n os es order once =
    let next = entry_after lease kind n os time (entry_of es c) in
    let own : remembered_count time (with_entry next es) + remembered_of time (entry_of es c) ≡ remembered_count time es + remembered_of time next =
    ap (λ d. remembered_count time (with_entry next es) + remembered_of time (entry_of es d)) (sym (client-of es c)) ∙ sum-with (remembered_of time) (λ d. refl) next es order in
    let more = remembered-entry lease time kind n os (entry_of es c) (once-entry es c once) in
    let fewer = remembered-lapse time time (with_entry next es) (omega arith) in omega arith
