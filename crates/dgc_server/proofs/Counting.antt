-- How many clients have time left, and how many pairs are remembered, after a call.
use Rattle.std.proofs.Common.{◌≡◌, ℕ, ◌+◌, ◌≤◌, List, [], ◌∷◌, ◌++◌, length, refl, ap, sym, ◌∙◌, cond, map, arith, length-append}
use Rattle.std.specs.Prelude.{ℤ, Bool, true, false, ◌&&◌, ◌||◌, not, filter, flat_map, is_some, nat_lt, if◌then◌else◌}
use Rattle.std.specs.List.{list_any, AllByRecursion}
use Rattle.std.proofs.lemmas.Bool.{and_parts, and_from, not-true, not_from_false}
use Rattle.std.proofs.lemmas.List.Folds.{list_any-append}
use Rattle.std.proofs.lemmas.List.Sums.{sum_by-cons}
use Rattle.std.proofs.lemmas.List.{length-map}
use Rattle.object_ids.specs.declared.ids.ObjId.{ObjId}
use Rattle.object_ids.specs.Client.{Client}
use Rattle.object_ids.specs.Same.{same_client, same_id}
use Rattle.object_ids.proofs.Exact.{same_client-equal, same_id-equal}
use Rattle.history.specs.declared.calls.Call.{Call}
use Rattle.history.specs.declared.calls.Pair.{Pair}
use Rattle.history.specs.declared.calls.CallKind.{CallKind}
use Rattle.history.specs.declared.calls.CallKind.TheVariants.{Dirty, Weak, Strong}
use Rattle.history.specs.Lists.{distinct}
use Rattle.history.specs.Leases.{calls_of, clients, tenure, has_time_left as has_time, is_remembered as is_remembered_pair, same_pair, pairs_of, pairs_with, pairs, objects_named, new_pairs}
use Rattle.history.proofs.ListLemmas.{every-weaker, or_false, and_false, list_any-map, list_any-same, same-turned, any-filtered, any-distinct, no_time}
use Rattle.history.proofs.Equalities.{client-equality, object-equality}
use Rattle.history.proofs.PairLaws.{pair-equality, any-pairs_of, any-flat, any-pairs}
use Rattle.dgc_server.specs.Numbers.{no_numbers, is_remembered}
use Rattle.dgc_server.specs.Entry.{ObjectEntry, Entry, numbers_of, has_object, call_counts, has_time_left, remembered_of, entry_remembers, fresh_of}
use Rattle.dgc_server.specs.Table.{entry_of, remembered_count, clients_after, pairs_after}
use Rattle.dgc_server.specs.Counts.{new_call, clients_with_call, pairs_with_call}
use Rattle.dgc_server.specs.StandsForCalls.{LeaseTable, EntryStands, StandsFor, is_in_order, each_once, top, is_dirty_for, is_clean_for, is_strong_for}
use Rattle.dgc_server.proofs.Distinct.{all_once, once-filter, once-distinct, once-append, length-same, length-distinct, length-distinct-push}
use Rattle.dgc_server.proofs.Highest.{remembered-top}
use Rattle.dgc_server.proofs.Ordered.{all_after, has_client, absent, after-absent, order-filter}
use Rattle.dgc_server.proofs.Outputs.{time-entries, each-own}
use Rattle.dgc_server.proofs.Rising.{rising-once, rising-clients, rising-entries, any-entry}
use Rattle.dgc_server.proofs.Steps.{earlier, time-left}

-- ---- clients

-- THE CLIENTS WITH TIME LEFT AFTER A DIRTY are counted.
pub clients-counted : (lease m now : ℕ) (table : LeaseTable) (calls : List Call) (c : Client) → m ≤ now → StandsFor lease table m calls → is_in_order table.entries ≡ true →
    clients_with_call lease now calls c ≡ clients_after table.entries c now
clients-counted lease m now table calls c le s order =
    let left = filter (has_time_left now) table.entries in
    ap (λ cs. length (distinct same_client (cs ++ c ∷ []))) (time-entries lease m now table calls le s order)
    ∙ length-distinct-push client-equality (map (λ (e : Entry). e.client) left) c (rising-once (map (λ (e : Entry). e.client) left) (rising-entries left ∙ order-filter (has_time_left now) table.entries order))
    ∙ ap (λ n. n + (if list_any (same_client c) (map (λ (e : Entry). e.client) left) then 0 else 1)) (length-map left (λ (e : Entry). e.client))
    ∙ ap (λ b. length left + (if b then 0 else 1)) (any-entry (has_time_left now) (λ d. no_time now) table.entries c order)

-- ---- pairs

once-pairs : (c : Client) (os : List ObjId) → all_once same_id os ≡ true → all_once same_pair (pairs_of c os) ≡ true
once-pairs c [] h = refl
once-pairs c (o ∷ os) h =
    let two = and_parts (not (list_any (same_id o) os)) (all_once same_id os) h in
    and_from (not (list_any (same_pair (record { client = c; object = o })) (pairs_of c os))) (all_once same_pair (pairs_of c os))
    (not_from_false (list_any (same_pair (record { client = c; object = o })) (pairs_of c os)) (any-pairs_of (record { client = c; object = o }) c os ∙ ap (λ v. same_client c c && v) (not-true (list_any (same_id o) os) two.0) ∙ and_false (same_client c c)))
    (once-pairs c os two.1)

-- The objects that make a remembered pair with an entry's client.
abbrev pub kept_of : ℕ → Entry → List ObjId
kept_of t e = map (λ (o : ObjectEntry). o.object) (filter (λ o. is_remembered (nat_lt t e.until) o.numbers) e.objects)

-- The remembered pairs of entries.
abbrev pub kept_pairs : ℕ → List Entry → List Pair
kept_pairs t es = flat_map (λ e. pairs_of e.client (kept_of t e)) es

none-remembered : (left : Bool) → is_remembered left no_numbers ≡ false
none-remembered true = refl
none-remembered false = refl

pub object-turned : (o : ObjId) (es : List ObjectEntry) → list_any (same_id o) (map (λ (e : ObjectEntry). e.object) es) ≡ has_object es o
object-turned o es = list_any-map (same_id o) (λ (e : ObjectEntry). e.object) es ∙ list_any-same (λ e. same_id o e.object) (λ e. same_id e.object o) (λ e. same-turned object-equality o e.object) es

filter-absent : (q : ObjectEntry → Bool) (es : List ObjectEntry) (o : ObjId) → has_object es o ≡ false → has_object (filter q es) o ≡ false
filter-absent q [] o h = refl
filter-absent q (e ∷ es) o h = go (q e) (same_id e.object o) refl h (filter-absent q es o)
  where
    go : (a b : Bool) → same_id e.object o ≡ b → (b || has_object es o) ≡ false → (has_object es o ≡ false → has_object (filter q es) o ≡ false) → has_object (cond a (e ∷ filter q es) (filter q es)) o ≡ false
    go a true x f rest = absurd (cc)
    go true false x f rest = rw x (rest f)
    go false false x f rest = rest f

-- An object is kept exactly where its numbers say so.
pub any-kept : (left : Bool) (es : List ObjectEntry) (o : ObjId) → each_once es ≡ true → has_object (filter (λ e. is_remembered left e.numbers) es) o ≡ is_remembered left (numbers_of es o)
any-kept left [] o h = sym (none-remembered left)
any-kept left (e ∷ es) o h =
    let two = and_parts (not (has_object es e.object)) (each_once es) h in
    go (is_remembered left e.numbers) (same_id e.object o) refl refl (not-true (has_object es e.object) two.0) (any-kept left es o two.1)
  where
    go : (a b : Bool) → is_remembered left e.numbers ≡ a → same_id e.object o ≡ b → has_object es e.object ≡ false → has_object (filter (λ d. is_remembered left d.numbers) es) o ≡ is_remembered left (numbers_of es o) →
        has_object (cond a (e ∷ filter (λ d. is_remembered left d.numbers) es) (filter (λ d. is_remembered left d.numbers) es)) o ≡ is_remembered left (if b then e.numbers else numbers_of es o)
    go true true x y z rest = rw y (sym x)
    go true false x y z rest = rw y rest
    go false false x y z rest = rest
    go false true x y z rest = filter-absent (λ d. is_remembered left d.numbers) es o (ap (has_object es) (sym (same_id-equal e.object o y)) ∙ z) ∙ sym x

pub once-kept_of : (t : ℕ) (e : Entry) → each_once e.objects ≡ true → all_once same_id (kept_of t e) ≡ true
once-kept_of t e h = go (λ o. is_remembered (nat_lt t e.until) o.numbers) e.objects h
  where
    go : (q : ObjectEntry → Bool) (es : List ObjectEntry) → each_once es ≡ true → all_once same_id (map (λ (o : ObjectEntry). o.object) (filter q es)) ≡ true
    go q [] f = refl
    go q (o ∷ es) f =
        let two = and_parts (not (has_object es o.object)) (each_once es) f in one (q o) (not-true (has_object es o.object) two.0) (go q es two.1)
      where
        one : (a : Bool) → has_object es o.object ≡ false → all_once same_id (map (λ (d : ObjectEntry). d.object) (filter q es)) ≡ true →
            all_once same_id (map (λ (d : ObjectEntry). d.object) (cond a (o ∷ filter q es) (filter q es))) ≡ true
        one true x rest =
            and_from (not (list_any (same_id o.object) (map (λ (d : ObjectEntry). d.object) (filter q es)))) (all_once same_id (map (λ (d : ObjectEntry). d.object) (filter q es)))
            (not_from_false (list_any (same_id o.object) (map (λ (d : ObjectEntry). d.object) (filter q es))) (object-turned o.object (filter q es) ∙ filter-absent q es o.object x)) rest
        one false x rest = rest

-- A pair is kept exactly where the numbers of its client's entry say so.
pub any-kept_pairs : (t : ℕ) (p : Pair) (es : List Entry) → is_in_order es ≡ true → AllByRecursion (λ e. each_once e.objects ≡ true) es →
    list_any (same_pair p) (kept_pairs t es) ≡ entry_remembers t p.object (entry_of es p.client)
any-kept_pairs t p [] order once = sym (none-remembered (nat_lt t 0))
any-kept_pairs t p (e ∷ es) order once =
    let two = and_parts (all_after e.client es) (is_in_order es) order in
    list_any-append (same_pair p) (pairs_of e.client (kept_of t e)) (kept_pairs t es)
    ∙ ap (λ v. v || list_any (same_pair p) (kept_pairs t es)) (any-pairs_of p e.client (kept_of t e) ∙ ap (λ v. same_client p.client e.client && v) (object-turned p.object (filter (λ o. is_remembered (nat_lt t e.until) o.numbers) e.objects) ∙ any-kept (nat_lt t e.until) e.objects p.object once.0))
    ∙ ap (λ v. (same_client p.client e.client && entry_remembers t p.object e) || v) (any-kept_pairs t p es two.1 once.1)
    ∙ ap (λ v. (v && entry_remembers t p.object e) || entry_remembers t p.object (entry_of es p.client)) (same-turned client-equality p.client e.client)
    ∙ go (same_client e.client p.client) refl two.0
  where
    go : (b : Bool) → same_client e.client p.client ≡ b → all_after e.client es ≡ true →
        ((b && entry_remembers t p.object e) || entry_remembers t p.object (entry_of es p.client))
        ≡ entry_remembers t p.object (if b then e else entry_of es p.client)
    go false x after = refl
    go true x after =
        ap (λ d. entry_remembers t p.object e || entry_remembers t p.object d)
        (absent es p.client (ap (has_client es) (sym (same_client-equal e.client p.client x)) ∙ after-absent e.client es after))
        ∙ ap (λ v. entry_remembers t p.object e || v) (none-remembered (nat_lt t 0)) ∙ or_false (entry_remembers t p.object e)

every-pair : (P : Pair → Type 0) (c : Client) (os : List ObjId) → ((o : ObjId) → P (record { client = c; object = o })) → AllByRecursion P (pairs_of c os)
every-pair P c [] f = tt
every-pair P c (o ∷ os) f = (f o, every-pair P c os f)

once-kept_pairs : (t : ℕ) (es : List Entry) → is_in_order es ≡ true → AllByRecursion (λ e. each_once e.objects ≡ true) es → all_once same_pair (kept_pairs t es) ≡ true
once-kept_pairs t [] order once = refl
once-kept_pairs t (e ∷ es) order once =
    let two = and_parts (all_after e.client es) (is_in_order es) order in
    once-append pair-equality (pairs_of e.client (kept_of t e)) (kept_pairs t es) (once-pairs e.client (kept_of t e) (once-kept_of t e once.0)) (once-kept_pairs t es two.1 once.1)
    (every-pair (λ p. list_any (same_pair p) (kept_pairs t es) ≡ false) e.client (kept_of t e)
    (λ o. any-kept_pairs t (record { client = e.client; object = o }) es two.1 once.1
    ∙ ap (λ d. entry_remembers t o d) (absent es e.client (after-absent e.client es two.0)) ∙ none-remembered (nat_lt t 0)))

length-kept_pairs : (t : ℕ) (es : List Entry) → length (kept_pairs t es) ≡ remembered_count t es
length-kept_pairs t [] = refl
length-kept_pairs t (e ∷ es) =
    length-append (pairs_of e.client (kept_of t e)) (kept_pairs t es)
    ∙ ap (λ n. n + length (kept_pairs t es)) (length-map (kept_of t e) (λ o. record { client = e.client; object = o }) ∙ length-map (filter (λ o. is_remembered (nat_lt t e.until) o.numbers) e.objects) (λ (o : ObjectEntry). o.object))
    ∙ ap (λ n. remembered_of t e + n) (length-kept_pairs t es)
    ∙ sym (sum_by-cons (remembered_of t) e es)

-- ---- the pairs of the calls

-- A pair is remembered exactly where the entry says so.
pub remembered-entry : (lease m t : ℕ) (e : Entry) (own : List Call) (o : ObjId) → m ≤ t → EntryStands lease m e own →
    is_remembered_pair lease t own o ≡ entry_remembers t o e
remembered-entry lease m t e own o le s =
    remembered-top lease t own o
    ∙ ap (λ v. (v && (is_some (top (is_dirty_for o) (tenure lease own)) || is_some (top (is_clean_for o) (tenure lease own)))) || is_some (top (is_strong_for o) own)) (time-left lease m t e own le s)
    ∙ ap (λ v. (nat_lt t e.until && (is_some (top (is_dirty_for o) (tenure lease own)) || is_some (top (is_clean_for o) (tenure lease own)))) || is_some v) (sym (s.strongs o))
    ∙ ap (λ v. v || is_some (numbers_of e.objects o).strong) (go (nat_lt t e.until) refl)
  where
    go : (b : Bool) → nat_lt t e.until ≡ b →
        (b && (is_some (top (is_dirty_for o) (tenure lease own)) || is_some (top (is_clean_for o) (tenure lease own)))) ≡ (b && (is_some (numbers_of e.objects o).dirty || is_some (numbers_of e.objects o).clean))
    go false l = refl
    go true l =
        let left : has_time_left m e ≡ true = earlier m t e.until le l in
        ap (λ v. is_some v || is_some (top (is_clean_for o) (tenure lease own))) (sym (s.dirties left o)) ∙ ap (λ v. is_some (numbers_of e.objects o).dirty || is_some v) (sym (s.cleans left o))

-- Each entry of a table has each object once.
pub entries-once : (lease m : ℕ) (table : LeaseTable) (calls : List Call) → StandsFor lease table m calls → is_in_order table.entries ≡ true → AllByRecursion (λ e. each_once e.objects ≡ true) table.entries
entries-once lease m table calls s order =
    every-weaker (λ e. entry_of table.entries e.client ≡ e) (λ e. each_once e.objects ≡ true)
    (λ e own. ap (λ (d : Entry). each_once d.objects) (sym own) ∙ (s.each e.client).once) table.entries (each-own table.entries order)

-- The objects that bring new pairs.
abbrev pub fresh : ℕ → Entry → List ObjId → List ObjId
fresh t e os = filter (λ o. not (entry_remembers t o e)) (distinct same_id os)

-- A pair of a client is new exactly where its object is named and it wasn't kept.
any-fresh : (t : ℕ) (es : List Entry) (c : Client) (os : List ObjId) (p : Pair) → is_in_order es ≡ true → AllByRecursion (λ e. each_once e.objects ≡ true) es →
    (list_any (same_pair p) (kept_pairs t es) || list_any (same_pair p) (pairs_of c os)) ≡ (list_any (same_pair p) (pairs_of c (fresh t (entry_of es c) os)) || list_any (same_pair p) (kept_pairs t es))
any-fresh t es c os p order once =
    ap (λ v. kept || v) (any-pairs_of p c os)
    ∙ go (same_client p.client c) refl
    ∙ ap (λ v. v || kept) (ap (λ v. same_client p.client c && v) (sym named) ∙ sym (any-pairs_of p c (fresh t (entry_of es c) os)))
  where
    kept : Bool
    kept = list_any (same_pair p) (kept_pairs t es)

    named : list_any (same_id p.object) (fresh t (entry_of es c) os) ≡ (list_any (same_id p.object) os && not (entry_remembers t p.object (entry_of es c)))
    named =
        any-filtered object-equality (λ o. not (entry_remembers t o (entry_of es c))) p.object (distinct same_id os)
        ∙ ap (λ v. v && not (entry_remembers t p.object (entry_of es c))) (any-distinct object-equality p.object os)

    mix : (k a : Bool) → (k || a) ≡ ((a && not k) || k)
    mix true true = refl
    mix true false = refl
    mix false true = refl
    mix false false = refl

    go : (b : Bool) → same_client p.client c ≡ b →
        (list_any (same_pair p) (kept_pairs t es) || (b && list_any (same_id p.object) os)) ≡ ((b && (list_any (same_id p.object) os && not (entry_remembers t p.object (entry_of es c)))) || list_any (same_pair p) (kept_pairs t es))
    go false e = or_false (list_any (same_pair p) (kept_pairs t es))
    go true e =
        mix (list_any (same_pair p) (kept_pairs t es)) (list_any (same_id p.object) os)
        ∙ ap (λ v. (list_any (same_id p.object) os && not v) || list_any (same_pair p) (kept_pairs t es))
        (any-kept_pairs t p es order once ∙ ap (λ d. entry_remembers t p.object (entry_of es d)) (same_client-equal p.client c e))

-- The new pairs were not kept.
fresh-apart : (t : ℕ) (es : List Entry) (c : Client) (os : List ObjId) → is_in_order es ≡ true → AllByRecursion (λ e. each_once e.objects ≡ true) es →
    AllByRecursion (λ p. list_any (same_pair p) (kept_pairs t es) ≡ false) (pairs_of c (filter (λ o. not (entry_remembers t o (entry_of es c))) os))
fresh-apart t es c [] order once = tt
fresh-apart t es c (o ∷ os) order once = go (not (entry_remembers t o (entry_of es c))) refl (fresh-apart t es c os order once)
  where
    go : (b : Bool) → not (entry_remembers t o (entry_of es c)) ≡ b → AllByRecursion (λ p. list_any (same_pair p) (kept_pairs t es) ≡ false) (pairs_of c (filter (λ x. not (entry_remembers t x (entry_of es c))) os)) →
        AllByRecursion (λ p. list_any (same_pair p) (kept_pairs t es) ≡ false)
        (pairs_of c (cond b (o ∷ filter (λ x. not (entry_remembers t x (entry_of es c))) os) (filter (λ x. not (entry_remembers t x (entry_of es c))) os)))
    go true h rest = (any-kept_pairs t (record { client = c; object = o }) es order once ∙ not-true (entry_remembers t o (entry_of es c)) h, rest)
    go false h rest = rest

-- How many pairs there are with a client's.
pairs-with : (t : ℕ) (es : List Entry) (c : Client) (os : List ObjId) (before : List Pair) → is_in_order es ≡ true → AllByRecursion (λ e. each_once e.objects ≡ true) es →
    ((p : Pair) → list_any (same_pair p) before ≡ list_any (same_pair p) (kept_pairs t es)) → length (distinct same_pair (before ++ pairs_of c os)) ≡ remembered_count t es + fresh_of t (entry_of es c) os
pairs-with t es c os before order once same =
    length-distinct pair-equality (before ++ pairs_of c os) (pairs_of c news ++ kept_pairs t es)
    (once-append pair-equality (pairs_of c news) (kept_pairs t es)
    (once-pairs c news (once-filter object-equality (λ o. not (entry_remembers t o (entry_of es c))) (distinct same_id os) (once-distinct object-equality os)))
    (once-kept_pairs t es order once) (fresh-apart t es c (distinct same_id os) order once))
    (λ p. list_any-append (same_pair p) before (pairs_of c os) ∙ ap (λ v. v || list_any (same_pair p) (pairs_of c os)) (same p)
    ∙ any-fresh t es c os p order once ∙ sym (list_any-append (same_pair p) (pairs_of c news) (kept_pairs t es)))
    ∙ length-append (pairs_of c news) (kept_pairs t es)
    ∙ ap (λ k. k + length (kept_pairs t es)) (length-map news (λ o. record { client = c; object = o }))
    ∙ ap (λ k. length news + k) (length-kept_pairs t es)
    ∙ omega arith
  where
    news : List ObjId
    news = filter (λ o. not (entry_remembers t o (entry_of es c))) (distinct same_id os)

-- How many pairs there are with no others.
pub pairs-alone : (t : ℕ) (es : List Entry) (before : List Pair) → is_in_order es ≡ true → AllByRecursion (λ e. each_once e.objects ≡ true) es →
    ((p : Pair) → list_any (same_pair p) before ≡ list_any (same_pair p) (kept_pairs t es)) → length (distinct same_pair (before ++ [])) ≡ remembered_count t es + 0
pairs-alone t es before order once same =
    length-distinct pair-equality (before ++ []) (kept_pairs t es) (once-kept_pairs t es order once)
    (λ p. list_any-append (same_pair p) before [] ∙ or_false (list_any (same_pair p) before) ∙ same p)
    ∙ length-kept_pairs t es ∙ omega arith

new-brought : (lease : ℕ) (before : List Call) (kind : CallKind) (now : ℕ) (c : Client) (n asked : ℤ) (os : List ObjId) →
    new_pairs lease before (new_call kind now c n asked os) ≡ (if call_counts kind (has_time lease now (calls_of c before)) then pairs_of c os else [])
unfolding new_pairs
new-brought lease before Dirty now c n asked os = refl
new-brought lease before Weak now c n asked os = refl
new-brought lease before Strong now c n asked os = refl

-- THE PAIRS THAT ARE REMEMBERED AFTER A CALL are counted.
pub pairs-counted : (lease m : ℕ) (table : LeaseTable) (calls : List Call) (kind : CallKind) (now : ℕ) (c : Client) (n asked : ℤ) (os : List ObjId) → m ≤ now → StandsFor lease table m calls → is_in_order table.entries ≡ true →
    pairs_with_call lease calls (new_call kind now c n asked os) ≡ pairs_after now table.entries c kind os
pairs-counted lease m table calls kind now c n asked os le s order =
    ap (λ l. length (distinct same_pair (pairs lease now calls ++ l)))
    (new-brought lease calls kind now c n asked os ∙ ap (λ b. if call_counts kind b then pairs_of c os else []) (time-left lease m now (entry_of table.entries c) (calls_of c calls) le (s.each c)))
    ∙ go (call_counts kind (has_time_left now (entry_of table.entries c)))
  where
    once : AllByRecursion (λ e. each_once e.objects ≡ true) table.entries
    once = entries-once lease m table calls s order

    -- the kept pairs are the remembered ones
    same : (p : Pair) → list_any (same_pair p) (pairs lease now calls) ≡ list_any (same_pair p) (kept_pairs now table.entries)
    same p =
        any-pairs lease now calls p
        ∙ remembered-entry lease m now (entry_of table.entries p.client) (calls_of p.client calls) p.object le (s.each p.client)
        ∙ sym (any-kept_pairs now p table.entries order once)

    go : (b : Bool) → length (distinct same_pair (pairs lease now calls ++ (if b then pairs_of c os else []))) ≡ remembered_count now table.entries + (if b then fresh_of now (entry_of table.entries c) os else 0)
    go true = pairs-with now table.entries c os (pairs lease now calls) order once same
    go false = pairs-alone now table.entries (pairs lease now calls) order once same

-- ---- the remembered pairs, each once

any-narrower : {X : Type 0} (p q : X → Bool) (xs : List X) → list_any p xs ≡ false → list_any (λ x. p x && q x) xs ≡ false
any-narrower p q [] h = refl
any-narrower p q (x ∷ xs) h = go (p x) h (any-narrower p q xs)
  where
    go : (b : Bool) → (b || list_any p xs) ≡ false → (list_any p xs ≡ false → list_any (λ y. p y && q y) xs ≡ false) → ((b && q x) || list_any (λ y. p y && q y) xs) ≡ false
    go true e rest = absurd (cc)
    go false e rest = rest e

once-flat : (f : Client → List ObjId) → ((c : Client) → all_once same_id (f c) ≡ true) → (cs : List Client) → all_once same_client cs ≡ true → all_once same_pair (flat_map (λ c. pairs_of c (f c)) cs) ≡ true
once-flat f k [] h = refl
once-flat f k (c ∷ cs) h =
    let two = and_parts (not (list_any (same_client c) cs)) (all_once same_client cs) h in
    once-append pair-equality (pairs_of c (f c)) (flat_map (λ d. pairs_of d (f d)) cs) (once-pairs c (f c) (k c)) (once-flat f k cs two.1)
    (every-pair (λ p. list_any (same_pair p) (flat_map (λ d. pairs_of d (f d)) cs) ≡ false) c (f c)
    (λ o. any-flat (record { client = c; object = o }) f cs ∙ any-narrower (same_client c) (λ d. list_any (same_id o) (f d)) cs (not-true (list_any (same_client c) cs) two.0)))

once-remembered : (lease t : ℕ) (calls : List Call) → all_once same_pair (pairs lease t calls) ≡ true
unfolding pairs pairs_with objects_named
once-remembered lease t calls =
    once-flat (λ c. filter (is_remembered_pair lease t (calls_of c calls)) (distinct same_id (flat_map (λ x. x.objects) calls)))
    (λ c. once-filter object-equality (is_remembered_pair lease t (calls_of c calls)) (distinct same_id (flat_map (λ x. x.objects) calls)) (once-distinct object-equality (flat_map (λ x. x.objects) calls)))
    (clients calls) (rising-once (clients calls) (rising-clients calls))

-- THE PAIRS THAT ARE REMEMBERED are counted.
pub pairs-remembered : (lease m t : ℕ) (table : LeaseTable) (calls : List Call) → m ≤ t → StandsFor lease table m calls → is_in_order table.entries ≡ true →
    length (pairs lease t calls) ≡ remembered_count t table.entries
pairs-remembered lease m t table calls le s order =
    let once = entries-once lease m table calls s order in
    length-same pair-equality (pairs lease t calls) (kept_pairs t table.entries) (once-remembered lease t calls) (once-kept_pairs t table.entries order once)
    (λ p. any-pairs lease t calls p
    ∙ remembered-entry lease m t (entry_of table.entries p.client) (calls_of p.client calls) p.object le (s.each p.client)
    ∙ sym (any-kept_pairs t p table.entries order once))
    ∙ length-kept_pairs t table.entries
