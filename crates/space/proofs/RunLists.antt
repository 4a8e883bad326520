-- Lists that hold the same calls, and what the counts of calls stand for.
use Rattle.std.proofs.Common.{◌≡◌, ℕ, zero, suc, ◌+◌, ◌-◌, ◌<◌, ◌≤◌, List, [], ◌∷◌, ◌++◌, length, refl, ap, sym, subst, ◌∙◌, cond, arith, length-append, Option, Some, None, IfSome, is_some, slice_get, get_or, position, replicate, swap_remove, sum_by}
use Rattle.std.specs.Prelude.{Bool, true, false, ◌==◌, ◌&&◌, filter, nat_lt, not, unwrap_or, flat_map, if◌then◌else◌}
use Rattle.std.specs.List.{All, list_any, position_or_len, IsDistinct, AllByRecursion}
use Rattle.std.specs.Option.{option_map}
use Rattle.std.specs.Map.{keys_of, values_of, lookup}
use Rattle.std.proofs.lemmas.Bool.{and_parts, and_from, lt-ltb}
use Rattle.std.proofs.lemmas.Bool.Decides.{Decides-eqb}
use Rattle.std.proofs.lemmas.List.{length-replicate}
use Rattle.std.proofs.lemmas.List.Elements.{All-cons, All-head, All-same, All-set, All-tail, All-take, filter-append}
use Rattle.std.proofs.lemmas.List.Sums.{sum_by-cons, sum_by-swap_remove}
use Rattle.std.proofs.lemmas.Map.{NonePasses}
use Rattle.std.proofs.lemmas.Map.Made.{lookup_key_passes}
use Rattle.std.proofs.lemmas.Option.{get_or_from_slice_get, none-some, same_Some, slice_get_within, slice_get-get_or, slice_get-map}
use Rattle.object_ids.specs.declared.ids.ObjId.{ObjId}
use Rattle.object_ids.specs.Same.{same_id, same_key}
use Rattle.object_ids.proofs.Exact.{same_id-equal, same_id-self, same_key-same}
use Rattle.indexmap.specs.IndexMap.{insert_entry, set_value_at}
use Rattle.indexmap.proofs.MapLemmas.{Found-position}
use Rattle.history.specs.Places.{History}
use Rattle.history.proofs.ListLemmas.{list_any-length, same_test}
use Rattle.history.proofs.Partitions.{one_if}
use Rattle.space.specs.declared.runs.Run.{Run}
use Rattle.space.specs.RunTable.{AreSame, calls_of, LacksOneOf}
use Rattle.space.specs.Runs.{is_run, is_run_on, without_first, RunsStand, caller_of, object_of}
use Rattle.space.proofs.RunSteps.{count-last, count-without}

-- ---- the same calls

pub as-many : (xs ys : List Run) → AreSame xs ys → length xs ≡ length ys
as-many xs ys same = sym (all xs) ∙ same (λ r. true) ∙ all ys
  where
    all : (rs : List Run) → length (filter (λ r. true) rs) ≡ length rs
    all [] = refl
    all (r ∷ rs) = ap suc (all rs)

-- They stand for the same history.
pub stand-same : (h : History) (xs ys : List Run) → AreSame xs ys → RunsStand caller_of object_of h ys → RunsStand caller_of object_of h xs
stand-same h xs ys same r = record {
  lines = λ b o. same (is_run b o) ∙ r.lines b o;
  calls = λ o. same (is_run_on object_of o) ∙ r.calls o;
  all = as-many xs ys same ∙ r.all;
}

-- ---- one call

-- Two calls that are equal field by field, as keys are compared.
abbrev pub same_run : Run → Run → Bool
same_run a b = a.by == b.by && same_key a.object b.object

-- The call that a connection runs of an object.
abbrev run_of : ℕ → ObjId → Run
run_of by o = record { by = by; object = o }

is-run-equal : (by : ℕ) (o : ObjId) (r : Run) → is_run by o r ≡ true → r ≡ run_of by o
is-run-equal by o r h =
    let two = and_parts (r.by == by) (same_id r.object o) h in
    let n : r.by ≡ by = (Decides-eqb r.by by).0 two.0 in
    let x : r.object ≡ o = same_id-equal r.object o two.1 in
    ap (λ (y : ℕ). record r { by = y }) n ∙ ap (λ (y : ObjId). run_of by y) x

is-run-self : (r : Run) → is_run r.by r.object r ≡ true
is-run-self r = and_from (r.by == r.by) (same_id r.object r.object) ((Decides-eqb r.by r.by).1 refl) (same_id-self r.object)

same-run-is : (a b : Run) → same_run a b ≡ is_run b.by b.object a
same-run-is a b = ap (λ x. a.by == b.by && x) (same_key-same a.object b.object)

pub same-run-equal : (a b : Run) → same_run a b ≡ true → a ≡ b
same-run-equal a b h = is-run-equal b.by b.object a (sym (same-run-is a b) ∙ h)

-- The calls that one counts are those with its key.
pub is-run-key : (run r : Run) → is_run run.by run.object r ≡ same_run run r
is-run-key run r = same_test (is_run run.by run.object r) (same_run run r) there back
  where
    there : is_run run.by run.object r ≡ true → same_run run r ≡ true
    there h = same-run-is run r ∙ (let P : Run → Type 0 = λ x. is_run x.by x.object run ≡ true in subst P (sym (is-run-equal run.by run.object r h)) (is-run-self run))

    back : same_run run r ≡ true → is_run run.by run.object r ≡ true
    back h = let P : Run → Type 0 = λ x. is_run run.by run.object x ≡ true in subst P (same-run-equal run r h) (is-run-self run)

-- ---- how many calls the entries of the counts stand for

-- How many calls that pass a test a count of a call stands for.
abbrev share : (Run → Bool) → Run → ℕ → ℕ
share test r n = if test r then n else 0

abbrev shares : (Run → Bool) → Run × ℕ → ℕ
shares test e = share test e.0 e.1

share-none : (test : Run → Bool) (r : Run) → share test r 0 ≡ 0
share-none test r = either (test r) 0
  where
    either : (b : Bool) (n : ℕ) → (if b then n else n) ≡ n
    either true n = refl
    either false n = refl

counted-one : (test : Run → Bool) (r : Run) (n : ℕ) → length (filter test (replicate n r)) ≡ share test r n
counted-one test r zero = sym (share-none test r)
counted-one test r (suc n) = go (test r) (counted-one test r n)
  where
    go : (b : Bool) → length (filter test (replicate n r)) ≡ (if b then n else 0) → length (cond b (r ∷ filter test (replicate n r)) (filter test (replicate n r))) ≡ (if b then suc n else 0)
    go true h = ap suc h
    go false h = h

counted : (test : Run → Bool) (es : List (Run × ℕ)) → length (filter test (flat_map calls_of es)) ≡ sum_by (shares test) es
counted test [] = refl
counted test (e ∷ es) =
    ap length (filter-append test (calls_of e) (flat_map calls_of es)) ∙ length-append (filter test (calls_of e)) (filter test (flat_map calls_of es))
    ∙ omega (arith, counted-one test e.0 e.1, counted test es, sum_by-cons (shares test) e es)

-- ---- how many of one

-- No later entry counts the same calls.
none-shared : (run : Run) (es : List (Run × ℕ)) → NonePasses (same_run run) es → sum_by (shares (is_run run.by run.object)) es ≡ 0
none-shared run [] h = refl
none-shared run (e ∷ es) h =
    let none : share (is_run run.by run.object) e.0 e.1 ≡ 0 = ap (λ b. if b then e.1 else 0) (is-run-key run e.0 ∙ h.0) in
    omega (arith, none, none-shared run es h.1, sum_by-cons (shares (is_run run.by run.object)) e es)

passes : (run : Run) (es : List (Run × ℕ)) → AllByRecursion (λ y. same_run run y ≡ false) (keys_of es) → NonePasses (same_run run) es
passes run [] h = tt
passes run (e ∷ es) h = (h.0, passes run es h.1)

-- A call is counted in one place.
pub one-counted : (run : Run) (es : List (Run × ℕ)) → IsDistinct same_run (keys_of es) → length (filter (is_run run.by run.object) (flat_map calls_of es)) ≡ unwrap_or (lookup (same_run run) es) 0
unfolding IsDistinct
one-counted run es distinct = counted (is_run run.by run.object) es ∙ all es distinct
  where
    all : (fs : List (Run × ℕ)) → IsDistinct same_run (keys_of fs) → sum_by (shares (is_run run.by run.object)) fs ≡ unwrap_or (lookup (same_run run) fs) 0
    all [] d = refl
    all (e ∷ fs) d = go (same_run run e.0) refl (all fs d.1)
      where
        here : (b : Bool) → same_run run e.0 ≡ b → share (is_run run.by run.object) e.0 e.1 ≡ (if b then e.1 else 0)
        here b k = ap (λ x. if x then e.1 else 0) (is-run-key run e.0 ∙ k)

        go : (b : Bool) → same_run run e.0 ≡ b → sum_by (shares (is_run run.by run.object)) fs ≡ unwrap_or (lookup (same_run run) fs) 0 →
            sum_by (shares (is_run run.by run.object)) (e ∷ fs) ≡ unwrap_or (cond b (Some e.1) (lookup (same_run run) fs)) 0
        go true k rest =
            let P : Run → Type 0 = λ x. AllByRecursion (λ y. same_run x y ≡ false) (keys_of fs) in
            let apart = subst P (sym (same-run-equal run e.0 k)) d.0 in
            omega (arith, here true k, none-shared run fs (passes run fs apart), sum_by-cons (shares (is_run run.by run.object)) e fs)
        go false k rest = omega (arith, here false k, rest, sum_by-cons (shares (is_run run.by run.object)) e fs)

-- It is counted nowhere.
pub none-counted : (run : Run) (es : List (Run × ℕ)) → IsDistinct same_run (keys_of es) → is_some (lookup (same_run run) es) ≡ false → length (filter (is_run run.by run.object) (flat_map calls_of es)) ≡ 0
none-counted run es distinct none = one-counted run es distinct ∙ looked (lookup (same_run run) es) none
  where
    looked : (o : Option ℕ) → is_some o ≡ false → unwrap_or o 0 ≡ 0
    looked None h = refl
    looked (Some n) h = absurd (cc)

pub none-run : (run : Run) (es : List (Run × ℕ)) → IsDistinct same_run (keys_of es) → is_some (lookup (same_run run) es) ≡ false → list_any (is_run run.by run.object) (flat_map calls_of es) ≡ false
none-run run es distinct none =
    list_any-length (is_run run.by run.object) (flat_map calls_of es) ∙ ap (nat_lt 0) (none-counted run es distinct none)

-- The entry of a call at its place: it has the call, and how many of it there are.
pub record IsEntryOf (run : Run) (es : List (Run × ℕ)) (i : ℕ) : Type 0 where
  pub entry : Run × ℕ
  pub there : slice_get es i ≡ Some entry
  pub key : run ≡ entry.0
  pub count : length (filter (is_run run.by run.object) (flat_map calls_of es)) ≡ entry.1

pub found : (run : Run) (es : List (Run × ℕ)) (i : ℕ) → IsDistinct same_run (keys_of es) → position (same_run run) (keys_of es) ≡ Some i → IsEntryOf run es i
found run es i distinct p =
    let f = Found-position (same_run run) es i p in
    let there = slice_get-get_or es i (run, 0) f.within in
    let key = f.key ∙ slice_get-map (λ (e : Run × ℕ). e.0) es i ∙ ap (option_map (λ (e : Run × ℕ). e.0)) there in
    let value = f.value ∙ slice_get-map (λ (e : Run × ℕ). e.1) es i ∙ ap (option_map (λ (e : Run × ℕ). e.1)) there in
    record {
      entry = get_or es i (run, 0);
      there = there;
      key = same-run-equal run _ (lookup_key_passes (same_run run) es _ key);
      count = one-counted run es distinct ∙ ap (λ v. unwrap_or v 0) value;
    }

-- It is counted no more often than there are calls.
pub few-counted : (run : Run) (es : List (Run × ℕ)) → unwrap_or (lookup (same_run run) es) 0 ≤ length (flat_map calls_of es)
few-counted run [] = omega arith
few-counted run (e ∷ es) = go (same_run run e.0) (few-counted run es)
  where
    both : length (flat_map calls_of (e ∷ es)) ≡ e.1 + length (flat_map calls_of es)
    both = length-append (calls_of e) (flat_map calls_of es) ∙ ap (λ n. n + length (flat_map calls_of es)) (length-replicate e.1 e.0)

    go : (b : Bool) → unwrap_or (lookup (same_run run) es) 0 ≤ length (flat_map calls_of es) → unwrap_or (cond b (Some e.1) (lookup (same_run run) es)) 0 ≤ length (flat_map calls_of (e ∷ es))
    go true h = omega (arith, both)
    go false h = omega (arith, both, h)

-- ---- one more

inserted : (test : Run → Bool) (es : List (Run × ℕ)) (run : Run) (n : ℕ) →
    sum_by (shares test) (insert_entry same_run es run n) + share test run (unwrap_or (lookup (same_run run) es) 0) ≡ sum_by (shares test) es + share test run n
inserted test [] run n = omega (arith, share-none test run)
inserted test (e ∷ es) run n = go (same_run run e.0) refl (inserted test es run n)
  where
    go : (b : Bool) → same_run run e.0 ≡ b → sum_by (shares test) (insert_entry same_run es run n) + share test run (unwrap_or (lookup (same_run run) es) 0) ≡ sum_by (shares test) es + share test run n →
        sum_by (shares test) (if b then (e.0, n) ∷ es else e ∷ insert_entry same_run es run n) + share test run (unwrap_or (cond b (Some e.1) (lookup (same_run run) es)) 0) ≡ sum_by (shares test) (e ∷ es) + share test run n
    go true k rest =
        let here = ap (λ r. share test r n) (same-run-equal run e.0 k) in
        let before = ap (λ r. share test r e.1) (same-run-equal run e.0 k) in
        omega (arith, here, before, sum_by-cons (shares test) (e.0, n) es, sum_by-cons (shares test) e es)
    go false k rest = omega (arith, rest, sum_by-cons (shares test) e (insert_entry same_run es run n), sum_by-cons (shares test) e es)

-- A call that is inserted, and whose count is then set, is as one inserted with that count.
set-inserted : (run : Run) (es : List (Run × ℕ)) (m n : ℕ) → set_value_at (insert_entry same_run es run m) (position_or_len (same_run run) (keys_of es)) n ≡ insert_entry same_run es run n
set-inserted run [] m n = refl
set-inserted run (e ∷ es) m n = go (same_run run e.0) (set-inserted run es m n)
  where
    go : (b : Bool) → set_value_at (insert_entry same_run es run m) (position_or_len (same_run run) (keys_of es)) n ≡ insert_entry same_run es run n →
        set_value_at (if b then (e.0, m) ∷ es else e ∷ insert_entry same_run es run m) (cond (not b) (1 + position_or_len (same_run run) (keys_of es)) 0) n ≡ (if b then (e.0, n) ∷ es else e ∷ insert_entry same_run es run n)
    go true rest = refl
    go false rest =
        let later : 1 + position_or_len (same_run run) (keys_of es) ≡ suc (position_or_len (same_run run) (keys_of es)) = omega arith in
        ap (λ i. set_value_at (e ∷ insert_entry same_run es run m) i n) later ∙ ap (λ l. e ∷ l) rest

pub recounted : (run : Run) (es fs : List (Run × ℕ)) (i m n : ℕ) → fs ≡ insert_entry same_run es run m → i ≡ position_or_len (same_run run) (keys_of es) → set_value_at fs i n ≡ insert_entry same_run es run n
recounted run es fs i m n now place =
    ap (λ l. set_value_at l i n) now ∙ ap (λ j. set_value_at (insert_entry same_run es run m) j n) place ∙ set-inserted run es m n

pub raised : (run : Run) (n : ℕ) (es fs : List (Run × ℕ)) → n ≡ unwrap_or (lookup (same_run run) es) 0 → fs ≡ insert_entry same_run es run (n + 1) → AreSame (flat_map calls_of fs) (flat_map calls_of es ++ run ∷ [])
unfolding one_if
raised run n es fs was now test =
    let new = ap (λ l. length (filter test (flat_map calls_of l))) now ∙ counted test (insert_entry same_run es run (n + 1)) in
    let old = ap (share test run) was in
    omega (arith, new, old, inserted test es run (n + 1), more (test run), counted test es, count-last test (flat_map calls_of es) run)
  where
    more : (b : Bool) → (if b then n + 1 else 0) ≡ (if b then n else 0) + one_if b
    more true = refl
    more false = refl

-- ---- one fewer

-- The entry at a place is set, or taken out.
set-shares : (test : Run → Bool) (es : List (Run × ℕ)) (i : ℕ) (e : Run × ℕ) (n : ℕ) → slice_get es i ≡ Some e → sum_by (shares test) (set_value_at es i n) + shares test e ≡ sum_by (shares test) es + share test e.0 n
set-shares test [] i e n h = absurd (none-some e h)
set-shares test (x ∷ es) zero e n h =
    let same = same_Some x e h in
    let here = ap (shares test) same in let there = ap (λ (y : Run × ℕ). share test y.0 n) same in
    omega (arith, here, there, sum_by-cons (shares test) (x.0, n) es, sum_by-cons (shares test) x es)
set-shares test (x ∷ es) (suc i) e n h = omega (arith, set-shares test es i e n h, sum_by-cons (shares test) x (set_value_at es i n), sum_by-cons (shares test) x es)

pub value-there : (es : List (Run × ℕ)) (i : ℕ) (e : Run × ℕ) (n : ℕ) → slice_get es i ≡ Some e → slice_get (values_of es) i ≡ Some n → n ≡ e.1
value-there es i e n there value = same_Some n e.1 (sym value ∙ slice_get-map (λ (x : Run × ℕ). x.1) es i ∙ ap (option_map (λ (x : Run × ℕ). x.1)) there)

pub set-lower : (es : List (Run × ℕ)) (i : ℕ) (e : Run × ℕ) (n : ℕ) → slice_get es i ≡ Some e → n ≡ e.1 → 1 < n → LacksOneOf e es (set_value_at es i (n - 1))
set-lower es i e n there count some test =
    omega (arith, set-shares test es i e (n - 1) there, less (test e.0), counted test es, counted test (set_value_at es i (n - 1)))
  where
    less : (b : Bool) → (if b then n - 1 else 0) + (if b then 1 else 0) ≡ (if b then e.1 else 0)
    less true = omega (arith, some, count)
    less false = refl

pub gone-lower : (es fs : List (Run × ℕ)) (i : ℕ) (e : Run × ℕ) → slice_get es i ≡ Some e → e.1 ≡ 1 → fs ≡ swap_remove es i e → LacksOneOf e es fs
gone-lower es fs i e h one gone test =
    let new = ap (λ l. length (filter test (flat_map calls_of l))) gone ∙ counted test (swap_remove es i e) in
    let out = sum_by-swap_remove (shares test) es i e (slice_get_within es i e h) in
    let it = ap (shares test) (get_or_from_slice_get es i e e h) in
    let last = ap (share test e.0) one in
    omega (arith, new, out, it, last, counted test es)

-- What it leaves, of a list in which the calls stand.
pub lowered : (run : Run) (e : Run × ℕ) (es fs : List (Run × ℕ)) → run ≡ e.0 → list_any (is_run run.by run.object) (flat_map calls_of es) ≡ true → LacksOneOf e es fs → AreSame (flat_map calls_of fs) (without_first (is_run run.by run.object) (flat_map calls_of es))
unfolding one_if
lowered run e es fs key some lower test =
    omega (arith, lower test, ones (test e.0), ap (λ r. one_if (test r)) key, count-without (is_run run.by run.object) test (test run) (λ r e. ap test (is-run-equal run.by run.object r e)) (flat_map calls_of es) some)
  where
    ones : (b : Bool) → (if b then 1 else 0) ≡ one_if b
    ones true = refl
    ones false = refl

-- ---- each count is positive

abbrev IsPositive : Run × ℕ → Type 0
IsPositive e = 0 < e.1

pub positive-there : (es : List (Run × ℕ)) (i : ℕ) (e : Run × ℕ) → slice_get es i ≡ Some e → All IsPositive es → 0 < e.1
positive-there es i e there h = subst IsPositive (get_or_from_slice_get es i e e there) (h i e (slice_get_within es i e there))

-- A call that an entry counts runs.
pub some-run : (run : Run) (es : List (Run × ℕ)) (n : ℕ) → length (filter (is_run run.by run.object) (flat_map calls_of es)) ≡ n → 0 < n → list_any (is_run run.by run.object) (flat_map calls_of es) ≡ true
some-run run es n count some = list_any-length (is_run run.by run.object) (flat_map calls_of es) ∙ ap (nat_lt 0) count ∙ lt-ltb 0 n some

pub positive-raised : (run : Run) (n : ℕ) (es fs : List (Run × ℕ)) → fs ≡ insert_entry same_run es run (n + 1) → All IsPositive es → All IsPositive fs
positive-raised run n es fs now h = All-same IsPositive fs (insert_entry same_run es run (n + 1)) now (each es h)
  where
    each : (xs : List (Run × ℕ)) → All IsPositive xs → All IsPositive (insert_entry same_run xs run (n + 1))
    each [] k = All-cons IsPositive (run, n + 1) [] (omega arith) k
    each (x ∷ xs) k = go (same_run run x.0) (each xs (All-tail IsPositive x xs k))
      where
        go : (b : Bool) → All IsPositive (insert_entry same_run xs run (n + 1)) → All IsPositive (if b then (x.0, n + 1) ∷ xs else x ∷ insert_entry same_run xs run (n + 1))
        go true rest = All-cons IsPositive (x.0, n + 1) xs (omega arith) (All-tail IsPositive x xs k)
        go false rest = All-cons IsPositive x (insert_entry same_run xs run (n + 1)) (All-head IsPositive x xs k) rest

pub positive-set : (es : List (Run × ℕ)) (i n : ℕ) → 0 < n → All IsPositive es → All IsPositive (set_value_at es i n)
positive-set [] i n some h = h
positive-set (x ∷ xs) zero n some h = All-cons IsPositive (x.0, n) xs some (All-tail IsPositive x xs h)
positive-set (x ∷ xs) (suc i) n some h = All-cons IsPositive x (set_value_at xs i n) (All-head IsPositive x xs h) (positive-set xs i n some (All-tail IsPositive x xs h))

pub positive-gone : (es fs : List (Run × ℕ)) (i : ℕ) (taken : Option (Run × ℕ)) → i < length es → taken ≡ slice_get es i → IfSome taken (λ e. fs ≡ swap_remove es i e) → All IsPositive es → All IsPositive fs
positive-gone [] fs i taken within was left h = absurd (omega (arith, within))
positive-gone (x ∷ xs) fs i taken within was left h =
    let es : List (Run × ℕ) = x ∷ xs in
    let P : Option (Run × ℕ) → Type 0 = λ o. IfSome o (λ e. fs ≡ swap_remove es i e) in
    let is : fs ≡ swap_remove es i (get_or es i x) = subst P (was ∙ slice_get-get_or es i x within) left in
    let last = get_or es (length es - 1) (get_or es i x) in
    All-same IsPositive fs (swap_remove es i (get_or es i x)) is
    (All-take IsPositive (length es - 1) _ (All-set IsPositive es i last (h (length es - 1) (get_or es i x) (omega (arith, within))) h))
