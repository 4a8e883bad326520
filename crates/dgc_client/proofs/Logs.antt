-- What is true of each log.
use Rattle.std.proofs.Common.{◌≡◌, ℕ, ◌+◌, List, [], ◌∷◌, refl, ap, sym, ◌∙◌, arith, subst, cond, true≢false}
use Rattle.std.specs.Prelude.{ℤ, pos, ◌+ℤ◌, ◌<ℤ◌, ◌≤ℤ◌, Bool, true, false, ◌&&◌, ◌||◌, not, filter, find, int_lt, int_le, nat_lt, if◌then◌else◌, Option, Some, None, is_some, option_map}
use Rattle.std.specs.List.{list_all, AllByRecursion}
use Rattle.std.specs.Ordering.{int_eq}
use Rattle.std.proofs.lemmas.Int.{ints}
use Rattle.std.proofs.lemmas.Bool.{and_from}
use Rattle.std.proofs.lemmas.Bool.Decides.{Decides-int_eq}
use Rattle.object_ids.specs.declared.ids.ObjId.{ObjId}
use Rattle.dgc_client.specs.declared.plan.Plan.{Plan}
use Rattle.dgc_client.specs.declared.plan.Plan.TheVariants as plans
use Rattle.dgc_client.specs.Laws.{is_rising, NumbersRise}
use Rattle.dgc_client.specs.Log.{ClientCall, Registers, Drops, Dues, Answers, Fails, Dirty, Note, number_of, with_number, numbers_sent, next, has_number, without_number, with_dirty, closed_by, under_way, dirty_of, names, has_ref, refs, asks_in, confirms, is_sure, is_strong, objects_due, plan_of, new_dirty, good_if, note_of, notes}
use Rattle.dgc_client.specs.SentMap.{AreOnce}

-- ---- lists

pub all-filter : {X : Type 0} (q : X → Bool) (P : X → Type 0) (xs : List X) → AllByRecursion P xs → AllByRecursion P (filter q xs)
all-filter q P [] e = tt
all-filter q P (x ∷ xs) e = go (q x) (all-filter q P xs e.1)
  where
    go : (b : Bool) → AllByRecursion P (filter q xs) → AllByRecursion P (cond b (x ∷ filter q xs) (filter q xs))
    go true r = (e.0, r)
    go false r = r

pub all-weaker : {X : Type 0} (P Q : X → Type 0) → ((x : X) → P x → Q x) → (xs : List X) → AllByRecursion P xs → AllByRecursion Q xs
all-weaker P Q f [] e = tt
all-weaker P Q f (x ∷ xs) e = (f x e.0, all-weaker P Q f xs e.1)

-- What is found is one of them, and passes the test.
pub found : {X : Type 0} (P : X → Type 0) (p : X → Bool) (xs : List X) (y : X) → AllByRecursion P xs → find p xs ≡ Some y → P y × (p y ≡ true)
found P p [] y e h = absurd (cc)
found P p (x ∷ xs) y e h = go (found P p xs y e.1) (p x) refl h
  where
    go : (find p xs ≡ Some y → P y × (p y ≡ true)) → (b : Bool) → p x ≡ b → cond b (Some x) (find p xs) ≡ Some y → P y × (p y ≡ true)
    go ih true i h = let same : x ≡ y = cc in (subst P same e.0, subst (λ z. p z ≡ true) same i)
    go ih false i h = ih h

-- ---- numbers

pub same-number : (a b : ℤ) → int_eq a b ≡ true → a ≡ b
same-number a b h = (Decides-int_eq a b).0 h

pub number-self : (a : ℤ) → int_eq a a ≡ true
number-self a = (Decides-int_eq a a).1 refl

lt-test : (a b : ℤ) → a <ℤ b → int_lt a b ≡ true
lt-test a b h = grind (arith, ints)

other-number : (a b : ℤ) → b <ℤ a → int_eq a b ≡ false
other-number a b h = go (int_eq a b) refl
  where
    go : (t : Bool) → int_eq a b ≡ t → t ≡ false
    go true e = let same : a ≡ b = same-number a b e in absurd (omega (arith, ints))
    go false e = refl

-- The number after a call that sends something or nothing.
abbrev after : {X : Type 0} → Option X → ℤ → ℤ
after p z = if is_some p then z +ℤ pos 1 else z

grows : {X : Type 0} (p : Option X) (z : ℤ) → z ≤ℤ after p z
grows (Some x) z = omega (arith, ints)
grows None z = omega (arith, ints)

pub next-grows : (first : ℤ) (n : Note) (ns : List Note) → next first ns ≤ℤ next first (n ∷ ns)
unfolding next
next-grows first n ns = grows n.plan (next first ns)

-- A plan has the next number.
pub plan-number : (first : ℤ) (ns : List Note) (x : ClientCall) (p : Plan) → plan_of first ns x ≡ Some p → number_of p ≡ next first ns
plan-number first ns (Drops o now) p h = go (has_ref o (refs first ns)) h
  where
    made : Plan
    made = plans.Clean (next first ns) (o ∷ []) (is_strong ns o)

    go : (b : Bool) → (if b then Some made else None) ≡ Some p → number_of p ≡ next first ns
    go true h = let same : made ≡ p = cc in subst (λ (w : Plan). number_of w ≡ next first ns) same refl
    go false h = absurd (cc)
plan-number first ns (Dues now) p h = go (objects_due first ns now) h
  where
    go : (d : Option (List ObjId)) → option_map (plans.Dirty (next first ns)) d ≡ Some p → number_of p ≡ next first ns
    go (Some os) h = let same : plans.Dirty (next first ns) os ≡ p = cc in subst (λ (w : Plan). number_of w ≡ next first ns) same refl
    go None h = absurd (cc)
plan-number first ns (Registers o) p h = absurd (cc)
plan-number first ns (Answers number granted now) p h = absurd (cc)
plan-number first ns (Fails number) p h = absurd (cc)

abbrev Below : ℤ → ℤ → Type 0
Below z m = m <ℤ z

-- All numbers that were sent are below the next.
below-more : (z : ℤ) (p : Option Plan) (ms : List ℤ) → ((q : Plan) → p ≡ Some q → number_of q ≡ z) → AllByRecursion (Below z) ms → AllByRecursion (Below (after p z)) (with_number p ms)
below-more z (Some q) ms same all =
    let e : number_of q ≡ z = same q refl in
    (omega (arith, ints), all-weaker (Below z) (Below (z +ℤ pos 1)) (λ m l. omega (arith, ints)) ms all)
below-more z None ms same all = all

pub numbers-low : (first : ℤ) (calls : List ClientCall) → AllByRecursion (Below (next first (notes first calls))) (numbers_sent (notes first calls))
unfolding notes note_of numbers_sent next
numbers-low first [] = tt
numbers-low first (x ∷ calls) =
    below-more (next first (notes first calls)) (plan_of first (notes first calls) x) (numbers_sent (notes first calls)) (plan-number first (notes first calls) x) (numbers-low first calls)

all-tests : (z : ℤ) (ms : List ℤ) → AllByRecursion (Below z) ms → list_all (λ m. int_lt m z) ms ≡ true
all-tests z [] all = refl
all-tests z (m ∷ ms) all = and_from (int_lt m z) (list_all (λ m. int_lt m z) ms) (lt-test m z all.0) (all-tests z ms all.1)

rising-more : (z : ℤ) (p : Option Plan) (ms : List ℤ) → ((q : Plan) → p ≡ Some q → number_of q ≡ z) → AllByRecursion (Below z) ms → is_rising ms ≡ true → is_rising (with_number p ms) ≡ true
rising-more z (Some q) ms same all h =
    let P : ℤ → Type 0 = λ n. AllByRecursion (Below n) ms in
    and_from (list_all (λ m. int_lt m (number_of q)) ms) (is_rising ms) (all-tests (number_of q) ms (subst P (sym (same q refl)) all)) h
rising-more z None ms same all h = h

pub numbers-rise : NumbersRise
unfolding notes note_of numbers_sent
numbers-rise first [] = refl
numbers-rise first (x ∷ calls) =
    rising-more (next first (notes first calls)) (plan_of first (notes first calls) x) (numbers_sent (notes first calls)) (plan-number first (notes first calls) x) (numbers-low first calls) (numbers-rise first calls)

-- ---- dirty calls under way

abbrev Early : ℤ → Dirty → Type 0
Early z y = y.number <ℤ z

closed-low : (z : ℤ) (x : ClientCall) (ys : List Dirty) → AllByRecursion (Early z) ys → AllByRecursion (Early z) (closed_by x ys)
closed-low z (Answers number granted now) ys all = all-filter (λ y. not (has_number number y)) (Early z) ys all
closed-low z (Fails number) ys all = all-filter (λ y. not (has_number number y)) (Early z) ys all
closed-low z (Registers o) ys all = all
closed-low z (Drops o now) ys all = all
closed-low z (Dues now) ys all = all

low-more : (z : ℤ) (now : ℕ) (d : Option (List ObjId)) (ys : List Dirty) → AllByRecursion (Early z) ys → AllByRecursion (Early (after (option_map (plans.Dirty z) d) z)) (with_dirty (option_map (new_dirty z now) d) ys)
low-more z now (Some os) ys all = (omega (arith, ints), all-weaker (Early z) (Early (z +ℤ pos 1)) (λ y l. omega (arith, ints)) ys all)
low-more z now None ys all = all

pub under-low : (first : ℤ) (calls : List ClientCall) → AllByRecursion (Early (next first (notes first calls))) (under_way (notes first calls))
unfolding notes note_of under_way next
under-low first [] = tt
under-low first (Registers o ∷ calls) = under-low first calls
under-low first (Drops o now ∷ calls) =
    let z = next first (notes first calls) in
    all-weaker (Early z) (Early (after (plan_of first (notes first calls) (Drops o now)) z)) (λ y l. let g = grows (plan_of first (notes first calls) (Drops o now)) z in omega (arith, ints))
    (under_way (notes first calls)) (under-low first calls)
under-low first (Dues now ∷ calls) = low-more (next first (notes first calls)) now (objects_due first (notes first calls) now) (under_way (notes first calls)) (under-low first calls)
under-low first (Answers number granted now ∷ calls) = closed-low (next first (notes first calls)) (Answers number granted now) (under_way (notes first calls)) (under-low first calls)
under-low first (Fails number ∷ calls) = closed-low (next first (notes first calls)) (Fails number) (under_way (notes first calls)) (under-low first calls)

-- What is found without a number.
pub find-without : (number n : ℤ) (ys : List Dirty) → find (has_number n) (without_number number ys) ≡ (if int_eq number n then None else find (has_number n) ys)
find-without number n [] = same (int_eq number n)
  where
    nothing : Option Dirty
    nothing = None

    same : (b : Bool) → nothing ≡ (if b then nothing else nothing)
    same true = refl
    same false = refl
find-without number n (y ∷ ys) = go (int_eq number y.number) refl (int_eq number n) refl (int_eq n y.number) refl (find-without number n ys)
  where
    go : (a : Bool) → int_eq number y.number ≡ a → (s : Bool) → int_eq number n ≡ s → (b : Bool) → int_eq n y.number ≡ b →
        find (has_number n) (without_number number ys) ≡ (if s then None else find (has_number n) ys) →
        find (has_number n) (cond (not a) (y ∷ without_number number ys) (without_number number ys)) ≡ (if s then None else cond b (Some y) (find (has_number n) ys))
    go true p true q b r rest = rest
    go true p false q true r rest = absurd (let e : number ≡ y.number = same-number number y.number p in let f : n ≡ y.number = same-number n y.number r in
        let t : int_eq number n ≡ true = subst (λ (z : ℤ). int_eq number z ≡ true) (e ∙ sym f) (number-self number) in true≢false (sym t ∙ q))
    go true p false q false r rest = rest
    go false p true q true r rest = absurd (let e : number ≡ n = same-number number n q in let f : n ≡ y.number = same-number n y.number r in
        let t : int_eq number y.number ≡ true = subst (λ (z : ℤ). int_eq number z ≡ true) (e ∙ f) (number-self number) in true≢false (sym t ∙ p))
    go false p true q false r rest = ap (λ b. cond b (Some y) (find (has_number n) (without_number number ys))) r ∙ rest
    go false p false q b r rest = ap (λ b. cond b (Some y) (find (has_number n) (without_number number ys))) r ∙ ap (cond b (Some y)) rest

low-none : (z : ℤ) (ys : List Dirty) → AllByRecursion (Early z) ys → find (has_number z) ys ≡ None
low-none z [] all = refl
low-none z (y ∷ ys) all = ap (λ b. cond b (Some y) (find (has_number z) ys)) (other-number z y.number all.0) ∙ low-none z ys all.1

once-without : (number : ℤ) (ys : List Dirty) → AreOnce ys → AreOnce (without_number number ys)
once-without number [] once = tt
once-without number (y ∷ ys) once = go (has_number number y) (once-without number ys once.1)
  where
    none : (b : Bool) → (if b then None else find (has_number y.number) ys) ≡ None
    none true = refl
    none false = once.0

    go : (b : Bool) → AreOnce (without_number number ys) → AreOnce (cond (not b) (y ∷ without_number number ys) (without_number number ys))
    go true rest = rest
    go false rest = (find-without number y.number ys ∙ none (int_eq number y.number), rest)

once-more : (z : ℤ) (now : ℕ) (d : Option (List ObjId)) (ys : List Dirty) → AllByRecursion (Early z) ys → AreOnce ys → AreOnce (with_dirty (option_map (new_dirty z now) d) ys)
once-more z now (Some os) ys low once = (low-none z ys low, once)
once-more z now None ys low once = once

pub under-once : (first : ℤ) (calls : List ClientCall) → AreOnce (under_way (notes first calls))
unfolding notes note_of under_way
under-once first [] = tt
under-once first (Registers o ∷ calls) = under-once first calls
under-once first (Drops o now ∷ calls) = under-once first calls
under-once first (Dues now ∷ calls) = once-more (next first (notes first calls)) now (objects_due first (notes first calls) now) (under_way (notes first calls)) (under-low first calls) (under-once first calls)
under-once first (Answers number granted now ∷ calls) = once-without number (under_way (notes first calls)) (under-once first calls)
under-once first (Fails number ∷ calls) = once-without number (under_way (notes first calls)) (under-once first calls)

-- ---- a new reference is not sure

not-below : (a b : ℤ) → b <ℤ a → int_le a b ≡ false
not-below a b h = grind (arith, ints)

and-false : (b : Bool) → (b && false) ≡ false
and-false true = refl
and-false false = refl

asks-none : (since : ℤ) (o : ObjId) (g : Option Dirty) (granted now : ℕ) → ((y : Dirty) → g ≡ Some y → y.number <ℤ since) → asks_in (good_if g granted now) (record { id = o; since = since }) ≡ false
asks-none since o None granted now low = refl
asks-none since o (Some y) granted now low = go (nat_lt now (y.moment + granted))
  where
    go : (b : Bool) → asks_in (if b then Some (record { dirty = y; granted = granted }) else None) (record { id = o; since = since }) ≡ false
    go true = ap (λ b. names o y && b) (not-below since y.number (low y refl)) ∙ and-false (names o y)
    go false = refl

-- A call confirms no reference whose `since` is not given out yet.
confirms-none : (first : ℤ) (calls : List ClientCall) (x : ClientCall) (o : ObjId) (since : ℤ) → next first (notes first calls) ≤ℤ since → confirms (record { id = o; since = since }) (note_of first (notes first calls) x) ≡ false
unfolding note_of
confirms-none first calls (Answers number granted now) o since le =
    asks-none since o (dirty_of number (notes first calls)) granted now
    (λ y h. let low : y.number <ℤ next first (notes first calls) = (found (Early (next first (notes first calls))) (has_number number) (under_way (notes first calls)) y (under-low first calls) h).0 in omega (arith, ints))
confirms-none first calls (Registers p) o since le = refl
confirms-none first calls (Drops p now) o since le = refl
confirms-none first calls (Dues now) o since le = refl
confirms-none first calls (Fails number) o since le = refl

pub new-unsure : (first : ℤ) (calls : List ClientCall) (o : ObjId) (since : ℤ) → next first (notes first calls) ≤ℤ since → is_sure (notes first calls) (record { id = o; since = since }) ≡ false
unfolding notes is_sure
new-unsure first [] o since le = refl
new-unsure first (x ∷ calls) o since le =
    let g = next-grows first (note_of first (notes first calls) x) (notes first calls) in
    let n = note_of first (notes first calls) x in
    ap (λ b. b || (n.timely && is_sure (notes first calls) (record { id = o; since = since }))) (confirms-none first calls x o since (omega (arith, ints)))
    ∙ ap (λ b. n.timely && b) (new-unsure first calls o since (omega (arith, ints))) ∙ and-false n.timely
