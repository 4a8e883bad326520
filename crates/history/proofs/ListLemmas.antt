-- Facts on lists, filters and tests.
use Rattle.std.proofs.Common.{◌≡◌, ℕ, suc, ◌+◌, ◌≤◌, ◌⊎◌, inl, inr, List, [], ◌∷◌, ◌++◌, length, refl, ap, sym, subst, ◌∙◌, arith, cond, Option, Some, Ordering}
use Rattle.std.specs.Prelude.{Bool, true, false, ◌&&◌, ◌||◌, nat_lt, not, filter, find, if◌then◌else◌, map, reverse}
use Rattle.std.specs.List.{list_any, list_all, AllByRecursion}
use Rattle.std.specs.Ordering.{is_lt, is_eq}
use Rattle.std.specs.declared.cmp.Ordering.TheVariants.{Less, Equal, Greater}
use Rattle.std.proofs.lemmas.List.{reverse-append}
use Rattle.std.proofs.lemmas.Bool.{or_cases, or_left, or_right, or_parts, and_parts, lt-ltb, le-ltb}
use Rattle.history.specs.Lists.{with_item, in_order, distinct, AllOnce}

-- ---- truth values

pub and_true : (b : Bool) → (b && true) ≡ b
and_true true = refl
and_true false = refl

pub and_false : (b : Bool) → (b && false) ≡ false
and_false true = refl
and_false false = refl

pub or_false : (b : Bool) → (b || false) ≡ b
or_false true = refl
or_false false = refl

pub or_true : (b : Bool) → (b || true) ≡ true
or_true true = refl
or_true false = refl

pub and_assoc : (a b c : Bool) → (a && (b && c)) ≡ ((a && b) && c)
and_assoc true b c = refl
and_assoc false b c = refl

-- Tests that hold together are equal.
pub same_test : (a b : Bool) → (a ≡ true → b ≡ true) → (b ≡ true → a ≡ true) → a ≡ b
same_test true b f g = sym (f refl)
same_test false true f g = g refl
same_test false false f g = refl

-- ---- every item

pub every-append : {X : Type 0} (P : X → Type 0) (xs ys : List X) → AllByRecursion P xs → AllByRecursion P ys → AllByRecursion P (xs ++ ys)
every-append P [] ys a b = b
every-append P (x ∷ xs) ys a b = (a.0, every-append P xs ys a.1 b)

pub every-weaker : {X : Type 0} (P Q : X → Type 0) → ((x : X) → P x → Q x) → (xs : List X) → AllByRecursion P xs → AllByRecursion Q xs
every-weaker P Q f [] h = tt
every-weaker P Q f (x ∷ xs) h = (f x h.0, every-weaker P Q f xs h.1)

pub every-always : {X : Type 0} (P : X → Type 0) → ((x : X) → P x) → (xs : List X) → AllByRecursion P xs
every-always P f [] = tt
every-always P f (x ∷ xs) = (f x, every-always P f xs)

pub every-two : {X : Type 0} (P Q R : X → Type 0) → ((x : X) → P x → Q x → R x) → (xs : List X) → AllByRecursion P xs → AllByRecursion Q xs → AllByRecursion R xs
every-two P Q R f [] p q = tt
every-two P Q R f (x ∷ xs) p q = (f x p.0 q.0, every-two P Q R f xs p.1 q.1)

pub every-filter : {X : Type 0} (P : X → Type 0) (test : X → Bool) (xs : List X) → AllByRecursion P xs → AllByRecursion P (filter test xs)
every-filter P test [] h = tt
every-filter P test (x ∷ xs) h = go (test x) (every-filter P test xs h.1)
  where
    go : (b : Bool) → AllByRecursion P (filter test xs) → AllByRecursion P (cond b (x ∷ filter test xs) (filter test xs))
    go true r = (h.0, r)
    go false r = r

pub every-if : {X : Type 0} (P : X → Type 0) (b : Bool) (xs : List X) → AllByRecursion P xs → AllByRecursion P (if b then xs else [])
every-if P true xs h = h
every-if P false xs h = tt

pub reverse-cons : {X : Type 0} (x : X) (xs : List X) → reverse (x ∷ xs) ≡ reverse xs ++ x ∷ []
reverse-cons x xs = reverse-append (x ∷ []) xs

pub every-reverse : {X : Type 0} (P : X → Type 0) (xs : List X) → AllByRecursion P xs → AllByRecursion P (reverse xs)
every-reverse P [] e = tt
every-reverse P (x ∷ xs) e = rw (reverse-cons x xs) (every-append P (reverse xs) (x ∷ []) (every-reverse P xs e.1) (e.0, tt))

-- ---- some item

abbrev pub Somewhere : {X : Type 0} → (X → Type 0) → List X → Type 0
Somewhere P [] = ⊥
Somewhere P (x ∷ xs) = P x ⊎ Somewhere P xs

pub Somewhere-test : {X : Type 0} (test : X → Bool) (xs : List X) → list_any test xs ≡ true → Somewhere (λ x. test x ≡ true) xs
Somewhere-test test [] h = absurd (cc)
Somewhere-test test (x ∷ xs) h = elim (or_cases (test x) (list_any test xs) h) [ inl here ↦ inl here | inr there ↦ inr (Somewhere-test test xs there) ]

-- An item that passes a test.
pub witness : {X : Type 0} (test : X → Bool) (xs : List X) → Somewhere (λ x. test x ≡ true) xs → (x : X) × (test x ≡ true)
witness test [] s = absurd s
witness test (x ∷ xs) s = elim s [ inl here ↦ (x, here) | inr there ↦ witness test xs there ]

pub test-Somewhere : {X : Type 0} (P : X → Type 0) (test : X → Bool) → ((x : X) → P x → test x ≡ true) → (xs : List X) → Somewhere P xs → list_any test xs ≡ true
test-Somewhere P test f [] h = absurd h
test-Somewhere P test f (x ∷ xs) h = elim h [
  | inl here ↦ or_left (test x) (list_any test xs) (f x here)
  | inr there ↦ or_right (test x) (list_any test xs) (test-Somewhere P test f xs there)
]

pub every-test : {X : Type 0} (test : X → Bool) (xs : List X) → list_all test xs ≡ true → AllByRecursion (λ x. test x ≡ true) xs
every-test test [] h = tt
every-test test (x ∷ xs) h = let two = and_parts (test x) (list_all test xs) h in (two.0, every-test test xs two.1)

pub test-AllByRecursion : {X : Type 0} (P : X → Type 0) (test : X → Bool) → ((x : X) → P x → test x ≡ true) → (xs : List X) → AllByRecursion P xs → list_all test xs ≡ true
test-AllByRecursion P test f [] h = refl
test-AllByRecursion P test f (x ∷ xs) h = rw (f x h.0, test-AllByRecursion P test f xs h.1) refl

-- An item of which one thing holds, in a list where another holds of each.
pub Somewhere-both : {X : Type 0} (P Q R : X → Type 0) → ((x : X) → P x → Q x → R x) → (xs : List X) → Somewhere P xs → AllByRecursion Q xs → Somewhere R xs
Somewhere-both P Q R f [] s e = absurd s
Somewhere-both P Q R f (x ∷ xs) s e = elim s [ inl here ↦ inl (f x here e.0) | inr there ↦ inr (Somewhere-both P Q R f xs there e.1) ]

-- ---- filters

pub filter-same : {X : Type 0} (p q : X → Bool) (xs : List X) → AllByRecursion (λ x. p x ≡ q x) xs → filter p xs ≡ filter q xs
filter-same p q [] h = refl
filter-same p q (x ∷ xs) h = rw (h.0, filter-same p q xs h.1) refl

filter-step : {X : Type 0} (b : Bool) (q : X → Bool) (x : X) (r s : List X) → r ≡ filter q s → cond (q x && b) (x ∷ r) r ≡ filter q (cond b (x ∷ s) s)
filter-step true q x r s e = elim (q x) as (λ v. cond (v && true) (x ∷ r) r ≡ cond v (x ∷ filter q s) (filter q s)) [ true ↦ ap (λ l. x ∷ l) e | false ↦ e ]
filter-step false q x r s e = elim (q x) as (λ v. cond (v && false) (x ∷ r) r ≡ filter q s) [ true ↦ e | false ↦ e ]

-- One filter after another.
pub filter-filter : {X : Type 0} (q p : X → Bool) (xs : List X) → filter q (filter p xs) ≡ filter (λ x. q x && p x) xs
filter-filter q p [] = refl
filter-filter q p (x ∷ xs) = sym (filter-step (p x) q x (filter (λ y. q y && p y) xs) (filter p xs) (sym (filter-filter q p xs)))

pub find-filter : {X : Type 0} (q p : X → Bool) (xs : List X) → find q (filter p xs) ≡ find (λ x. p x && q x) xs
find-filter q p [] = refl
find-filter q p (x ∷ xs) = step (p x) (find-filter q p xs)
  where
    step : (b : Bool) → find q (filter p xs) ≡ find (λ y. p y && q y) xs → find q (cond b (x ∷ filter p xs) (filter p xs)) ≡ cond (b && q x) (Some x) (find (λ y. p y && q y) xs)
    step true e = ap (λ (o : Option _). cond (q x) (Some x) o) e
    step false e = e

pub list_any-filter : {X : Type 0} (q p : X → Bool) (xs : List X) → list_any q (filter p xs) ≡ list_any (λ x. p x && q x) xs
list_any-filter q p [] = refl
list_any-filter q p (x ∷ xs) = step (p x) (list_any-filter q p xs)
  where
    step : (b : Bool) → list_any q (filter p xs) ≡ list_any (λ y. p y && q y) xs → list_any q (cond b (x ∷ filter p xs) (filter p xs)) ≡ ((b && q x) || list_any (λ y. p y && q y) xs)
    step true e = ap (λ v. q x || v) e
    step false e = e

pub list_all-filter : {X : Type 0} (q p : X → Bool) (xs : List X) → list_all q (filter p xs) ≡ list_all (λ x. not (p x) || q x) xs
list_all-filter q p [] = refl
list_all-filter q p (x ∷ xs) = step (p x) (list_all-filter q p xs)
  where
    step : (b : Bool) → list_all q (filter p xs) ≡ list_all (λ y. not (p y) || q y) xs → list_all q (cond b (x ∷ filter p xs) (filter p xs)) ≡ ((not b || q x) && list_all (λ y. not (p y) || q y) xs)
    step true e = ap (λ v. q x && v) e
    step false e = e

pub list_any-same : {X : Type 0} (p q : X → Bool) → ((x : X) → p x ≡ q x) → (xs : List X) → list_any p xs ≡ list_any q xs
list_any-same p q f [] = refl
list_any-same p q f (x ∷ xs) = rw (f x, list_any-same p q f xs) refl

pub list_all-same : {X : Type 0} (p q : X → Bool) → ((x : X) → p x ≡ q x) → (xs : List X) → list_all p xs ≡ list_all q xs
list_all-same p q f [] = refl
list_all-same p q f (x ∷ xs) = rw (f x, list_all-same p q f xs) refl

pub list_any-map : {X Y : Type 0} (p : Y → Bool) (f : X → Y) (xs : List X) → list_any p (map f xs) ≡ list_any (λ x. p (f x)) xs
list_any-map p f [] = refl
list_any-map p f (x ∷ xs) = ap (λ v. p (f x) || v) (list_any-map p f xs)

-- Some item passes exactly where the filter keeps one.
pub list_any-length : {X : Type 0} (p : X → Bool) (xs : List X) → list_any p xs ≡ nat_lt 0 (length (filter p xs))
list_any-length p [] = refl
list_any-length p (x ∷ xs) = step (p x) (list_any-length p xs)
  where
    step : (b : Bool) → list_any p xs ≡ nat_lt 0 (length (filter p xs)) → (b || list_any p xs) ≡ nat_lt 0 (length (cond b (x ∷ filter p xs) (filter p xs)))
    step true e = sym (lt-ltb 0 (suc (length (filter p xs))) (omega arith))
    step false e = e

-- ---- items in order, and each once

-- A test that tells no equal items apart.
abbrev pub Respects : {X : Type 0} → (X → X → Ordering) → (X → Bool) → Type 0
Respects {X} cmp p = (x y : X) → is_eq (cmp x y) ≡ true → p x ≡ p y

pub list_any-with_item : {X : Type 0} (cmp : X → X → Ordering) (p : X → Bool) → Respects cmp p → (x : X) (ys : List X) → list_any p (with_item cmp x ys) ≡ (p x || list_any p ys)
list_any-with_item cmp p r x [] = refl
list_any-with_item cmp p r x (y ∷ ys) = go (cmp x y) refl (list_any-with_item cmp p r x ys)
  where
    twice : (a b : Bool) → (a || b) ≡ (a || (a || b))
    twice true b = refl
    twice false b = refl

    swapped : (a b c : Bool) → (a || (b || c)) ≡ (b || (a || c))
    swapped true true c = refl
    swapped true false c = refl
    swapped false true c = refl
    swapped false false c = refl

    go : (o : Ordering) → cmp x y ≡ o → list_any p (with_item cmp x ys) ≡ (p x || list_any p ys) →
        list_any p (if is_lt o then x ∷ y ∷ ys else if is_eq o then y ∷ ys else y ∷ with_item cmp x ys) ≡ (p x || (p y || list_any p ys))
    go Less e ih = refl
    go Equal e ih = let same : p x ≡ p y = r x y (ap is_eq e) in rw same (twice (p y) (list_any p ys))
    go Greater e ih = rw ih (swapped (p y) (p x) (list_any p ys))

pub list_any-in_order : {X : Type 0} (cmp : X → X → Ordering) (p : X → Bool) → Respects cmp p → (xs : List X) → list_any p (in_order cmp xs) ≡ list_any p xs
list_any-in_order cmp p r [] = refl
list_any-in_order cmp p r (x ∷ xs) = list_any-with_item cmp p r x (in_order cmp xs) ∙ ap (λ v. p x || v) (list_any-in_order cmp p r xs)

pub list_any-distinct : {X : Type 0} (same : X → X → Bool) (p : X → Bool) → ((x y : X) → same x y ≡ true → p x ≡ p y) → (xs : List X) → list_any p (distinct same xs) ≡ list_any p xs
list_any-distinct same p r [] = refl
list_any-distinct same p r (x ∷ xs) = go (list_any (same x) xs) refl (list_any-distinct same p r xs)
  where
    told : (ys : List _) → list_any (same x) ys ≡ true → (p x || list_any p ys) ≡ list_any p ys
    told ys h = same_test (p x || list_any p ys) (list_any p ys)
        (λ e. elim (or_cases (p x) (list_any p ys) e) [
          | inl here ↦ test-Somewhere (λ y. same x y ≡ true) p (λ y s. sym (r x y s) ∙ here) ys (Somewhere-test (same x) ys h)
          | inr there ↦ there
        ])
        (λ e. or_right (p x) (list_any p ys) e)

    go : (b : Bool) → list_any (same x) xs ≡ b → list_any p (distinct same xs) ≡ list_any p xs →
        list_any p (if b then distinct same xs else x ∷ distinct same xs) ≡ (p x || list_any p xs)
    go true h ih = ih ∙ sym (told xs h)
    go false h ih = ap (λ v. p x || v) ih

-- No number is below 0.
pub no_time : (t : ℕ) → nat_lt t 0 ≡ false
no_time t = le-ltb t 0 (omega arith)

-- ---- lists with the same items

-- The test tells whether two items are equal.
pub record IsEquality {K : Type 0} (same : K → K → Bool) : Type 0 where
  pub self : (k : K) → same k k ≡ true
  pub equal : (j k : K) → same j k ≡ true → j ≡ k

pub same-turned : {X : Type 0} {same : X → X → Bool} → IsEquality same → (x y : X) → same x y ≡ same y x
same-turned {X} {same} d x y = same_test (same x y) (same y x) (λ e. flip x y e) (λ e. flip y x e)
  where
    flip : (a b : X) → same a b ≡ true → same b a ≡ true
    flip a b e = let P : X → Type 0 = λ z. same z a ≡ true in subst P (d.equal a b e) (d.self a)

-- An item of a filter is an item that passes.
pub any-filtered : {X : Type 0} {same : X → X → Bool} → IsEquality same → (q : X → Bool) (x : X) (xs : List X) → list_any (same x) (filter q xs) ≡ (list_any (same x) xs && q x)
any-filtered {X} {same} d q x xs =
    list_any-filter (same x) q xs ∙ list_any-same (λ y. q y && same x y) (λ y. same x y && q x) (λ y. one y (same x y) refl) xs ∙ out xs
  where
    one : (y : X) (b : Bool) → same x y ≡ b → (q y && b) ≡ (b && q x)
    one y true e = and_true (q y) ∙ ap q (sym (d.equal x y e))
    one y false e = and_false (q y)

    out : (ys : List X) → list_any (λ y. same x y && q x) ys ≡ (list_any (same x) ys && q x)
    out [] = refl
    out (y ∷ ys) = ap (λ v. (same x y && q x) || v) (out ys) ∙ go (same x y) (list_any (same x) ys) (q x)
      where
        go : (a b c : Bool) → ((a && c) || (b && c)) ≡ ((a || b) && c)
        go true true true = refl
        go true true false = refl
        go true false true = refl
        go true false false = refl
        go false b c = refl

-- Leaving out repeated items leaves the same items.
pub any-distinct : {X : Type 0} {same : X → X → Bool} → IsEquality same → (x : X) (xs : List X) → list_any (same x) (distinct same xs) ≡ list_any (same x) xs
any-distinct {X} {same} d x xs = list_any-distinct same (same x) (λ a b e. ap (same x) (d.equal a b e)) xs

pub AllOnce-distinct : {X : Type 0} (same : X → X → Bool) → IsEquality same → (xs : List X) → AllOnce same (distinct same xs)
AllOnce-distinct same e [] = tt
AllOnce-distinct {X} same e (x ∷ xs) = go (list_any (same x) xs) refl (AllOnce-distinct same e xs)
  where
    respects : (y z : X) → same y z ≡ true → same x y ≡ same x z
    respects y z h = ap (same x) (e.equal y z h)

    go : (b : Bool) → list_any (same x) xs ≡ b → AllOnce same (distinct same xs) → AllOnce same (if b then distinct same xs else x ∷ distinct same xs)
    go true p r = r
    go false p r = (list_any-distinct same (same x) respects xs ∙ p, r)

pub AllOnce-filter : {X : Type 0} (same : X → X → Bool) (test : X → Bool) (xs : List X) → AllOnce same xs → AllOnce same (filter test xs)
AllOnce-filter same test [] a = tt
AllOnce-filter {X} same test (x ∷ xs) a = go (test x) (AllOnce-filter same test xs a.1)
  where
    fewer : (ys : List X) → list_any (same x) ys ≡ false → list_any (same x) (filter test ys) ≡ false
    fewer [] h = refl
    fewer (y ∷ ys) h = let two = or_parts (same x y) (list_any (same x) ys) h in kept (test y) two.0 (fewer ys two.1)
      where
        kept : (b : Bool) → same x y ≡ false → list_any (same x) (filter test ys) ≡ false → list_any (same x) (cond b (y ∷ filter test ys) (filter test ys)) ≡ false
        kept true p q = rw (p, q) refl
        kept false p q = q

    go : (b : Bool) → AllOnce same (filter test xs) → AllOnce same (cond b (x ∷ filter test xs) (filter test xs))
    go true r = (fewer xs a.0, r)
    go false r = r

-- One more item that isn't there yet.
pub AllOnce-push : {X : Type 0} (same : X → X → Bool) → IsEquality same → (xs : List X) (m : X) → AllOnce same xs → list_any (same m) xs ≡ false → AllOnce same (xs ++ m ∷ [])
AllOnce-push same e [] m a h = (refl, tt)
AllOnce-push {X} same e (x ∷ xs) m a h =
    let two = or_parts (same m x) (list_any (same m) xs) h in
    (absent xs a.0 (turned (same x m) refl two.0), AllOnce-push same e xs m a.1 two.1)
  where
    turned : (b : Bool) → same x m ≡ b → same m x ≡ false → b ≡ false
    turned true p q = let P : X → Type 0 = λ z. same m z ≡ true in let here : same m x ≡ true = subst P (sym (e.equal x m p)) (e.self m) in absurd (cc)
    turned false p q = refl

    absent : (ys : List X) → list_any (same x) ys ≡ false → same x m ≡ false → list_any (same x) (ys ++ m ∷ []) ≡ false
    absent [] p q = rw q refl
    absent (y ∷ ys) p q = let two = or_parts (same x y) (list_any (same x) ys) p in rw (two.0) (absent ys two.1 q)

-- The list without the first item that passes.
without : {X : Type 0} → (X → Bool) → List X → List X
without test [] = []
without test (x ∷ xs) = if test x then xs else x ∷ without test xs

length-without : {X : Type 0} (test : X → Bool) (xs : List X) → list_any test xs ≡ true → length (without test xs) + 1 ≡ length xs
unfolding without
length-without test [] h = absurd (cc)
length-without test (x ∷ xs) h = go (test x) h (length-without test xs)
  where
    go : (b : Bool) → (b || list_any test xs) ≡ true → (list_any test xs ≡ true → length (without test xs) + 1 ≡ length xs) → length (if b then xs else x ∷ without test xs) + 1 ≡ suc (length xs)
    go true h f = omega arith
    go false h f = let r = f h in omega arith

-- An item that isn't equal to that one stays.
without-other : {X : Type 0} (same : X → X → Bool) → IsEquality same → (k x : X) → same k x ≡ false → (ys : List X) → list_any (same k) ys ≡ true → list_any (same k) (without (same x) ys) ≡ true
unfolding without
without-other same e k x apart [] h = h
without-other {X} same e k x apart (y ∷ ys) h = go (same x y) refl (same k y) refl h (without-other same e k x apart ys)
  where
    go : (b : Bool) → same x y ≡ b → (c : Bool) → same k y ≡ c → (c || list_any (same k) ys) ≡ true → (list_any (same k) ys ≡ true → list_any (same k) (without (same x) ys) ≡ true) →
        list_any (same k) (if b then ys else y ∷ without (same x) ys) ≡ true
    go true p true q h f =
        let there : x ≡ y = e.equal x y p in let here : k ≡ y = e.equal k y q in
        let P : X → Type 0 = λ z. same k z ≡ true in
        let same_here : same k k ≡ true = e.self k in
        let joined : k ≡ x = here ∙ sym there in
        let clash : same k x ≡ true = subst P joined same_here in absurd (cc)
    go true p false q h f = h
    go false p true q h f = rw q refl
    go false p false q h f = rw q (f h)

-- A list without repetition whose items all stand in another is no longer than it.
pub length-fewer : {X : Type 0} (same : X → X → Bool) → IsEquality same → (xs ys : List X) → AllOnce same xs →
    ((k : X) → list_any (same k) xs ≡ true → list_any (same k) ys ≡ true) → length xs ≤ length ys
length-fewer same e [] ys a f = omega arith
length-fewer {X} same e (x ∷ xs) ys a f =
    let here : list_any (same x) ys ≡ true = f x (or_left (same x x) (list_any (same x) xs) (e.self x)) in
    let shorter = length-without (same x) ys here in
    let rest = length-fewer same e xs (without (same x) ys) a.1 (λ k h. without-other same e k x (apart k h) ys (f k (or_right (same k x) (list_any (same k) xs) h))) in
    omega arith
  where
    apart : (k : X) → list_any (same k) xs ≡ true → same k x ≡ false
    apart k h = go (same k x) refl
      where
        go : (b : Bool) → same k x ≡ b → b ≡ false
        go true p = let P : X → Type 0 = λ z. list_any (same z) xs ≡ true in let there : list_any (same x) xs ≡ true = subst P (e.equal k x p) h in let away = a.0 in absurd (cc)
        go false p = refl

-- LISTS WITHOUT REPETITION with the same items are equally long.
pub length-members : {X : Type 0} (same : X → X → Bool) → IsEquality same → (xs ys : List X) → AllOnce same xs → AllOnce same ys →
    ((k : X) → list_any (same k) xs ≡ list_any (same k) ys) → length xs ≡ length ys
length-members same e xs ys a b f =
    let one = length-fewer same e xs ys a (λ k h. sym (f k) ∙ h) in let two = length-fewer same e ys xs b (λ k h. f k ∙ h) in omega arith

-- Lists with the same items pass each test alike.
pub list_any-members : {X : Type 0} (same : X → X → Bool) → IsEquality same → (p : X → Bool) (xs ys : List X) →
    ((k : X) → list_any (same k) xs ≡ list_any (same k) ys) → list_any p xs ≡ list_any p ys
list_any-members {X} same e p xs ys f = same_test (list_any p xs) (list_any p ys) (λ h. over xs ys (λ k g. sym (f k) ∙ g) h) (λ h. over ys xs (λ k g. f k ∙ g) h)
  where
    at : (us : List X) (k : X) → p k ≡ true → list_any (same k) us ≡ true → list_any p us ≡ true
    at us k q h = test-Somewhere (λ u. same k u ≡ true) p (λ u s. let P : X → Type 0 = λ z. p z ≡ true in subst P (e.equal k u s) q) us (Somewhere-test (same k) us h)

    found : (us vs : List X) → ((k : X) → list_any (same k) us ≡ true → list_any (same k) vs ≡ true) → Somewhere (λ u. p u ≡ true) us → list_any p vs ≡ true
    found [] vs g s = absurd s
    found (u ∷ us) vs g s = elim s [
      | inl q ↦ at vs u q (g u (or_left (same u u) (list_any (same u) us) (e.self u)))
      | inr r ↦ found us vs (λ k h. g k (or_right (same k u) (list_any (same k) us) h)) r
    ]

    over : (us vs : List X) → ((k : X) → list_any (same k) us ≡ true → list_any (same k) vs ≡ true) → list_any p us ≡ true → list_any p vs ≡ true
    over us vs g h = found us vs g (Somewhere-test p us h)
