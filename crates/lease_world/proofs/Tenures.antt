-- What the server keeps of a client's calls: its lease, its tenure, and what it holds.
use Rattle.std.proofs.Common.{◌≡◌, ℕ, ◌<◌, ◌≤◌, List, [], ◌∷◌, ◌++◌, refl, sym, ◌∙◌, arith, subst, ◌⊎◌, inl, inr, cond}
use Rattle.std.specs.Prelude.{ℤ, Bool, true, false, ◌&&◌, ◌||◌, filter, int_lt, nat_lt, if◌then◌else◌, ◌<ℤ◌, max}
use Rattle.std.specs.List.{list_any, list_all, AllByRecursion}
use Rattle.std.specs.Ordering.{int_eq}
use Rattle.std.proofs.lemmas.Int.{ints}
use Rattle.std.proofs.lemmas.Bool.{lt-ltb, ltb-true, or_cases, or_left, or_right, and_parts, and_from}
use Rattle.std.proofs.lemmas.Bool.Decides.{Decides-int_eq}
use Rattle.std.proofs.lemmas.List.Folds.{list_any-append}
use Rattle.object_ids.specs.Client.{Client}
use Rattle.object_ids.specs.declared.ids.ObjId.{ObjId}
use Rattle.history.specs.Leases.{is_dirty, is_strong, is_naming, grant_end, lease_end, has_time_left, tenure, strong_cleans, counting_calls, highest_is_dirty, holds, calls_of}
use Rattle.history.specs.declared.calls.Call.{Call}
use Rattle.history.proofs.GrantLaws.{never-falls, lasts-as-granted}
use Rattle.history.proofs.LeaseLaws.{highest_is_dirty-scan}
use Rattle.history.proofs.ListLemmas.{every-append, every-weaker, list_any-filter, test-AllByRecursion}
use Rattle.lease_world.proofs.Lists.{any-weaker, filter-every}
use Rattle.lease_world.proofs.TableCalls.{is_of, is_dirty_of, meets}

-- The tenure of a client, and its time.
abbrev pub tenure_of : ℕ → List Call → Client → List Call
tenure_of lease calls v = tenure lease (calls_of v calls)

abbrev pub time_left : ℕ → ℕ → List Call → Client → Bool
time_left lease t calls v = has_time_left lease t (calls_of v calls)

-- ---- time

pub time-less : (lease t u : ℕ) (own : List Call) → u ≤ t → has_time_left lease t own ≡ true → has_time_left lease u own ≡ true
time-less lease t u own le h = lt-ltb u (lease_end lease own) (let b = ltb-true t (lease_end lease own) h in omega arith)

own-more : (lease t : ℕ) (x : Call) (own : List Call) → has_time_left lease t own ≡ true → has_time_left lease t (x ∷ own) ≡ true
own-more lease t x own h = lt-ltb t (lease_end lease (x ∷ own)) (let a = never-falls lease x own in let b = ltb-true t (lease_end lease own) h in omega arith)

pub time-more : (lease t : ℕ) (x : Call) (calls : List Call) (v : Client) → time_left lease t calls v ≡ true → time_left lease t (x ∷ calls) v ≡ true
unfolding calls_of
time-more lease t x calls v h = go (is_of v x)
  where
    go : (b : Bool) → has_time_left lease t (cond b (x ∷ calls_of v calls) (calls_of v calls)) ≡ true
    go true = own-more lease t x (calls_of v calls) h
    go false = h

own-first : (lease t m : ℕ) (x : Call) (own : List Call) → t < m → is_dirty x ≡ true → m ≤ grant_end lease x → has_time_left lease t (x ∷ own) ≡ true
own-first lease t m x own lt d le = lt-ltb t (lease_end lease (x ∷ own)) (let long = lasts-as-granted lease x own d in omega arith)

time-first : (lease t m : ℕ) (x : Call) (calls : List Call) (v : Client) → t < m → is_dirty_of v x ≡ true → m ≤ grant_end lease x → time_left lease t (x ∷ calls) v ≡ true
unfolding calls_of
time-first lease t m x calls v lt d le = let kinds = and_parts (is_dirty x) (is_of v x) d in go kinds.0 (is_of v x) kinds.1
  where
    go : is_dirty x ≡ true → (b : Bool) → b ≡ true → has_time_left lease t (cond b (x ∷ calls_of v calls) (calls_of v calls)) ≡ true
    go d true i = own-first lease t m x (calls_of v calls) lt d le
    go d false i = absurd (cc)

-- A dirty whose lease runs to m or longer gives time up to m.
pub time-by : (lease t m : ℕ) (p : Call → Bool) (calls : List Call) (v : Client) → t < m →
    AllByRecursion (λ (x : Call). p x ≡ true → (is_dirty_of v x ≡ true) × (m ≤ grant_end lease x)) calls → list_any p calls ≡ true → time_left lease t calls v ≡ true
time-by lease t m p [] v lt e h = absurd (cc)
time-by lease t m p (x ∷ calls) v lt e h = elim (or_cases (p x) (list_any p calls) h) [
  | inl a ↦ let two = e.0 a in time-first lease t m x calls v lt two.0 two.1
  | inr b ↦ time-more lease t x calls v (time-by lease t m p calls v lt e.1 b)
]

-- ---- tenure

own-every : (lease : ℕ) (P : Call → Type 0) (own : List Call) → AllByRecursion P own → AllByRecursion P (tenure lease own)
unfolding tenure
own-every lease P [] e = tt
own-every lease P (x ∷ own) e = go (has_time_left lease x.moment own) (is_dirty x) (own-every lease P own e.1)
  where
    go : (t d : Bool) → AllByRecursion P (tenure lease own) → AllByRecursion P (if t then x ∷ tenure lease own else if d then x ∷ [] else tenure lease own)
    go true d r = (e.0, r)
    go false true r = (e.0, tt)
    go false false r = r

own-part : (lease : ℕ) (p : Call → Bool) (own : List Call) → list_any p (tenure lease own) ≡ true → list_any p own ≡ true
unfolding tenure
own-part lease p [] h = h
own-part lease p (x ∷ own) h = go (own-part lease p own) (has_time_left lease x.moment own) (is_dirty x) h
  where
    here : (a : Bool) → (p x || a) ≡ true → (a ≡ true → list_any p own ≡ true) → (p x || list_any p own) ≡ true
    here a h f = elim (or_cases (p x) a h) [ inl y ↦ or_left (p x) (list_any p own) y | inr y ↦ or_right (p x) (list_any p own) (f y) ]

    go : (list_any p (tenure lease own) ≡ true → list_any p own ≡ true) → (t d : Bool) →
        list_any p (if t then x ∷ tenure lease own else if d then x ∷ [] else tenure lease own) ≡ true → (p x || list_any p own) ≡ true
    go ih true d h = here (list_any p (tenure lease own)) h ih
    go ih false true h = here false h (λ f. absurd (cc))
    go ih false false h = or_right (p x) (list_any p own) (ih h)

pub tenure-part : (lease : ℕ) (p : Call → Bool) (calls : List Call) (v : Client) → list_any p (tenure_of lease calls v) ≡ true → list_any p calls ≡ true
unfolding calls_of
tenure-part lease p calls v h = any-weaker (λ x. is_of v x && p x) p (λ x a. (and_parts (is_of v x) (p x) a).1) calls
    (sym (list_any-filter p (is_of v) calls) ∙ own-part lease p (calls_of v calls) h)

own-keeps : (lease : ℕ) (p : Call → Bool) (x : Call) (own : List Call) → (is_dirty x ≡ true → has_time_left lease x.moment own ≡ true) →
    list_any p (tenure lease own) ≡ true → list_any p (tenure lease (x ∷ own)) ≡ true
unfolding tenure
own-keeps lease p x own f h = go (has_time_left lease x.moment own) (is_dirty x) f
  where
    go : (t d : Bool) → (d ≡ true → t ≡ true) → list_any p (if t then x ∷ tenure lease own else if d then x ∷ [] else tenure lease own) ≡ true
    go true d f = or_right (p x) (list_any p (tenure lease own)) h
    go false true f = let w : false ≡ true = f refl in absurd (cc)
    go false false f = h

pub tenure-keeps : (lease : ℕ) (p : Call → Bool) (x : Call) (calls : List Call) (v : Client) → (is_dirty_of v x ≡ true → time_left lease x.moment calls v ≡ true) →
    list_any p (tenure_of lease calls v) ≡ true → list_any p (tenure_of lease (x ∷ calls) v) ≡ true
unfolding calls_of
tenure-keeps lease p x calls v f h = go (is_of v x) refl
  where
    go : (b : Bool) → is_of v x ≡ b → list_any p (tenure lease (cond b (x ∷ calls_of v calls) (calls_of v calls))) ≡ true
    go true i = own-keeps lease p x (calls_of v calls) (λ d. f (and_from (is_dirty x) (is_of v x) d i)) h
    go false i = h

own-new : (lease : ℕ) (p : Call → Bool) (x : Call) (own : List Call) → is_dirty x ≡ true → p x ≡ true → list_any p (tenure lease (x ∷ own)) ≡ true
unfolding tenure
own-new lease p x own d h = go (has_time_left lease x.moment own) (is_dirty x) d
  where
    go : (t d : Bool) → d ≡ true → list_any p (if t then x ∷ tenure lease own else if d then x ∷ [] else tenure lease own) ≡ true
    go true d e = or_left (p x) (list_any p (tenure lease own)) h
    go false true e = or_left (p x) false h
    go false false e = absurd (cc)

pub tenure-new : (lease : ℕ) (p : Call → Bool) (x : Call) (calls : List Call) (v : Client) → is_dirty_of v x ≡ true → p x ≡ true → list_any p (tenure_of lease (x ∷ calls) v) ≡ true
unfolding calls_of
tenure-new lease p x calls v i h = let two = and_parts (is_dirty x) (is_of v x) i in go two.0 (is_of v x) two.1
  where
    go : is_dirty x ≡ true → (b : Bool) → b ≡ true → list_any p (tenure lease (cond b (x ∷ calls_of v calls) (calls_of v calls))) ≡ true
    go d true i = own-new lease p x (calls_of v calls) d h
    go d false i = absurd (cc)

-- What is in the tenure after one more call was in it before, with time left then, or is that call.
own-back : (lease t u : ℕ) (p : Call → Bool) (x : Call) (own : List Call) → u ≤ t → u ≤ x.moment →
    list_any p (tenure lease (x ∷ own)) ≡ true → has_time_left lease t (x ∷ own) ≡ true →
    ((list_any p (tenure lease own) ≡ true) × (has_time_left lease u own ≡ true)) ⊎ (p x ≡ true)
unfolding tenure lease_end
own-back lease t u p x own le le2 h l = go (has_time_left lease x.moment own) refl (is_dirty x) h l
  where
    go : (s : Bool) → has_time_left lease x.moment own ≡ s → (d : Bool) →
        list_any p (if s then x ∷ tenure lease own else if d then x ∷ [] else tenure lease own) ≡ true →
        nat_lt t (if d then max (grant_end lease x) (lease_end lease own) else lease_end lease own) ≡ true →
        ((list_any p (tenure lease own) ≡ true) × (has_time_left lease u own ≡ true)) ⊎ (p x ≡ true)
    go true e d h l = elim (or_cases (p x) (list_any p (tenure lease own)) h) [ inl y ↦ inr y | inr y ↦ inl (y, time-less lease x.moment u own le2 e) ]
    go false e true h l = elim (or_cases (p x) false h) [ inl y ↦ inr y | inr y ↦ absurd (cc) ]
    go false e false h l = inl (h, time-less lease t u own le l)

pub tenure-back : (lease t u : ℕ) (p : Call → Bool) (x : Call) (calls : List Call) (v : Client) → u ≤ t → u ≤ x.moment →
    list_any p (tenure_of lease (x ∷ calls) v) ≡ true → time_left lease t (x ∷ calls) v ≡ true →
    ((list_any p (tenure_of lease calls v) ≡ true) × (time_left lease u calls v ≡ true)) ⊎ (p x ≡ true)
unfolding calls_of
tenure-back lease t u p x calls v le le2 h l = go (is_of v x) h l
  where
    go : (b : Bool) → list_any p (tenure lease (cond b (x ∷ calls_of v calls) (calls_of v calls))) ≡ true → has_time_left lease t (cond b (x ∷ calls_of v calls) (calls_of v calls)) ≡ true →
        ((list_any p (tenure_of lease calls v) ≡ true) × (time_left lease u calls v ≡ true)) ⊎ (p x ≡ true)
    go true h l = own-back lease t u p x (calls_of v calls) le le2 h l
    go false h l = inl (h, time-less lease t u (calls_of v calls) le l)

-- ---- holding

-- A clean of the client that names the object has a smaller number.
abbrev pub CleanBelow : Client → ObjId → ℤ → Call → Type 0
CleanBelow v o n x = is_of v x ≡ true → is_naming o x ≡ true → is_dirty x ≡ false → x.number <ℤ n

abbrev below : ℤ → Call → Bool
below n x = is_dirty x || int_lt x.number n

below-is : (n : ℤ) (x : Call) → (is_dirty x ≡ false → x.number <ℤ n) → below n x ≡ true
below-is n x f = go (is_dirty x) f
  where
    go : (d : Bool) → (d ≡ false → x.number <ℤ n) → (d || int_lt x.number n) ≡ true
    go true f = refl
    go false f = let less : x.number <ℤ n = f refl in grind (arith, ints)

all-below : (lease : ℕ) (calls : List Call) (v : Client) (o : ObjId) (n : ℤ) → AllByRecursion (CleanBelow v o n) calls → list_all (below n) (counting_calls lease (calls_of v calls) o) ≡ true
unfolding counting_calls calls_of
all-below lease calls v o n e =
    let P : Call → Type 0 = λ x. is_naming o x ≡ true → below n x ≡ true in
    let own : AllByRecursion P (calls_of v calls) = filter-every (is_of v) P calls
    (every-weaker (CleanBelow v o n) (λ x. is_of v x ≡ true → P x) (λ x f i m. below-is n x (f i m)) calls e) in
    test-AllByRecursion (λ x. below n x ≡ true) (below n) (λ x h. h) (filter (is_naming o) (tenure lease (calls_of v calls) ++ strong_cleans (calls_of v calls)))
    (filter-every (is_naming o) (λ x. below n x ≡ true) (tenure lease (calls_of v calls) ++ strong_cleans (calls_of v calls))
    (every-append P (tenure lease (calls_of v calls)) (strong_cleans (calls_of v calls)) (own-every lease P (calls_of v calls) own)
    (filter-every is_strong P (calls_of v calls) (every-weaker P (λ x. is_strong x ≡ true → P x) (λ x f i. f) (calls_of v calls) own))))

pub three_parts : (a b c : Bool) → (a && b && c) ≡ true → (a ≡ true) × (b ≡ true) × (c ≡ true)
three_parts true true true h = (refl, refl, refl)
three_parts true true false h = absurd (cc)
three_parts true false c h = absurd (cc)
three_parts false b c h = absurd (cc)

-- A dirty of the tenure above all cleans of the object.
pub holds-when : (lease t : ℕ) (calls : List Call) (v : Client) (o : ObjId) (n : ℤ) → list_any (meets v o n) (tenure_of lease calls v) ≡ true → AllByRecursion (CleanBelow v o n) calls →
    time_left lease t calls v ≡ true → holds lease t (calls_of v calls) o ≡ true
unfolding holds counting_calls
holds-when lease t calls v o n m e l = and_from (time_left lease t calls v) (highest_is_dirty (counting_calls lease (calls_of v calls) o)) l
    (highest_is_dirty-scan (counting_calls lease (calls_of v calls) o)
    ∙ any-weaker (λ d. is_dirty d && int_eq d.number n) (λ d. is_dirty d && list_all (below d.number) (counting_calls lease (calls_of v calls) o))
    (λ d a. let two = and_parts (is_dirty d) (int_eq d.number n) a in
    let P : ℤ → Type 0 = λ z. list_all (below z) (counting_calls lease (calls_of v calls) o) ≡ true in
    and_from (is_dirty d) (list_all (below d.number) (counting_calls lease (calls_of v calls) o)) two.0
    (subst P (sym ((Decides-int_eq d.number n).0 two.1)) (all-below lease calls v o n e)))
    (counting_calls lease (calls_of v calls) o) among)
  where
    named : list_any (λ x. is_naming o x && (is_dirty x && int_eq x.number n)) (tenure_of lease calls v) ≡ true
    named = any-weaker (meets v o n) (λ x. is_naming o x && (is_dirty x && int_eq x.number n))
        (λ x a. let three = three_parts (is_dirty_of v x) (int_eq x.number n) (is_naming o x) a in
        and_from (is_naming o x) (is_dirty x && int_eq x.number n) three.2 (and_from (is_dirty x) (int_eq x.number n) (and_parts (is_dirty x) (is_of v x) three.0).0 three.1)) (tenure_of lease calls v) m

    among : list_any (λ d. is_dirty d && int_eq d.number n) (filter (is_naming o) (tenure_of lease calls v ++ strong_cleans (calls_of v calls))) ≡ true
    among = list_any-filter (λ d. is_dirty d && int_eq d.number n) (is_naming o) (tenure_of lease calls v ++ strong_cleans (calls_of v calls))
        ∙ list_any-append (λ x. is_naming o x && (is_dirty x && int_eq x.number n)) (tenure_of lease calls v) (strong_cleans (calls_of v calls))
        ∙ or_left (list_any (λ x. is_naming o x && (is_dirty x && int_eq x.number n)) (tenure_of lease calls v)) (list_any (λ x. is_naming o x && (is_dirty x && int_eq x.number n)) (strong_cleans (calls_of v calls))) named
