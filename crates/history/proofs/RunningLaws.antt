-- Laws of running calls: what one more event does, and that all connections' calls are counted by one difference.
use Rattle.std.proofs.Common.{true≢false, ◌≡◌, ℕ, ◌+◌, ◌-◌, ◌<◌, ◌≤◌, inl, inr, List, [], ◌∷◌, length, refl, ap, sym, subst, ◌∙◌, arith}
use Rattle.std.specs.Prelude.{Bool, true, false, ◌&&◌, ◌==◌, ◌↔◌, filter, sum_by, map, nat_lt, reverse, pos, if◌then◌else◌}
use Rattle.std.specs.List.{list_any}
use Rattle.std.proofs.lemmas.Bool.{ltb-true, lt-ltb, and_parts, and_from, or_cases, or_left, or_right, or_parts}
use Rattle.std.proofs.lemmas.Bool.Decides.{Decides-eqb}
use Rattle.object_ids.specs.declared.ids.ObjId.{ObjId}
use Rattle.object_ids.specs.Same.{same_id}
use Rattle.object_ids.proofs.Exact.{same_id-equal, same_id-self}
use Rattle.history.specs.Lists.{distinct}
use Rattle.history.specs.declared.asks.SpaceConfig.{SpaceConfig}
use Rattle.history.specs.declared.asks.Event.{Event}
use Rattle.history.specs.declared.asks.Ask.{Ask}
use Rattle.history.specs.declared.asks.Ask.TheVariants.{Begin, Finish, Abandon}
use Rattle.history.specs.declared.places.Place.{Place}
pub use Rattle.history.specs.Running.{begins_any, ends_any}
use Rattle.history.specs.Running.{is_begin_of, is_end_of, begins_call, ends_call, running_calls_by, is_running, running_calls}
use Rattle.history.specs.Laws.{connections, RunningIsCounted, RunningIsSummed, SomeConnectionRuns, RunningIsSome}
use Rattle.history.specs.Limits.{is_begin, is_end, starts, ends, reserved_units}
use Rattle.history.specs.Table.{is_effective, place_of, places_back, places}
use Rattle.history.specs.Places.{History}
use Rattle.history.proofs.ListLemmas.{every-always, IsEquality, filter-same, list_any-distinct}
use Rattle.history.proofs.Partitions.{one_if, length-filter-cons, sum_by-plus, sum_by-minus, sum_by-same, sum_by-parts, list_any-sum_by}

-- ---- a call ends only where it runs

end_runs : (config : SpaceConfig) (h : History) (e : Event) (by : ℕ) (o : ObjId) → ends_call by o (place_of config h e) ≡ true → 0 < running_calls_by h by o
unfolding place_of is_effective
end_runs config h e by o t = go e.ask t
  where
    here : (x : ObjId) → (nat_lt 0 (running_calls_by h e.by x) && e.by == by && same_id x o) ≡ true → 0 < running_calls_by h by o
    here x t =
        let two = and_parts (nat_lt 0 (running_calls_by h e.by x) && e.by == by) (same_id x o) t in
        let one = and_parts (nat_lt 0 (running_calls_by h e.by x)) (e.by == by) two.0 in
        let runs : 0 < running_calls_by h e.by x = ltb-true 0 (running_calls_by h e.by x) one.0 in
        let who : e.by ≡ by = (Decides-eqb e.by by).0 one.1 in
        let what : x ≡ o = same_id-equal x o two.1 in
        let P : ℕ → Type 0 = λ n. 0 < running_calls_by h n x in
        let Q : ObjId → Type 0 = λ y. 0 < running_calls_by h by y in
        subst Q what (subst P who runs)

    never : (b : Bool) → (b && false) ≡ true → 0 < running_calls_by h by o
    never true t = absurd (cc)
    never false t = absurd (cc)

    go : (a : Ask) → ends_call by o (place_of config h (record e { ask = a })) ≡ true → 0 < running_calls_by h by o
    go (Finish x made listed uid) t = here x t
    go (Abandon x) t = here x t
    go _ t = never _ t

-- No ask begins and ends a call.
not_both : (o : ObjId) (a : Ask) → is_begin_of o a ≡ true → is_end_of o a ≡ true → ⊥
not_both o (Begin x) b c = true≢false (sym c)
not_both o (Finish x made listed uid) b c = true≢false (sym b)
not_both o (Abandon x) b c = true≢false (sym b)
not_both o _ b c = true≢false (sym b)

-- A count after a place that begins or ends a call.
abbrev counted : Bool → Bool → ℕ → ℕ
counted begins ends n = if begins then n + 1 else if ends then n - 1 else n

count-step : (n : ℕ) (b e : Bool) → (b ≡ true → e ≡ true → ⊥) → (e ≡ true → 0 < n) → counted b e n + one_if e ≡ n + one_if b
unfolding one_if
count-step n true true f g = absurd (f refl refl)
count-step n true false f g = omega arith
count-step n false true f g = let l = g refl in omega arith
count-step n false false f g = omega arith

-- ---- the calls of one connection

-- ONE MORE EVENT: a call that begins adds one, a call that ends takes one away.
running_place : (config : SpaceConfig) (h : History) (e : Event) (by : ℕ) (o : ObjId) →
    running_calls_by (place_of config h e ∷ h) by o + one_if (ends_call by o (place_of config h e)) ≡ running_calls_by h by o + one_if (begins_call by o (place_of config h e))
unfolding running_calls_by
running_place config h e by o =
    let p = place_of config h e in
    count-step (running_calls_by h by o) (begins_call by o p) (ends_call by o p)
    (λ b c. not_both o p.event.ask (and_parts (p.effective && p.event.by == by) (is_begin_of o p.event.ask) b).1 (and_parts (p.effective && p.event.by == by) (is_end_of o p.event.ask) c).1)
    (end_runs config h e by o)

pub running_calls_by-push : (config : SpaceConfig) (h : List Event) (e : Event) (by : ℕ) (o : ObjId) →
    running_calls_by (place_of config (places config h) e ∷ places config h) by o + one_if (ends_call by o (place_of config (places config h) e))
    ≡ running_calls_by (places config h) by o + one_if (begins_call by o (place_of config (places config h) e))
running_calls_by-push config h e by o = running_place config (places config h) e by o

running_none : (by : ℕ) (o : ObjId) → running_calls_by [] by o ≡ 0
unfolding running_calls_by
running_none by o = refl

-- A connection's calls are its begins less its ends.
running_back : (config : SpaceConfig) (es : List Event) (by : ℕ) (o : ObjId) →
    running_calls_by (places_back config es) by o + length (filter (ends_call by o) (places_back config es)) ≡ length (filter (begins_call by o) (places_back config es))
unfolding places_back
running_back config [] by o = let none = running_none by o in omega arith
running_back config (e ∷ es) by o =
    let h = places_back config es in
    let before = running_back config es by o in
    let here = running_place config h e by o in
    let a = length-filter-cons (ends_call by o) (place_of config h e) h in
    let b = length-filter-cons (begins_call by o) (place_of config h e) h in omega arith

pub running_calls_by-counted : (config : SpaceConfig) (events : List Event) → RunningIsCounted config events
unfolding places
running_calls_by-counted config events by o = running_back config (reverse events) by o

-- Never more ends than begins.
pub balanced : (config : SpaceConfig) (es : List Event) (by : ℕ) (o : ObjId) →
    length (filter (ends_call by o) (places_back config es)) ≤ length (filter (begins_call by o) (places_back config es))
balanced config es by o = let all = running_back config es by o in omega arith

-- ---- all connections

eqb-equality : IsEquality (λ a b. a == b)
eqb-equality = record { self = λ k. (Decides-eqb k k).1 refl; equal = λ j k h. (Decides-eqb j k).0 h }

turned : (a b c : Bool) → (a && b && c) ≡ (b && (a && c))
turned true true c = refl
turned true false c = refl
turned false true c = refl
turned false false c = refl

begun_by : (h : History) (o : ObjId) → sum_by (λ by. length (filter (begins_call by o) h)) (connections h) ≡ length (filter (begins_any o) h)
begun_by h o =
    sum_by-same (λ by. length (filter (begins_call by o) h)) (λ by. length (filter (λ p. p.event.by == by && begins_any o p) h))
    (λ by. ap length (filter-same (begins_call by o) (λ p. p.event.by == by && begins_any o p) h (every-always (λ p. begins_call by o p ≡ (p.event.by == by && begins_any o p)) (λ p. turned p.effective (p.event.by == by) (is_begin_of o p.event.ask)) h))) (connections h)
    ∙ sum_by-parts (λ a b. a == b) eqb-equality (λ p. p.event.by) (begins_any o) h

ended_by : (h : History) (o : ObjId) → sum_by (λ by. length (filter (ends_call by o) h)) (connections h) ≡ length (filter (ends_any o) h)
ended_by h o =
    sum_by-same (λ by. length (filter (ends_call by o) h)) (λ by. length (filter (λ p. p.event.by == by && ends_any o p) h))
    (λ by. ap length (filter-same (ends_call by o) (λ p. p.event.by == by && ends_any o p) h (every-always (λ p. ends_call by o p ≡ (p.event.by == by && ends_any o p)) (λ p. turned p.effective (p.event.by == by) (is_end_of o p.event.ask)) h))) (connections h)
    ∙ sum_by-parts (λ a b. a == b) eqb-equality (λ p. p.event.by) (ends_any o) h

-- The calls of each are the begins of all less the ends of all.
each_running : (config : SpaceConfig) (es : List Event) (o : ObjId) →
    sum_by (λ by. running_calls_by (places_back config es) by o) (connections (places_back config es)) + length (filter (ends_any o) (places_back config es))
    ≡ length (filter (begins_any o) (places_back config es))
each_running config es o =
    let h = places_back config es in
    let differ = sum_by-plus (λ by. running_calls_by h by o) (λ by. length (filter (ends_call by o) h)) (connections h) in
    let begins = sum_by-same (λ by. running_calls_by h by o + length (filter (ends_call by o) h)) (λ by. length (filter (begins_call by o) h)) (λ by. running_back config es by o) (connections h) in
    let one = begun_by h o in let other = ended_by h o in omega arith

-- A call ends only where one runs.
end_any_runs : (config : SpaceConfig) (es : List Event) (e : Event) (o : ObjId) → ends_any o (place_of config (places_back config es) e) ≡ true →
    length (filter (ends_any o) (places_back config es)) < length (filter (begins_any o) (places_back config es))
unfolding one_if places_back
end_any_runs config es e o t =
    let h = places_back config es in
    let p = place_of config h e in
    let all : length (filter (ends_any o) (p ∷ h)) ≤ length (filter (begins_any o) (p ∷ h)) = never_more in
    let a = length-filter-cons (ends_any o) p h in
    let b = length-filter-cons (begins_any o) p h in
    let one : one_if (ends_any o p) ≡ 1 = ap one_if t in
    let none : one_if (begins_any o p) ≡ 0 = ap one_if (begins_none (begins_any o p) refl) in omega arith
  where
    never_more : length (filter (ends_any o) (places_back config (e ∷ es))) ≤ length (filter (begins_any o) (places_back config (e ∷ es)))
    never_more = let each = each_running config (e ∷ es) o in omega arith

    begins_none : (b : Bool) → begins_any o (place_of config (places_back config es) e) ≡ b → b ≡ false
    begins_none false h = refl
    begins_none true h =
        let p = place_of config (places_back config es) e in
        absurd (not_both o p.event.ask (and_parts p.effective (is_begin_of o p.event.ask) h).1 (and_parts p.effective (is_end_of o p.event.ask) t).1)

running_calls_place : (config : SpaceConfig) (es : List Event) (e : Event) (o : ObjId) →
    running_calls (places_back config es) o + length (filter (ends_any o) (places_back config es)) ≡ length (filter (begins_any o) (places_back config es)) →
    running_calls (place_of config (places_back config es) e ∷ places_back config es) o + one_if (ends_any o (place_of config (places_back config es) e))
    ≡ running_calls (places_back config es) o + one_if (begins_any o (place_of config (places_back config es) e))
unfolding running_calls
running_calls_place config es e o before =
    let h = places_back config es in
    let p = place_of config h e in
    count-step (running_calls h o) (begins_any o p) (ends_any o p)
    (λ b c. not_both o p.event.ask (and_parts p.effective (is_begin_of o p.event.ask) b).1 (and_parts p.effective (is_end_of o p.event.ask) c).1)
    (λ t. let less = end_any_runs config es e o t in omega (arith, less, before))

running_calls_none : (o : ObjId) → running_calls [] o ≡ 0
unfolding running_calls
running_calls_none o = refl

-- All connections' calls are the begins of all less the ends of all.
running_calls_back : (config : SpaceConfig) (es : List Event) (o : ObjId) →
    running_calls (places_back config es) o + length (filter (ends_any o) (places_back config es)) ≡ length (filter (begins_any o) (places_back config es))
unfolding places_back
running_calls_back config [] o = let none = running_calls_none o in omega arith
running_calls_back config (e ∷ es) o =
    let h = places_back config es in
    let before = running_calls_back config es o in
    let here = running_calls_place config es e o before in
    let a = length-filter-cons (ends_any o) (place_of config h e) h in
    let b = length-filter-cons (begins_any o) (place_of config h e) h in omega arith

pub running_calls-difference : (config : SpaceConfig) (h : List Event) (o : ObjId) →
    running_calls (places config h) o + length (filter (ends_any o) (places config h)) ≡ length (filter (begins_any o) (places config h))
unfolding places
running_calls-difference config h o = running_calls_back config (reverse h) o

pub running_calls-push : (config : SpaceConfig) (h : List Event) (e : Event) (o : ObjId) →
    running_calls (place_of config (places config h) e ∷ places config h) o + one_if (ends_any o (place_of config (places config h) e))
    ≡ running_calls (places config h) o + one_if (begins_any o (place_of config (places config h) e))
unfolding places
running_calls-push config h e o = running_calls_place config (reverse h) e o (running_calls_back config (reverse h) o)

-- Some connection runs a call exactly where their number is not 0.
pub is_running-calls : (h : History) (o : ObjId) → is_running h o ≡ nat_lt 0 (running_calls h o)
unfolding is_running
is_running-calls h o = refl

-- A connection that never asked runs none.
never_asked : (h : History) (by : ℕ) (o : ObjId) → list_any (λ c. by == c) (map (λ (p : Place). p.event.by) h) ≡ false → running_calls_by h by o ≡ 0
unfolding running_calls_by
never_asked [] by o a = refl
never_asked (p ∷ h) by o a =
    let two = or_parts (by == p.event.by) (list_any (λ c. by == c) (map (λ (q : Place). q.event.by) h)) a in
    go (p.event.by == by) (apart (p.event.by == by) refl two.0) (never_asked h by o two.1)
  where
    apart : (b : Bool) → (p.event.by == by) ≡ b → (by == p.event.by) ≡ false → b ≡ false
    apart false q n = refl
    apart true q n = let same : p.event.by ≡ by = (Decides-eqb p.event.by by).0 q in absurd (true≢false (sym ((Decides-eqb by p.event.by).1 (sym same)) ∙ n))

    none : (x y : Bool) → (x && false && y) ≡ false
    none true y = refl
    none false y = refl

    go : (b : Bool) → b ≡ false → running_calls_by h by o ≡ 0 →
        counted (p.effective && b && is_begin_of o p.event.ask) (p.effective && b && is_end_of o p.event.ask) (running_calls_by h by o) ≡ 0
    go true q r = absurd (true≢false q)
    go false q r = rw (none p.effective (is_begin_of o p.event.ask), none p.effective (is_end_of o p.event.ask)) r

some_runs : (xs : List ℕ) (f : ℕ → ℕ) → list_any (λ c. nat_lt 0 (f c)) xs ≡ true → (c : ℕ) × 0 < f c
some_runs [] f h = absurd (true≢false (sym h))
some_runs (c ∷ xs) f h = elim (or_cases (nat_lt 0 (f c)) (list_any (λ x. nat_lt 0 (f x)) xs) h) [
  | inl here ↦ (c, ltb-true 0 (f c) here)
  | inr there ↦ some_runs xs f there
]

runs_some : (xs : List ℕ) (f : ℕ → ℕ) (by : ℕ) → list_any (λ c. by == c) xs ≡ true → 0 < f by → list_any (λ c. nat_lt 0 (f c)) xs ≡ true
runs_some [] f by h r = absurd (true≢false (sym h))
runs_some (c ∷ xs) f by h r = elim (or_cases (by == c) (list_any (λ x. by == x) xs) h) [
  | inl here ↦ or_left (nat_lt 0 (f c)) (list_any (λ x. nat_lt 0 (f x)) xs) (let P : ℕ → Type 0 = λ n. nat_lt 0 (f n) ≡ true in subst P ((Decides-eqb by c).0 here) (lt-ltb 0 (f by) r))
  | inr there ↦ or_right (nat_lt 0 (f c)) (list_any (λ x. nat_lt 0 (f x)) xs) (runs_some xs f by there r)
]

-- The calls of all connections are the sum of the calls of each.
calls-sum : (config : SpaceConfig) (es : List Event) (o : ObjId) →
    running_calls (places_back config es) o ≡ sum_by (λ by. running_calls_by (places_back config es) by o) (connections (places_back config es))
calls-sum config es o = let one = running_calls_back config es o in let other = each_running config es o in omega arith

connections-any : (h : History) (o : ObjId) → list_any (λ by. nat_lt 0 (running_calls_by h by o)) (connections h) ≡ list_any (λ by. nat_lt 0 (running_calls_by h by o)) (map (λ (p : Place). p.event.by) h)
connections-any h o =
    list_any-distinct (λ a b. a == b) (λ by. nat_lt 0 (running_calls_by h by o)) (λ x y e. ap (λ n. nat_lt 0 (running_calls_by h n o)) ((Decides-eqb x y).0 e)) (map (λ (p : Place). p.event.by) h)

-- SOME CONNECTION runs a call exactly where the count is not 0.
running_some : (config : SpaceConfig) (es : List Event) (o : ObjId) → (is_running (places_back config es) o ≡ true) ↔ SomeConnectionRuns (places_back config es) o
running_some config es o = (λ r. some_runs (map (λ (p : Place). p.event.by) h) (λ c. running_calls_by h c o) (sym any ∙ r), λ s. any ∙ runs_some (map (λ (p : Place). p.event.by) h) (λ c. running_calls_by h c o) s.0 (asked s.0 s.1 (list_any (λ c. s.0 == c) (map (λ (p : Place). p.event.by) h)) refl) s.1)
  where
    h : History
    h = places_back config es

    any : is_running h o ≡ list_any (λ by. nat_lt 0 (running_calls_by h by o)) (map (λ (p : Place). p.event.by) h)
    any = is_running-calls h o ∙ ap (nat_lt 0) (calls-sum config es o) ∙ sym (list_any-sum_by (λ by. running_calls_by h by o) (connections h)) ∙ connections-any h o

    asked : (by : ℕ) → 0 < running_calls_by h by o → (b : Bool) → list_any (λ c. by == c) (map (λ (p : Place). p.event.by) h) ≡ b → b ≡ true
    asked by r true a = refl
    asked by r false a = absurd (let none = never_asked h by o a in omega arith)

pub running-summed : (config : SpaceConfig) (events : List Event) → RunningIsSummed config events
unfolding places
running-summed config events o = calls-sum config (reverse events) o

pub running-some : (config : SpaceConfig) (events : List Event) → RunningIsSome config events
unfolding places
running-some config events o = running_some config (reverse events) o

-- ---- reserved units

-- A connection and an object.
record Line : Type 0 where
  by : ℕ
  object : ObjId

same_line : Line → Line → Bool
same_line a b = a.by == b.by && same_id a.object b.object

line-equality : IsEquality same_line
unfolding same_line
line-equality = record {
  self = λ k. and_from (k.by == k.by) (same_id k.object k.object) ((Decides-eqb k.by k.by).1 refl) (same_id-self k.object);
  equal = λ j k h. same_both j k (and_parts (j.by == k.by) (same_id j.object k.object) h);
}
  where
    same_both : (j k : Line) → ((j.by == k.by) ≡ true) × (same_id j.object k.object ≡ true) → j ≡ k
    same_both j k (a, b) = ap (λ n. record j { by = n }) ((Decides-eqb j.by k.by).0 a) ∙ ap (λ o. record { by = k.by; object = o }) (same_id-equal j.object k.object b)

object_called : Ask → ObjId
object_called (Begin x) = x
object_called (Finish x made listed uid) = x
object_called (Abandon x) = x
object_called _ = record { number = pos 0; space = record { unique = pos 0; time = pos 0; count = pos 0 } }

line_of : Place → Line
line_of p = record { by = p.event.by; object = object_called p.event.ask }

start_line : (k : Line) (p : Place) → begins_call k.by k.object p ≡ (same_line (line_of p) k && starts p)
unfolding same_line line_of object_called
start_line k p = go p.effective p.event.ask
  where
    none : (e b c d : Bool) → (e && b && false) ≡ ((c && d) && (e && false))
    none true true true true = refl
    none true true true false = refl
    none true true false d = refl
    none true false true true = refl
    none true false true false = refl
    none true false false d = refl
    none false b true true = refl
    none false b true false = refl
    none false b false d = refl

    some : (e b c : Bool) → (e && b && c) ≡ ((b && c) && (e && true))
    some true true true = refl
    some true true false = refl
    some true false c = refl
    some false true true = refl
    some false true false = refl
    some false false c = refl

    go : (e : Bool) (a : Ask) → (e && p.event.by == k.by && is_begin_of k.object a) ≡ ((p.event.by == k.by && same_id (object_called a) k.object) && (e && is_begin a))
    go e (Begin x) = some e (p.event.by == k.by) (same_id x k.object)
    go e (Finish x made listed uid) = none e (p.event.by == k.by) (p.event.by == k.by) (same_id x k.object)
    go e (Abandon x) = none e (p.event.by == k.by) (p.event.by == k.by) (same_id x k.object)
    go e a = none e (p.event.by == k.by) (p.event.by == k.by) (same_id (object_called a) k.object)

end_line : (k : Line) (p : Place) → ends_call k.by k.object p ≡ (same_line (line_of p) k && ends p)
unfolding same_line line_of object_called
end_line k p = go p.effective p.event.ask
  where
    none : (e b c d : Bool) → (e && b && false) ≡ ((c && d) && (e && false))
    none true true true true = refl
    none true true true false = refl
    none true true false d = refl
    none true false true true = refl
    none true false true false = refl
    none true false false d = refl
    none false b true true = refl
    none false b true false = refl
    none false b false d = refl

    some : (e b c : Bool) → (e && b && c) ≡ ((b && c) && (e && true))
    some true true true = refl
    some true true false = refl
    some true false c = refl
    some false true true = refl
    some false true false = refl
    some false false c = refl

    go : (e : Bool) (a : Ask) → (e && p.event.by == k.by && is_end_of k.object a) ≡ ((p.event.by == k.by && same_id (object_called a) k.object) && (e && is_end a))
    go e (Finish x made listed uid) = some e (p.event.by == k.by) (same_id x k.object)
    go e (Abandon x) = some e (p.event.by == k.by) (same_id x k.object)
    go e (Begin x) = none e (p.event.by == k.by) (p.event.by == k.by) (same_id x k.object)
    go e a = none e (p.event.by == k.by) (p.event.by == k.by) (same_id (object_called a) k.object)

-- Never more ends than starts.
starts_and_ends : (config : SpaceConfig) (es : List Event) → length (filter ends (places_back config es)) ≤ length (filter starts (places_back config es))
starts_and_ends config es =
    let all : List Line = distinct same_line (map line_of (places_back config es)) in
    let started : sum_by (λ k. length (filter (begins_call k.by k.object) (places_back config es))) all ≡ length (filter starts (places_back config es)) =
    sum_by-same (λ k. length (filter (begins_call k.by k.object) (places_back config es))) (λ k. length (filter (λ p. same_line (line_of p) k && starts p) (places_back config es)))
    (λ k. ap length (filter-same (begins_call k.by k.object) (λ p. same_line (line_of p) k && starts p) (places_back config es) (every-always (λ p. begins_call k.by k.object p ≡ (same_line (line_of p) k && starts p)) (start_line k) (places_back config es)))) all
    ∙ sum_by-parts same_line line-equality line_of starts (places_back config es) in
    let ended : sum_by (λ k. length (filter (ends_call k.by k.object) (places_back config es))) all ≡ length (filter ends (places_back config es)) =
    sum_by-same (λ k. length (filter (ends_call k.by k.object) (places_back config es))) (λ k. length (filter (λ p. same_line (line_of p) k && ends p) (places_back config es)))
    (λ k. ap length (filter-same (ends_call k.by k.object) (λ p. same_line (line_of p) k && ends p) (places_back config es) (every-always (λ p. ends_call k.by k.object p ≡ (same_line (line_of p) k && ends p)) (end_line k) (places_back config es)))) all
    ∙ sum_by-parts same_line line-equality line_of ends (places_back config es) in
    let minus = sum_by-minus (λ k. length (filter (begins_call k.by k.object) (places_back config es))) (λ k. length (filter (ends_call k.by k.object) (places_back config es)))
    (λ k. balanced config es k.by k.object) all in
    omega arith

-- The reserved units after one more event.
pub reserved_units-push : (config : SpaceConfig) (h : List Event) (e : Event) →
    reserved_units (place_of config (places config h) e ∷ places config h) + one_if (ends (place_of config (places config h) e))
    ≡ reserved_units (places config h) + one_if (starts (place_of config (places config h) e))
unfolding reserved_units places places_back
reserved_units-push config h e =
    let before = starts_and_ends config (reverse h) in let after = starts_and_ends config (e ∷ reverse h) in
    let a = length-filter-cons ends (place_of config (places_back config (reverse h)) e) (places_back config (reverse h)) in
    let b = length-filter-cons starts (place_of config (places_back config (reverse h)) e) (places_back config (reverse h)) in omega arith
