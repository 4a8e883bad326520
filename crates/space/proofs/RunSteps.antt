-- Lists of running calls that stand for those of a history, and what an event does to them.
use Rattle.std.proofs.Common.{◌≡◌, ℕ, ◌+◌, ◌<◌, ◌≤◌, List, [], ◌∷◌, ◌++◌, length, refl, ap, sym, ◌∙◌, cond, arith, length-append}
use Rattle.std.specs.Prelude.{Bool, true, false, ◌&&◌, ◌||◌, ◌==◌, filter, if◌then◌else◌}
use Rattle.std.specs.List.{list_any}
use Rattle.std.proofs.lemmas.Bool.{and_parts}
use Rattle.std.proofs.lemmas.Bool.Decides.{Decides-eqb}
use Rattle.std.proofs.lemmas.List.Elements.{filter-append}
use Rattle.object_ids.specs.declared.ids.ObjId.{ObjId}
use Rattle.object_ids.specs.Same.{same_id}
use Rattle.object_ids.proofs.Exact.{same_id-equal}
use Rattle.history.specs.declared.asks.SpaceConfig.{SpaceConfig}
use Rattle.history.specs.declared.asks.Event.{Event}
use Rattle.history.specs.declared.asks.Ask.{Ask}
use Rattle.history.specs.declared.asks.Ask.TheVariants.{Begin, Finish, Abandon}
use Rattle.history.specs.Limits.{is_begin, is_end, starts, ends, reserved_units}
use Rattle.history.specs.Places.{has}
use Rattle.history.specs.Running.{is_begin_of, is_end_of, begins_call, ends_call, running_calls_by, running_calls}
use Rattle.history.specs.Table.{is_effective, table, place_of, places}
use Rattle.space.specs.Runs.{without_first, is_run_of, is_run_on, RunsStand}
use Rattle.history.proofs.Partitions.{one_if, length-filter-cons}
use Rattle.history.proofs.RunningLaws.{begins_any, ends_any, running_calls_by-push, running_calls-push, reserved_units-push}
use Rattle.history.proofs.ListLemmas.{and_false}

-- ---- lists

pub length-without : {R : Type 0} (test : R → Bool) (rs : List R) → list_any test rs ≡ true → length (without_first test rs) + 1 ≡ length rs
length-without test [] h = absurd (cc)
length-without {R} test (r ∷ rs) h = go (test r) h (length-without test rs)
  where
    go : (b : Bool) → (b || list_any test rs) ≡ true → (list_any test rs ≡ true → length (without_first test rs) + 1 ≡ length rs) → length (if b then rs else r ∷ without_first test rs) + 1 ≡ length (r ∷ rs)
    go true h rest = omega arith
    go false h rest = let n = rest h in omega arith

-- It is no longer, and the list itself where no item passes.
pub without-shorter : {R : Type 0} (test : R → Bool) (rs : List R) → length (without_first test rs) ≤ length rs
without-shorter test [] = omega arith
without-shorter {R} test (r ∷ rs) = go (test r) (without-shorter test rs)
  where
    go : (b : Bool) → length (without_first test rs) ≤ length rs → length (if b then rs else r ∷ without_first test rs) ≤ length (r ∷ rs)
    go true rest = omega arith
    go false rest = omega (arith, rest)

pub without-none : {R : Type 0} (test : R → Bool) (rs : List R) → list_any test rs ≡ false → without_first test rs ≡ rs
without-none test [] h = refl
without-none {R} test (r ∷ rs) h = go (test r) h (without-none test rs)
  where
    go : (b : Bool) → (b || list_any test rs) ≡ false → (list_any test rs ≡ false → without_first test rs ≡ rs) → (if b then rs else r ∷ without_first test rs) ≡ r ∷ rs
    go true h rest = absurd (cc)
    go false h rest = ap (λ l. r ∷ l) (rest h)

-- Of the items that pass another test it has one less where the first passes that too.
pub count-without : {R : Type 0} (test other : R → Bool) (found : Bool) → ((r : R) → test r ≡ true → other r ≡ found) → (rs : List R) → list_any test rs ≡ true →
    length (filter other (without_first test rs)) + one_if found ≡ length (filter other rs)
unfolding one_if
count-without test other found same [] h = absurd (cc)
count-without {R} test other found same (r ∷ rs) h = go (test r) (other r) refl refl h (count-without test other found same rs)
  where
    go : (a b : Bool) → test r ≡ a → other r ≡ b → (a || list_any test rs) ≡ true → (list_any test rs ≡ true → length (filter other (without_first test rs)) + one_if found ≡ length (filter other rs)) →
        length (filter other (if a then rs else r ∷ without_first test rs)) + one_if found ≡ length (cond b (r ∷ filter other rs) (filter other rs))
    go true true e f h rest = let yes = sym (same r e) ∙ f in let one = ap one_if yes in omega arith
    go true false e f h rest = let none = sym (same r e) ∙ f in let zero_more = ap one_if none in omega arith
    go false true e f h rest = rw f (let n = rest h in omega arith)
    go false false e f h rest = rw f (rest h)

pub count-last : {R : Type 0} (other : R → Bool) (rs : List R) (r : R) → length (filter other (rs ++ r ∷ [])) ≡ length (filter other rs) + one_if (other r)
unfolding one_if
count-last other rs r = ap length (filter-append other rs (r ∷ [])) ∙ length-append (filter other rs) (filter other (r ∷ [])) ∙ ap (λ n. length (filter other rs) + n) (length-filter-cons other r [] ∙ omega arith)

pub some-counted : {R : Type 0} (test : R → Bool) (rs : List R) → 0 < length (filter test rs) → list_any test rs ≡ true
some-counted test [] h = absurd (omega arith)
some-counted {R} test (r ∷ rs) h = go (test r) h (some-counted test rs)
  where
    go : (b : Bool) → 0 < length (cond b (r ∷ filter test rs) (filter test rs)) → (0 < length (filter test rs) → list_any test rs ≡ true) → (b || list_any test rs) ≡ true
    go true h rest = refl
    go false h rest = rest h

pub none-counted : {R : Type 0} (test : R → Bool) (rs : List R) → list_any test rs ≡ false → length (filter test rs) ≡ 0
none-counted test [] h = refl
none-counted {R} test (r ∷ rs) h = go (test r) h (none-counted test rs)
  where
    go : (b : Bool) → (b || list_any test rs) ≡ false → (list_any test rs ≡ false → length (filter test rs) ≡ 0) → length (cond b (r ∷ filter test rs) (filter test rs)) ≡ 0
    go true h rest = absurd (cc)
    go false h rest = rest h

-- ---- running calls: each is of a connection and an object

pub runs-none : {R : Type 0} (by : R → ℕ) (object : R → ObjId) → RunsStand by object [] []
unfolding running_calls_by running_calls reserved_units
runs-none by object = record { lines = λ b o. refl; calls = λ o. refl; all = refl }

step-same : (a b x y : ℕ) (ends begins : Bool) → a + one_if ends ≡ b + one_if begins → ends ≡ false → begins ≡ false → x ≡ b → x ≡ a
unfolding one_if
step-same a b x y ends begins s e f h = let one = ap one_if e in let two = ap one_if f in omega arith

-- An event that begins and ends none leaves them.
pub runs-other : {R : Type 0} (by : R → ℕ) (object : R → ObjId) (config : SpaceConfig) (events : List Event) (e : Event) (runs : List R) →
    ((b : ℕ) (o : ObjId) → begins_call b o (place_of config (places config events) e) ≡ false) → ((b : ℕ) (o : ObjId) → ends_call b o (place_of config (places config events) e) ≡ false) →
    ((o : ObjId) → begins_any o (place_of config (places config events) e) ≡ false) → ((o : ObjId) → ends_any o (place_of config (places config events) e) ≡ false) →
    starts (place_of config (places config events) e) ≡ false → ends (place_of config (places config events) e) ≡ false →
    RunsStand by object (places config events) runs → RunsStand by object (place_of config (places config events) e ∷ places config events) runs
runs-other by object config events e runs bc ec ba ea s t r = record {
  lines = λ b o. step-same (running_calls_by (place_of config (places config events) e ∷ places config events) b o) (running_calls_by (places config events) b o) (length (filter (is_run_of by object b o) runs)) 0 (ends_call b o (place_of config (places config events) e)) (begins_call b o (place_of config (places config events) e)) (running_calls_by-push config events e b o) (ec b o) (bc b o) (r.lines b o);
  calls = λ o. step-same (running_calls (place_of config (places config events) e ∷ places config events) o) (running_calls (places config events) o) (length (filter (is_run_on object o) runs)) 0 (ends_any o (place_of config (places config events) e)) (begins_any o (place_of config (places config events) e)) (running_calls-push config events e o) (ea o) (ba o) (r.calls o);
  all = step-same (reserved_units (place_of config (places config events) e ∷ places config events)) (reserved_units (places config events)) (length runs) 0 (ends (place_of config (places config events) e)) (starts (place_of config (places config events) e)) (reserved_units-push config events e) t s r.all;
}

step-more : (a b x y : ℕ) (ends begins new : Bool) → a + one_if ends ≡ b + one_if begins → ends ≡ false → begins ≡ new → x ≡ b → y ≡ x + one_if new → y ≡ a
unfolding one_if
step-more a b x y ends begins new s e f h g = let one = ap one_if e in let two = ap one_if f in omega arith

step-less : (a b x y : ℕ) (ends begins old : Bool) → a + one_if ends ≡ b + one_if begins → begins ≡ false → ends ≡ old → x ≡ b → y + one_if old ≡ x → y ≡ a
unfolding one_if
step-less a b x y ends begins old s e f h g = let one = ap one_if e in let two = ap one_if f in omega arith

-- An effective Begin is one more.
pub runs-begin : {R : Type 0} (by : R → ℕ) (object : R → ObjId) (config : SpaceConfig) (events : List Event) (e : Event) (x : ObjId) (runs : List R) (new : R) → e.ask ≡ Begin x → has (table config (places config events)) x ≡ true →
    by new ≡ e.by → object new ≡ x → RunsStand by object (places config events) runs → RunsStand by object (place_of config (places config events) e ∷ places config events) (runs ++ new ∷ [])
unfolding place_of is_effective one_if
runs-begin {R} by object config events e x runs new asked there b n r = record {
  lines = λ k o. step-more (running_calls_by (place_of config (places config events) e ∷ places config events) k o) (running_calls_by (places config events) k o) (length (filter (is_run_of by object k o) runs)) (length (filter (is_run_of by object k o) (runs ++ new ∷ [])))
      (ends_call k o (place_of config (places config events) e)) (begins_call k o (place_of config (places config events) e)) (is_run_of by object k o new) (running_calls_by-push config events e k o)
      (rw asked (and_false (has (table config (places config events)) x && e.by == k))) (rw (asked, there, b, n) refl) (r.lines k o) (count-last (is_run_of by object k o) runs new);
  calls = λ o. step-more (running_calls (place_of config (places config events) e ∷ places config events) o) (running_calls (places config events) o) (length (filter (is_run_on object o) runs)) (length (filter (is_run_on object o) (runs ++ new ∷ [])))
      (ends_any o (place_of config (places config events) e)) (begins_any o (place_of config (places config events) e)) (is_run_on object o new) (running_calls-push config events e o)
      (rw asked (and_false (has (table config (places config events)) x))) (rw (asked, there, n) refl) (r.calls o) (count-last (is_run_on object o) runs new);
  all = step-more (reserved_units (place_of config (places config events) e ∷ places config events)) (reserved_units (places config events)) (length runs) (length (runs ++ new ∷ []))
      (ends (place_of config (places config events) e)) (starts (place_of config (places config events) e)) true (reserved_units-push config events e)
      (rw asked (and_false (has (table config (places config events)) x))) (rw (asked, there) refl) r.all (length-append runs (new ∷ []));
}

-- An ask that ends a call of an object.
pub record EndsCall (x : ObjId) (a : Ask) : Type 0 where
  pub ends_of : (o : ObjId) → is_end_of o a ≡ same_id x o
  pub begins_of : (o : ObjId) → is_begin_of o a ≡ false
  pub is_ended : is_end a ≡ true
  pub is_begun : is_begin a ≡ false

pub finish-ends : (x : ObjId) (a : Ask) → (made : _) (listed : _) (uid : _) → a ≡ Finish x made listed uid → EndsCall x a
finish-ends x a made listed uid e = record { ends_of = λ o. ap (is_end_of o) e; begins_of = λ o. ap (is_begin_of o) e; is_ended = ap is_end e; is_begun = ap is_begin e }

pub abandon-ends : (x : ObjId) (a : Ask) → a ≡ Abandon x → EndsCall x a
abandon-ends x a e = record { ends_of = λ o. ap (is_end_of o) e; begins_of = λ o. ap (is_begin_of o) e; is_ended = ap is_end e; is_begun = ap is_begin e }

-- An effective Finish or Abandon is one less.
pub runs-end : {R : Type 0} (by : R → ℕ) (object : R → ObjId) (config : SpaceConfig) (events : List Event) (e : Event) (x : ObjId) (runs : List R) → EndsCall x e.ask → 0 < running_calls_by (places config events) e.by x →
    is_effective config (places config events) e.by e.ask ≡ true →
    RunsStand by object (places config events) runs → RunsStand by object (place_of config (places config events) e ∷ places config events) (without_first (is_run_of by object e.by x) runs)
unfolding place_of one_if
runs-end {R} by object config events e x runs c run eff r = record {
  lines = λ k o. step-less (running_calls_by (place_of config (places config events) e ∷ places config events) k o) (running_calls_by (places config events) k o) (length (filter (is_run_of by object k o) runs)) (length (filter (is_run_of by object k o) (without_first (is_run_of by object e.by x) runs)))
      (ends_call k o (place_of config (places config events) e)) (begins_call k o (place_of config (places config events) e)) (e.by == k && same_id x o) (running_calls_by-push config events e k o)
      (rw (c.begins_of o) (and_false (is_effective config (places config events) e.by e.ask && e.by == k))) (rw (eff, c.ends_of o) refl) (r.lines k o)
      (count-without (is_run_of by object e.by x) (is_run_of by object k o) (e.by == k && same_id x o) (λ q h. line_found q k o h) runs there);
  calls = λ o. step-less (running_calls (place_of config (places config events) e ∷ places config events) o) (running_calls (places config events) o) (length (filter (is_run_on object o) runs)) (length (filter (is_run_on object o) (without_first (is_run_of by object e.by x) runs)))
      (ends_any o (place_of config (places config events) e)) (begins_any o (place_of config (places config events) e)) (same_id x o) (running_calls-push config events e o)
      (rw (c.begins_of o) (and_false (is_effective config (places config events) e.by e.ask))) (rw (eff, c.ends_of o) refl) (r.calls o)
      (count-without (is_run_of by object e.by x) (is_run_on object o) (same_id x o) (λ q h. ap (λ y. same_id y o) (same_id-equal (object q) x (and_parts (by q == e.by) (same_id (object q) x) h).1)) runs there);
  all = step-less (reserved_units (place_of config (places config events) e ∷ places config events)) (reserved_units (places config events)) (length runs) (length (without_first (is_run_of by object e.by x) runs))
      (ends (place_of config (places config events) e)) (starts (place_of config (places config events) e)) true (reserved_units-push config events e)
      (rw c.is_begun (and_false (is_effective config (places config events) e.by e.ask))) (rw (eff, c.is_ended) refl) r.all (length-without (is_run_of by object e.by x) runs there);
}
  where
    there : list_any (is_run_of by object e.by x) runs ≡ true
    there = some-counted (is_run_of by object e.by x) runs (let n = r.lines e.by x in omega (arith, n, run))

    line_found : (q : R) (k : ℕ) (o : ObjId) → is_run_of by object e.by x q ≡ true → is_run_of by object k o q ≡ (e.by == k && same_id x o)
    line_found q k o h =
        let two = and_parts (by q == e.by) (same_id (object q) x) h in
        ap (λ n. n == k && same_id (object q) o) ((Decides-eqb (by q) e.by).0 two.0) ∙ ap (λ y. e.by == k && same_id y o) (same_id-equal (object q) x two.1)
