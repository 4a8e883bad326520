-- Objects of the table of a history: running calls and names are of them, and what an event exports was nowhere before.
use Rattle.std.proofs.Common.{true≢false, ◌≡◌, ℕ, ◌+◌, ◌<◌, inl, inr, List, [], ◌∷◌, ◌++◌, length, refl, ap, sym, ◌∙◌, arith, Option, Some, None}
use Rattle.std.specs.Prelude.{Bool, true, false, ◌&&◌, ◌||◌, filter, is_none, option_and_then}
use Rattle.std.specs.List.{AllByRecursion}
use Rattle.std.proofs.str.Laws.{order}
use Rattle.std.proofs.lemmas.Bool.{lt-ltb, and_parts, or_cases}
use Rattle.object_ids.specs.declared.ids.Uid.{Uid}
use Rattle.object_ids.specs.declared.ids.ObjId.{ObjId}
use Rattle.object_ids.specs.Same.{same_id}
use Rattle.object_ids.proofs.Exact.{same_id-equal}
use Rattle.history.specs.declared.asks.SpaceConfig.{SpaceConfig}
use Rattle.history.specs.declared.asks.Event.{Event}
use Rattle.history.specs.declared.asks.Ask.{Ask}
use Rattle.history.specs.declared.asks.Ask.TheVariants.{Begin, Bind, Rebind}
use Rattle.history.specs.declared.places.Exported.{Exported}
use Rattle.history.specs.Awaiting.{is_awaited}
use Rattle.history.specs.LeaseCalls.{lease_calls}
use Rattle.history.specs.Leases.{is_held}
use Rattle.history.specs.Names.{is_named, is_name_of, name_in, names, names_of, stands_for}
use Rattle.history.specs.Places.{History, has, now, ever_exported, id_at}
use Rattle.history.specs.Running.{begins_any, ends_any, running_calls}
use Rattle.history.specs.Table.{is_kept_locally, is_kept, is_effective, table, place_of, places}
use Rattle.history.proofs.ListLemmas.{every-weaker}
use Rattle.history.proofs.NameCounts.{is_object, names_less, names_more, names-counted}
use Rattle.history.proofs.NamedLaws.{by-events, stays, in-front, named-exported}
use Rattle.history.proofs.NumberLaws.{NumberedFrom, adds-numbered, ever_exported-numbered, has-smaller, has-self, table-exported}
use Rattle.history.proofs.Partitions.{one_if}
use Rattle.history.proofs.RunningLaws.{running_calls-difference, running_calls-push, is_running-calls}
use Rattle.history.proofs.TableLaws.{places-push, places-none}

-- ---- running calls are of objects of the table

begun-there : (config : SpaceConfig) (h : History) (e : Event) (o : ObjId) → begins_any o (place_of config h e) ≡ true → has (table config h) o ≡ true
unfolding place_of is_effective
begun-there config h e o b = go e.ask b
  where
    never : (v : Bool) → (v && false) ≡ true → has (table config h) o ≡ true
    never true t = absurd (cc)
    never false t = absurd (cc)

    go : (a : Ask) → begins_any o (place_of config h (record e { ask = a })) ≡ true → has (table config h) o ≡ true
    go (Begin x) t = let two = and_parts (has (table config h) x) (same_id x o) t in ap (has (table config h)) (sym (same_id-equal x o two.1)) ∙ two.0
    go a t = never (place_of config h (record e { ask = a })).effective t

kept-running : (config : SpaceConfig) (h : History) (x : Exported) → 0 < running_calls h x.id → is_kept config h x ≡ true
unfolding is_kept is_kept_locally
kept-running config h x r = rw (is_running-calls h x.id ∙ lt-ltb 0 (running_calls h x.id) r) (go x.pinned (is_named h x.id) (is_awaited config.ack_ms (now h) h x.id) (is_held config.lease_ms (now h) (lease_calls h) x.id))
  where
    go : (a b c d : Bool) → (((a || b) || true) || c || d) ≡ true
    go true b c d = refl
    go false true c d = refl
    go false false c d = refl

ran-before : (after before : ℕ) (ends begins : Bool) → after + one_if ends ≡ before + one_if begins → begins ≡ false → 0 < after → 0 < before
unfolding one_if
ran-before after before ends true e b r = absurd (cc)
ran-before after before ends false e b r = omega arith

pub running-there : (config : SpaceConfig) (events : List Event) (o : ObjId) → 0 < running_calls (places config events) o → has (table config (places config events)) o ≡ true
running-there config = by-events
    (λ events. (o : ObjId) → 0 < running_calls (places config events) o → has (table config (places config events)) o ≡ true) none more
  where
    none : (o : ObjId) → 0 < running_calls (places config []) o → has (table config (places config [])) o ≡ true
    none o r = absurd (let all = running_calls-difference config [] o in
        let empty : length (filter (begins_any o) (places config [])) ≡ 0 = ap (λ h. length (filter (begins_any o) h)) (places-none config) in omega arith)

    more : (events : List Event) (e : Event) → ((o : ObjId) → 0 < running_calls (places config events) o → has (table config (places config events)) o ≡ true) →
        (o : ObjId) → 0 < running_calls (places config (events ++ e ∷ [])) o → has (table config (places config (events ++ e ∷ []))) o ≡ true
    more events e ih o r =
        ap (λ h. has (table config h) o) (places-push config events e) ∙ stays config events e o (λ x i. kept-running config (place_of config (places config events) e ∷ places config events) x (let same = ap (running_calls (place_of config (places config events) e ∷ places config events)) i in let r = runs in omega arith))
        (in-front (table config (places config events)) (place_of config (places config events) e).exported_here o (before (begins_any o (place_of config (places config events) e)) refl))
      where
        runs : 0 < running_calls (place_of config (places config events) e ∷ places config events) o
        runs = let same = ap (λ h. running_calls h o) (places-push config events e) in omega arith

        before : (b : Bool) → begins_any o (place_of config (places config events) e) ≡ b → has (table config (places config events)) o ≡ true
        before true t = begun-there config (places config events) e o t
        before false t = ih o (ran-before (running_calls (place_of config (places config events) e ∷ places config events) o) (running_calls (places config events) o) (ends_any o (place_of config (places config events) e)) (begins_any o (place_of config (places config events) e)) (running_calls-push config events e o) t runs)

-- ---- new objects were nowhere before

-- An object of a numbered list is one of its numbers.
numbered-has : (space : Uid) (k : ℕ) (xs : List Exported) (y : ObjId) → NumberedFrom space k xs → has xs y ≡ true → (m : ℕ) × (y ≡ id_at space m) × (m < k + length xs)
numbered-has space k [] y n h = absurd (cc)
numbered-has space k (x ∷ xs) y n h = elim (or_cases (same_id x.id y) (has xs y) h) [
  | inl here ↦ (k, sym (same_id-equal x.id y here) ∙ n.0, omega arith)
  | inr there ↦ (let rest = numbered-has space (k + 1) xs y n.1 there in (rest.0, rest.1, (let l = rest.2 in omega arith)))
]

-- What was exported before is not new.
pub old-not-new : (config : SpaceConfig) (events : List Event) (e : Event) (y : ObjId) → has (ever_exported (places config events)) y ≡ true → has (place_of config (places config events) e).exported_here y ≡ false
old-not-new config events e y h =
    let some = numbered-has config.uid 0 (ever_exported (places config events)) y (ever_exported-numbered config events) h in
    ap (has (place_of config (places config events) e).exported_here) some.1
    ∙ has-smaller config.uid some.0 (length (ever_exported (places config events))) (place_of config (places config events) e).exported_here (adds-numbered config (places config events) e) (let l = some.2 in omega arith)

pub new-not-old : (config : SpaceConfig) (events : List Event) (e : Event) (y : ObjId) → has (place_of config (places config events) e).exported_here y ≡ true → has (ever_exported (places config events)) y ≡ false
new-not-old config events e y h = go (has (ever_exported (places config events)) y) refl
  where
    go : (b : Bool) → has (ever_exported (places config events)) y ≡ b → b ≡ false
    go false t = refl
    go true t = absurd (let never = old-not-new config events e y t in cc)

pub not-exported-nowhere : (config : SpaceConfig) (events : List Event) (y : ObjId) → has (ever_exported (places config events)) y ≡ false → has (table config (places config events)) y ≡ false
not-exported-nowhere config events y h = go (has (table config (places config events)) y) refl
  where
    go : (b : Bool) → has (table config (places config events)) y ≡ b → b ≡ false
    go false t = refl
    go true t = absurd (let there = table-exported config (places config events) y t in cc)

-- No call of one runs.
pub not-there-runs-none : (config : SpaceConfig) (events : List Event) (y : ObjId) → has (table config (places config events)) y ≡ false → running_calls (places config events) y ≡ 0
not-there-runs-none config events y h = elim (order 0 (running_calls (places config events) y)) [
  | inl runs ↦ absurd (let there = running-there config events y runs in cc)
  | inr none ↦ omega arith
]

-- No call of a new object runs.
pub new-runs-none : (config : SpaceConfig) (events : List Event) (e : Event) →
    AllByRecursion (λ (x : Exported). running_calls (place_of config (places config events) e ∷ places config events) x.id ≡ 0) (place_of config (places config events) e).exported_here
unfolding one_if
new-runs-none config events e =
    every-weaker (λ (x : Exported). has (place_of config (places config events) e).exported_here x.id ≡ true) _ (λ x there. one x.id there)
    (place_of config (places config events) e).exported_here (has-self (place_of config (places config events) e).exported_here)
  where
    one : (o : ObjId) → has (place_of config (places config events) e).exported_here o ≡ true → running_calls (place_of config (places config events) e ∷ places config events) o ≡ 0
    one o there = go (begins_any o (place_of config (places config events) e)) refl (running_calls-push config events e o)
      where
        away : has (table config (places config events)) o ≡ false
        away = not-exported-nowhere config events o (new-not-old config events e o there)

        go : (b : Bool) → begins_any o (place_of config (places config events) e) ≡ b →
            running_calls (place_of config (places config events) e ∷ places config events) o + one_if (ends_any o (place_of config (places config events) e)) ≡ running_calls (places config events) o + one_if b →
            running_calls (place_of config (places config events) e ∷ places config events) o ≡ 0
        go true begins s = absurd (true≢false (sym (begun-there config (places config events) e o begins) ∙ away))
        go false begins s = let none = not-there-runs-none config events o away in omega (arith, s, none)

-- ---- no name stands for a new object

-- An object to which a name is bound is in the table before.
pinned-there : (config : SpaceConfig) (h : History) (e : Event) (o : ObjId) → names_more (is_effective config h e.by e.ask) e.ask o ≡ true → has (table config h) o ≡ true
unfolding is_effective
pinned-there config h e o b = go e.ask b
  where
    never : (v : Bool) → (v && false) ≡ true → has (table config h) o ≡ true
    never true t = absurd (cc)
    never false t = absurd (cc)

    go : (a : Ask) → names_more (is_effective config h e.by a) a o ≡ true → has (table config h) o ≡ true
    go (Bind n x) t =
        let two = and_parts (has (table config h) x && is_none (stands_for h n)) (same_id x o) t in
        ap (has (table config h)) (sym (same_id-equal x o two.1)) ∙ (and_parts (has (table config h) x) (is_none (stands_for h n)) two.0).0
    go (Rebind n x) t = let two = and_parts (has (table config h) x) (same_id x o) t in ap (has (table config h)) (sym (same_id-equal x o two.1)) ∙ two.0
    go a t = never (is_effective config h e.by a) t

-- No name stands for an object that is not in the table.
pub not-there-unnamed : (config : SpaceConfig) (events : List Event) (o : ObjId) → has (table config (places config events)) o ≡ false → length (names_of (places config events) o) ≡ 0
unfolding names_of
not-there-unnamed config events o away = go (names (places config events))
  where
    none : (s : Option ObjId) (n : List ℕ) → stands_for (places config events) n ≡ s → is_object o s ≡ false
    none None n e = refl
    none (Some x) n e = apart (same_id x o) refl
      where
        apart : (b : Bool) → same_id x o ≡ b → b ≡ false
        apart false t = refl
        apart true t = absurd (let there = ap (has (table config (places config events))) (sym (same_id-equal x o t)) ∙ named-exported config events n x e in cc)

    go : (ns : List (List ℕ)) → length (filter (is_name_of (places config events) o) ns) ≡ 0
    go [] = refl
    go (n ∷ ns) = rw (none (stands_for (places config events) n) n refl) (go ns)

pub new-unnamed : (config : SpaceConfig) (events : List Event) (e : Event) →
    AllByRecursion (λ (x : Exported). length (names_of (place_of config (places config events) e ∷ places config events) x.id) ≡ 0) (place_of config (places config events) e).exported_here
unfolding one_if
new-unnamed config events e =
    every-weaker (λ (x : Exported). has (place_of config (places config events) e).exported_here x.id ≡ true) _ (λ x there. one x.id there)
    (place_of config (places config events) e).exported_here (has-self (place_of config (places config events) e).exported_here)
  where
    one : (o : ObjId) → has (place_of config (places config events) e).exported_here o ≡ true → length (names_of (place_of config (places config events) e ∷ places config events) o) ≡ 0
    one o there = go (names_more (is_effective config (places config events) e.by e.ask) e.ask o) refl (names-counted config events e o)
      where
        away : has (table config (places config events)) o ≡ false
        away = not-exported-nowhere config events o (new-not-old config events e o there)

        go : (b : Bool) → names_more (is_effective config (places config events) e.by e.ask) e.ask o ≡ b →
            length (names_of (place_of config (places config events) e ∷ places config events) o)
            + one_if (names_less (is_effective config (places config events) e.by e.ask) (option_and_then (stands_for (places config events)) (name_in e.ask)) e.ask o)
            ≡ length (names_of (places config events) o) + one_if b →
            length (names_of (place_of config (places config events) e ∷ places config events) o) ≡ 0
        go true more s = absurd (true≢false (sym (pinned-there config (places config events) e o more) ∙ away))
        go false more s = let none = not-there-unnamed config events o away in omega (arith, s, none)
