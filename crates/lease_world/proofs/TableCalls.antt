-- The lease calls of a history, each with those of its objects that were in the table when it came. For an object of the table they are as good as
-- the lease calls that name what was ever exported.
use Rattle.std.proofs.Common.{◌≡◌, ◌⊎◌, inl, inr, ℕ, ◌+◌, ◌≤◌, List, [], ◌∷◌, ◌++◌, length, refl, ap, sym, subst, ◌∙◌, arith, true≢false}
use Rattle.std.specs.Prelude.{ℤ, Bool, true, false, ◌&&◌, ◌||◌, filter, max, reverse}
use Rattle.std.specs.List.{list_any}
use Rattle.std.specs.Ordering.{int_eq}
use Rattle.std.proofs.lemmas.Bool.{or_cases, or_left, or_parts, or_right, and_parts, and_from}
use Rattle.std.proofs.lemmas.List.Folds.{list_any-append}
use Rattle.object_ids.specs.Client.{Client}
use Rattle.object_ids.specs.Same.{same_id, same_client}
use Rattle.object_ids.specs.declared.ids.ObjId.{ObjId}
use Rattle.object_ids.specs.declared.ids.Uid.{Uid}
use Rattle.object_ids.proofs.Exact.{same_id-equal}
use Rattle.history.specs.LeaseCalls.{call_with, lease_calls}
use Rattle.history.specs.Leases.{is_dirty, is_naming, calls_of, holds}
use Rattle.history.specs.Places.{History, has, now, ever_exported}
use Rattle.history.specs.Table.{is_kept, table, place_of, places, places_back}
use Rattle.history.specs.declared.asks.Ask.{Ask}
use Rattle.history.specs.declared.asks.Ask.TheVariants as asks
use Rattle.history.specs.declared.asks.Event.{Event}
use Rattle.history.specs.declared.asks.SpaceConfig.{SpaceConfig}
use Rattle.history.specs.declared.calls.Call.{Call}
use Rattle.history.specs.declared.places.Exported.{Exported}
use Rattle.history.proofs.AlikeCalls.{AllAlike, AllAlike-append, calls_of-alike, holds-alike}
use Rattle.history.proofs.CollectorLaws.{kept-needed}
use Rattle.history.proofs.ListLemmas.{list_any-filter}
use Rattle.history.proofs.NamedCalls.{call_with-alike}
use Rattle.history.proofs.NamedLaws.{stays, in-front}
use Rattle.history.proofs.NumberLaws.{NumberedFrom, adds-numbered, ever_exported_back-numbered, has-greater, table-exported}
use Rattle.history.proofs.TableLaws.{places-push, table-place, ever_exported-push}
use Rattle.space.proofs.Named.{lease_calls-push}
use Rattle.lease_world.specs.World.{is_dirty_for}
use Rattle.lease_world.proofs.Lists.{any-weaker}

unfoldable pub table_calls : History → List Call
table_calls [] = []
table_calls (p ∷ before) = call_with (has p.table_before) p.moment p.event.ask ++ table_calls before

pub table_calls-push : (config : SpaceConfig) (h : History) (e : Event) → table_calls (place_of config h e ∷ h) ≡ call_with (has (table config h)) (max e.moment (now h)) e.ask ++ table_calls h
unfolding table_calls place_of
table_calls-push config h e = refl

-- ---- what the table has was there since its export

-- What comes later was not there before.
apart : (space : Uid) (k : ℕ) (old new : List Exported) (o : ObjId) → NumberedFrom space 0 old → NumberedFrom space k new → length old ≤ k → has new o ≡ true → has old o ≡ false
apart space k old [] o before n le h = absurd (cc)
apart space k old (x ∷ new) o before n le h = elim (or_cases (same_id x.id o) (has new o) h) [
  | inl a ↦
      let P : ObjId → Type 0 = λ y. has old y ≡ false in
      subst P (sym n.0 ∙ same_id-equal x.id o a) (has-greater space k 0 old before (omega arith))
  | inr b ↦ apart space (k + 1) old new o before n.1 (omega arith) b
]

has-filtered : (test : Exported → Bool) (xs : List Exported) (o : ObjId) → has (filter test xs) o ≡ true → has xs o ≡ true
has-filtered test xs o h = any-weaker (λ (x : Exported). test x && same_id x.id o) (λ (x : Exported). same_id x.id o) (λ x a. (and_parts (test x) (same_id x.id o) a).1) xs
    (sym (list_any-filter (λ (x : Exported). same_id x.id o) test xs) ∙ h)

-- An object of the table after an event was there before, or the event exported it.
came : (config : SpaceConfig) (h : History) (e : Event) (o : ObjId) → has (table config (place_of config h e ∷ h)) o ≡ true →
    (has (table config h) o ≡ true) ⊎ (has (place_of config h e).exported_here o ≡ true)
came config h e o there = or_cases (has (table config h) o) (has (place_of config h e).exported_here o)
    (sym (list_any-append (λ (x : Exported). same_id x.id o) (table config h) (place_of config h e).exported_here)
    ∙ has-filtered (is_kept config (place_of config h e ∷ h)) (table config h ++ (place_of config h e).exported_here) o (sym (ap (λ l. has l o) (table-place config h e)) ∙ there))

-- ---- alike

not-there : (config : SpaceConfig) (h : History) (o : ObjId) → has (ever_exported h) o ≡ false → has (table config h) o ≡ false
not-there config h o never = go (has (table config h) o) refl
  where
    go : (b : Bool) → has (table config h) o ≡ b → b ≡ false
    go true e = absurd (true≢false (sym (table-exported config h o e) ∙ never))
    go false e = refl

never-before : (config : SpaceConfig) (es : List Event) (e : Event) (o : ObjId) → has (ever_exported (places_back config (e ∷ es))) o ≡ false → has (ever_exported (places_back config es)) o ≡ false
unfolding places_back
never-before config es e o never = (or_parts (has (ever_exported (places_back config es)) o) (has (place_of config (places_back config es) e).exported_here o)
    (sym (list_any-append (λ (x : Exported). same_id x.id o) (ever_exported (places_back config es)) (place_of config (places_back config es) e).exported_here)
    ∙ sym (ap (λ l. has l o) (ever_exported-push (place_of config (places_back config es) e) (places_back config es))) ∙ never)).0

-- One more event: where the two lists of objects agree on the object, and the calls before are alike.
alike-push : (config : SpaceConfig) (h : History) (e : Event) (o : ObjId) → has (ever_exported h) o ≡ has (table config h) o → AllAlike o (lease_calls h) (table_calls h) →
    AllAlike o (lease_calls (place_of config h e ∷ h)) (table_calls (place_of config h e ∷ h))
alike-push config h e o same before =
    let P : List Call → Type 0 = λ l. AllAlike o l (table_calls (place_of config h e ∷ h)) in
    let Q : List Call → Type 0 = λ l. AllAlike o (call_with (has (ever_exported h)) (max e.moment (now h)) e.ask ++ lease_calls h) l in
    subst P (sym (lease_calls-push config h e)) (subst Q (sym (table_calls-push config h e))
    (AllAlike-append o (call_with (has (ever_exported h)) (max e.moment (now h)) e.ask) (call_with (has (table config h)) (max e.moment (now h)) e.ask) (lease_calls h) (table_calls h)
    (call_with-alike (has (ever_exported h)) (has (table config h)) o same (max e.moment (now h)) e.ask) before))

never-alike : (config : SpaceConfig) (es : List Event) (o : ObjId) → has (ever_exported (places_back config es)) o ≡ false → AllAlike o (lease_calls (places_back config es)) (table_calls (places_back config es))
unfolding places_back lease_calls table_calls
never-alike config [] o never = tt
never-alike config (e ∷ es) o never =
    let before = never-before config es e o never in
    alike-push config (places_back config es) e o (before ∙ sym (not-there config (places_back config es) o before)) (never-alike config es o before)

back-alike : (config : SpaceConfig) (es : List Event) (o : ObjId) → has (table config (places_back config es)) o ≡ true → AllAlike o (lease_calls (places_back config es)) (table_calls (places_back config es))
unfolding places_back lease_calls table_calls
back-alike config [] o there = tt
back-alike config (e ∷ es) o there = elim (came config (places_back config es) e o there) [
  | inl a ↦ alike-push config (places_back config es) e o (table-exported config (places_back config es) o a ∙ sym a) (back-alike config es o a)
  | inr b ↦
      let h = places_back config es in
      let never = apart config.uid (length (ever_exported h)) (ever_exported h) (place_of config h e).exported_here o (ever_exported_back-numbered config es) (adds-numbered config h e) (omega arith) b in
      alike-push config h e o (never ∙ sym (not-there config h o never)) (never-alike config es o never)
]

-- AN OBJECT OF THE TABLE has the same lease calls after one more event, whichever are told.
alike : (config : SpaceConfig) (events : List Event) (e : Event) (o : ObjId) → has (table config (places config events)) o ≡ true →
    AllAlike o (lease_calls (place_of config (places config events) e ∷ places config events)) (table_calls (place_of config (places config events) e ∷ places config events))
unfolding places
alike config events e o there =
    alike-push config (places config events) e o (table-exported config (places config events) o there ∙ sym there) (back-alike config (reverse events) o there)

-- ---- what a client holds stays

-- An object of the table that a client holds after one more event is in the table then.
pub held-stays : (config : SpaceConfig) (events : List Event) (e : Event) (o : ObjId) (c : Client) → has (table config (places config events)) o ≡ true →
    holds config.lease_ms (now (place_of config (places config events) e ∷ places config events)) (calls_of c (table_calls (place_of config (places config events) e ∷ places config events))) o ≡ true →
    has (table config (place_of config (places config events) e ∷ places config events)) o ≡ true
held-stays config events e o c there held =
    stays config events e o kept (in-front (table config (places config events)) (place_of config (places config events) e).exported_here o there)
  where
    h : History
    h = place_of config (places config events) e ∷ places config events

    same : holds config.lease_ms (now h) (calls_of c (lease_calls h)) o ≡ true
    same = holds-alike o config.lease_ms (now h) (calls_of c (lease_calls h)) (calls_of c (table_calls h)) (calls_of-alike o c (lease_calls h) (table_calls h) (alike config events e o there)) ∙ held

    kept : (x : Exported) → x.id ≡ o → is_kept config h x ≡ true
    kept x i =
        let P : ObjId → Type 0 = λ y. holds config.lease_ms (now h) (calls_of c (lease_calls h)) y ≡ true in
        let Q : History → Type 0 = λ g. holds config.lease_ms (now g) (calls_of c (lease_calls g)) x.id ≡ true in
        sym (ap (λ g. is_kept config g x) (places-push config events e))
        ∙ (kept-needed config (events ++ e ∷ []) x).1 (inr (inr (inr (inr (c, subst Q (sym (places-push config events e)) (subst P (sym i) same))))))

-- ---- deliveries that met their object

abbrev pub is_of : Client → Call → Bool
is_of v x = same_client x.client v

abbrev pub is_dirty_of : Client → Call → Bool
is_dirty_of v x = is_dirty x && is_of v x

-- A dirty call of the client, of this number, that named the object while that was in the table.
abbrev pub meets : Client → ObjId → ℤ → Call → Bool
meets v o number x = is_dirty_of v x && int_eq x.number number && is_naming o x

pub met-calls : (v : Client) (o : ObjId) (number : ℤ) (h : History) → list_any (λ p. is_dirty_for v o number p.event.ask && has p.table_before o) h ≡ true → list_any (meets v o number) (table_calls h) ≡ true
unfolding table_calls
met-calls v o number [] m = m
met-calls v o number (p ∷ h) m =
    list_any-append (meets v o number) (call_with (has p.table_before) p.moment p.event.ask) (table_calls h)
    ∙ either (or_cases (is_dirty_for v o number p.event.ask && has p.table_before o) (list_any (λ p. is_dirty_for v o number p.event.ask && has p.table_before o) h) m) (met-calls v o number h)
  where
    here : (a : Ask) → is_dirty_for v o number a ≡ true → has p.table_before o ≡ true → list_any (meets v o number) (call_with (has p.table_before) p.moment a) ≡ true
    here (asks.Dirty by n asked objects) d there =
        let two = and_parts (same_client by v && int_eq n number) (list_any (λ y. same_id y o) objects) d in
        let names = list_any-filter (λ y. same_id y o) (has p.table_before) objects
        ∙ any-weaker (λ y. same_id y o) (λ y. has p.table_before y && same_id y o)
        (λ y s. and_from (has p.table_before y) (same_id y o) (ap (has p.table_before) (same_id-equal y o s) ∙ there) s) objects two.1 in
        or_left (same_client by v && int_eq n number && list_any (λ y. same_id y o) (filter (has p.table_before) objects)) false
        (and_from (same_client by v && int_eq n number) (list_any (λ y. same_id y o) (filter (has p.table_before) objects)) two.0 names)
    here _ d there = absurd (cc)

    either : ((is_dirty_for v o number p.event.ask && has p.table_before o) ≡ true) ⊎ (list_any (λ p. is_dirty_for v o number p.event.ask && has p.table_before o) h ≡ true) →
        (list_any (λ p. is_dirty_for v o number p.event.ask && has p.table_before o) h ≡ true → list_any (meets v o number) (table_calls h) ≡ true) →
        (list_any (meets v o number) (call_with (has p.table_before) p.moment p.event.ask) || list_any (meets v o number) (table_calls h)) ≡ true
    either (inl a) rest =
        let two = and_parts (is_dirty_for v o number p.event.ask) (has p.table_before o) a in
        or_left (list_any (meets v o number) (call_with (has p.table_before) p.moment p.event.ask)) (list_any (meets v o number) (table_calls h)) (here p.event.ask two.0 two.1)
    either (inr b) rest = or_right (list_any (meets v o number) (call_with (has p.table_before) p.moment p.event.ask)) (list_any (meets v o number) (table_calls h)) (rest b)
