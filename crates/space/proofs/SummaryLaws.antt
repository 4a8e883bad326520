-- The summary and the journal, by what is kept.
use Rattle.std.proofs.Common.{◌≡◌, ℕ, ◌<◌, List, [], ◌∷◌, ◌++◌, length, refl, ap, sym, subst, ◌∙◌, arith, max, flat_map}
use Rattle.std.specs.Prelude.{pos, true}
use Rattle.std.specs.List.{AllByRecursion}
use Rattle.std.proofs.lemmas.List.{length-map}
use Rattle.history.specs.declared.places.Exported.{Exported}
use Rattle.history.specs.declared.asks.SpaceConfig.{SpaceConfig}
use Rattle.history.specs.declared.asks.Event.{Event}
use Rattle.history.specs.declared.calls.Call.{Call}
use Rattle.history.specs.declared.calls.LeaseRow.{LeaseRow}
use Rattle.history.specs.declared.places.Withdrawal.{Withdrawal}
use Rattle.history.specs.Awaiting.{awaiting_references}
use Rattle.history.specs.LeaseCalls.{lease_calls}
use Rattle.history.specs.Leases.{clients_with_time_left, lease_rows, lease_end, calls_of, pairs, pairs_with}
use Rattle.history.specs.Limits.{units}
use Rattle.history.specs.Names.{names}
use Rattle.history.specs.Outline.{events_line, summary}
use Rattle.history.specs.Places.{History, now}
use Rattle.history.specs.Replies.{ids}
use Rattle.history.specs.Table.{table, places, withdrawals}
use Rattle.history.specs.declared.limits.TheConstants.{END_OF_TIME}
use Rattle.history.proofs.TableLaws.{length-places, places-push, now-push}
use Rattle.journal.specs.Rows.{events_text}
use Rattle.journal.specs.Grammar.{SpellsConfig, JournalText}
use Rattle.journal.specs.Written.{with_line_end, config_text, event_line, journal_text, ConfigFits, EventFits}
use Rattle.journal.proofs.Ended.{journal_after}
use Rattle.dgc_server.specs.StandsForCalls.{LeaseTable, StandsFor}
use Rattle.export_table.specs.Table.{ExportTable}
use Rattle.export_table.specs.Waits.{still_waiting}
use Rattle.space.specs.declared.journal_text.Counts.{Counts}
use Rattle.space.specs.declared.runs.Run.{Run}
use Rattle.space.specs.Built.{SpaceHistory}
use Rattle.space.specs.Kept.{HasDurations, live_calls, Keeps}
use Rattle.space.specs.Summary.{counts_text}
use Rattle.export_table.specs.StandsForHistory.{reference_of, end_of, row_of}
use Rattle.space.proofs.LiveLaws.{left-live}
use Rattle.space.proofs.RowLaws.{pairs-counted-live}
use Rattle.export_table.proofs.StandLaws.{awaiting-counted}
use Rattle.history.proofs.NamedLaws.{by-events}

-- ---- counts

rows-counted : (lease t : ℕ) (calls : List Call) → length (lease_rows lease t calls) ≡ length (clients_with_time_left lease t calls)
unfolding lease_rows
rows-counted lease t calls = length-map (clients_with_time_left lease t calls) (λ c. record { client = c; until = lease_end lease (calls_of c calls) })

-- How many entries the tables of a history have.
abbrev counted : SpaceConfig → History → Counts
counted config h = record {
  objects = length (table config h);
  clients = length (clients_with_time_left config.lease_ms (now h) (lease_calls h));
  pairs = length (pairs_with config.lease_ms (now h) (lease_calls h) (ids (table config h)));
  awaiting = length (awaiting_references config.ack_ms (now h) h);
  names = length (names h);
  withdrawn = length (withdrawals config h);
}

six : (a b c d e f a' b' c' d' e' f' : ℕ) → a ≡ a' → b ≡ b' → c ≡ c' → d ≡ d' → e ≡ e' → f ≡ f' →
    ◌≡◌ {A = Counts} (record { objects = a; clients = b; pairs = c; awaiting = d; names = e; withdrawn = f }) (record { objects = a'; clients = b'; pairs = c'; awaiting = d'; names = e'; withdrawn = f' })
six a b c d e f a' b' c' d' e' f' p q r s t u = cc

summary-is : (config : SpaceConfig) (events : List Event) → summary config events ≡ events_line (places config events) ++ counts_text (counted config (places config events))
unfolding summary
summary-is config events = refl

-- THE COUNTS of what is kept.
counts-are : (config : SpaceConfig) (events : List Event) (leases : LeaseTable) (exports : ExportTable) (runs : List Run) (withdrawn : List Withdrawal) (reported opened used moment : ℕ) → Keeps config events leases exports runs withdrawn reported opened used moment →
    (clients pairs_left bound : ℕ) → clients ≡ length (lease_rows config.lease_ms moment (live_calls (table config (places config events)) (lease_calls (places config events)))) →
    pairs_left ≡ length (pairs config.lease_ms moment (live_calls (table config (places config events)) (lease_calls (places config events)))) →
    bound ≡ length (names (places config events)) →
    ◌≡◌ {A = Counts} (record { objects = length exports.rows; clients = clients; pairs = pairs_left; awaiting = length (still_waiting moment exports.waits); names = bound; withdrawn = length withdrawn })
    (counted config (places config events))
counts-are config events leases exports runs withdrawn reported opened used moment k clients pairs_left bound c p n =
    let h = places config events in let live = live_calls (table config (places config events)) (lease_calls (places config events)) in
    six (length exports.rows) clients pairs_left (length (still_waiting moment exports.waits)) bound (length withdrawn)
    (length (table config h)) (length (clients_with_time_left config.lease_ms (now h) (lease_calls h))) (length (pairs_with config.lease_ms (now h) (lease_calls h) (ids (table config h))))
    (length (awaiting_references config.ack_ms (now h) h)) (length (names h)) (length (withdrawals config h))
    (ap length k.stands.rows_are ∙ length-map (table config h) (row_of h))
    (c ∙ rows-counted config.lease_ms moment live ∙ ap length (left-live (table config h) config.lease_ms moment (lease_calls h))
    ∙ ap (λ t. length (clients_with_time_left config.lease_ms t (lease_calls h))) k.stands.moment_is)
    (p ∙ sym (pairs-counted-live config events moment) ∙ ap (λ t. length (pairs_with config.lease_ms t (lease_calls h) (ids (table config h)))) k.stands.moment_is)
    (sym (awaiting-counted reference_of end_of config.ack_ms moment moment h exports.waits (omega arith) k.stands.waits_stand) ∙ ap (λ t. length (awaiting_references config.ack_ms t h)) k.stands.moment_is)
    n
    (ap length k.stands.withdrawn_are)

events-are : (config : SpaceConfig) (events : List Event) (used moment : ℕ) → used ≡ units (places config events) → moment ≡ now (places config events) → events_text (length events) used moment ≡ events_line (places config events)
events-are config events used moment u m =
    ap (λ (n : ℕ). events_text n used moment) (sym (length-places config events)) ∙ ap (λ (n : ℕ). events_text (length (places config events)) n moment) u
    ∙ ap (λ (n : ℕ). events_text (length (places config events)) (units (places config events)) n) m

max_same : (m : ℕ) → max m m ≡ m
max_same m = omega arith

-- ---- what was written

pub summarized : {shown : List Exported} (config : SpaceConfig) (events : List Event) (leases : LeaseTable) (exports : ExportTable) (runs : List Run) (withdrawn : List Withdrawal) (reported opened used moment : ℕ) (rows : List LeaseRow) (counts : Counts) (start first second : List ℕ) (s : SpaceHistory) →
    record { configuration = config; events = events; rows = shown } ≡ s → Keeps config events leases exports runs withdrawn reported opened used moment →
    ((lease m : ℕ) (calls : List Call) → StandsFor lease leases m calls → rows ≡ lease_rows lease (max moment m) calls) →
    ((lease m : ℕ) (calls : List Call) → StandsFor lease leases m calls → counts.pairs ≡ length (pairs lease (max moment m) calls)) →
    counts.objects ≡ length exports.rows → counts.clients ≡ length rows → counts.awaiting ≡ length (still_waiting moment exports.waits) → counts.names ≡ length (names (places config events)) → counts.withdrawn ≡ length withdrawn →
    start ≡ [] → first ≡ start ++ events_text (length events) used moment → second ≡ first ++ counts_text counts →
    second ≡ summary s.configuration s.events
summarized config events leases exports runs withdrawn reported opened used moment rows counts start first second s v k of_rows of_pairs o c a n w empty one two =
    let live = live_calls (table config (places config events)) (lease_calls (places config events)) in
    let same = max_same moment in
    let P : SpaceHistory → Type 0 = λ x. second ≡ summary x.configuration x.events in
    let clients = c ∙ ap length (of_rows config.lease_ms moment live k.stands.leases_stand ∙ ap (λ (t : ℕ). lease_rows config.lease_ms t live) same) in
    let pairs_left = of_pairs config.lease_ms moment live k.stands.leases_stand ∙ ap (λ (t : ℕ). length (pairs config.lease_ms t live)) same in
    let all = six counts.objects counts.clients counts.pairs counts.awaiting counts.names counts.withdrawn (length exports.rows) counts.clients counts.pairs (length (still_waiting moment exports.waits)) counts.names (length withdrawn) o refl refl a refl w
    ∙ counts-are config events leases exports runs withdrawn reported opened used moment k counts.clients counts.pairs counts.names clients pairs_left n in
    subst P v (
    two ∙ ap (λ (x : Counts). first ++ counts_text x) all
    ∙ ap (λ (t : List ℕ). t ++ counts_text (counted config (places config events)))
    (one ∙ ap (λ (t : List ℕ). t ++ events_text (length events) used moment) empty ∙ events-are config events used moment k.stands.used_is k.stands.moment_is)
    ∙ sym (summary-is config events))

pub journalled : {shown : List Exported} (config : SpaceConfig) (events : List Event) (start first second : List ℕ) (s : SpaceHistory) → record { configuration = config; events = events; rows = shown } ≡ s →
    start ≡ [] → first ≡ start ++ with_line_end (config_text config) → second ≡ first ++ flat_map (event_line config.uid) events → second ≡ journal_text s.configuration s.events
unfolding journal_text
journalled config events start first second s v empty one two =
    let P : SpaceHistory → Type 0 = λ x. second ≡ journal_text x.configuration x.events in
    subst P v (two ∙ ap (λ (t : List ℕ). t ++ flat_map (event_line config.uid) events) (one ∙ ap (λ (t : List ℕ). t ++ with_line_end (config_text config)) empty))

-- No event of a history is of a later moment than its greatest.
moments-early : (config : SpaceConfig) (events : List Event) → now (places config events) < END_OF_TIME → AllByRecursion (λ e. e.moment < END_OF_TIME) events
moments-early config = by-events (λ events. now (places config events) < END_OF_TIME → AllByRecursion (λ e. e.moment < END_OF_TIME) events) (λ early. tt) more
  where
    last : (es : List Event) (e : Event) → AllByRecursion (λ x. x.moment < END_OF_TIME) es → e.moment < END_OF_TIME → AllByRecursion (λ x. x.moment < END_OF_TIME) (es ++ e ∷ [])
    last [] e all one = (one, tt)
    last (x ∷ es) e all one = (all.0, last es e all.1 one)

    more : (events : List Event) (e : Event) → (now (places config events) < END_OF_TIME → AllByRecursion (λ x. x.moment < END_OF_TIME) events) →
        now (places config (events ++ e ∷ [])) < END_OF_TIME → AllByRecursion (λ x. x.moment < END_OF_TIME) (events ++ e ∷ [])
    more events e rest early =
        let time : now (places config (events ++ e ∷ [])) ≡ max e.moment (now (places config events)) = ap now (places-push config events e) ∙ now-push config (places config events) e in
        last events e (rest (omega (arith, time, early))) (omega (arith, time, early))

-- The numbers of its events are within their ranges, where their moments bound them.
pub events-fit : (config : SpaceConfig) (events : List Event) (moment : ℕ) → moment ≡ now (places config events) → moment < END_OF_TIME
    → AllByRecursion (λ e. e.moment < END_OF_TIME → EventFits e) events → AllByRecursion EventFits events
events-fit config events moment is early fit = both events (moments-early config events (omega (arith, is, early))) fit
  where
    both : (es : List Event) → AllByRecursion (λ e. e.moment < END_OF_TIME) es → AllByRecursion (λ e. e.moment < END_OF_TIME → EventFits e) es → AllByRecursion EventFits es
    both [] moments all = tt
    both (e ∷ es) moments all = (all.0 moments.0, both es moments.1 all.1)

-- It is the journal of the configuration and the events.
pub journal_spelled : {shown : List Exported} (config : SpaceConfig) (events : List Event) (text : List ℕ) (s : SpaceHistory) → record { configuration = config; events = events; rows = shown } ≡ s → HasDurations config
    → (ConfigFits config → SpellsConfig config (config_text config)) → AllByRecursion EventFits events → text ≡ journal_text s.configuration s.events
    → s.configuration.stored ≡ true → s.configuration.uid.count ≡ pos 0 → JournalText text s.configuration s.events
journal_spelled config events text s v durations spells fit is =
    let P : SpaceHistory → Type 0 = λ x. text ≡ journal_text x.configuration x.events → x.configuration.stored ≡ true → x.configuration.uid.count ≡ pos 0 → JournalText text x.configuration x.events in
    subst P v of_config is
  where
    of_config : text ≡ journal_text config events → config.stored ≡ true → config.uid.count ≡ pos 0 → JournalText text config events
    of_config same stored count =
        let first = spells (record { some_lease = durations.some_lease; short_lease = durations.short_lease; some_ack = durations.some_ack; short_ack = durations.short_ack; count = count; stored = stored }) in
        let Q : List ℕ → Type 0 = λ t. JournalText t config events in
        subst Q (sym same) (journal_after config events first fit)
