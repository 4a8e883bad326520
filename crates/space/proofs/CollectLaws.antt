-- What the collector keeps and withdraws at each event that is taken.
use Rattle.std.proofs.Common.{◌≡◌, List, [], ◌∷◌, ◌++◌, length, map, take, suc, refl, ap, sym, subst, ◌∙◌, Ok, append_assoc, append-nil}
use Rattle.std.proofs.Math.Seq.{take-append_seam}
use Rattle.history.specs.declared.asks.SpaceConfig.{SpaceConfig}
use Rattle.history.specs.declared.asks.Event.{Event}
use Rattle.history.specs.declared.places.Exported.{Exported}
use Rattle.history.specs.declared.replies.Turn.{Turn}
use Rattle.history.specs.Collector.{rows_after_each, Collects, TableCollects}
use Rattle.history.specs.Steps.{Step, Steps}
use Rattle.history.specs.Table.{places, table, with_event}
use Rattle.history.proofs.CollectorLaws.{collects-after}
use Rattle.history.proofs.TableLaws.{places-none, table-none}
use Rattle.export_table.specs.declared.rows.Export.{Export}
use Rattle.export_table.specs.StandsForHistory.{rows_of}
use Rattle.space.specs.Built.{SpaceHistory, space_of, exported_rows}
use Rattle.space.specs.EventLists.{CollectsEach}
use Rattle.space.proofs.ListLaws.{HasTaken, taken-after, rows-shown}

-- One that was taken.
pub taken-collects : (config : SpaceConfig) (h h2 : List Event) (e : Event) (turn : Turn) → Step config h e (Ok turn) h2 → TableCollects config h e h2
taken-collects config h h2 e turn s = collects-after config h e h2 (taken-after config h h2 e turn s)

-- A space that has the rows of its history's table is the one of its events.
pub space-shown : (s : SpaceHistory) → s.rows ≡ table s.configuration (places s.configuration s.events) → s ≡ space_of s.configuration s.events
space-shown s shown = ap (λ (l : List Exported). record s { rows = l }) shown

-- One that stands at the end, of the space that contracts see, by the rows of its export table before and after.
pub appended-collects : (config config2 : SpaceConfig) (events events2 : List Event) (rows rows2 : List Export) (e : Event) (s : SpaceHistory) → record { configuration = config; events = events; rows = exported_rows rows } ≡ s →
    rows ≡ rows_of (places config events) (table config (places config events)) → rows2 ≡ rows_of (places config2 events2) (table config2 (places config2 events2)) → config2 ≡ config → events2 ≡ events ++ e ∷ [] →
    Collects s.configuration s.events s.rows e events2 (exported_rows rows2)
appended-collects config config2 events events2 rows rows2 e s v is is2 same a =
    let P : SpaceHistory → Type 0 = λ x. Collects x.configuration x.events x.rows e events2 (exported_rows rows2) in
    let Q : List Exported → Type 0 = λ l. Collects config events l e events2 (exported_rows rows2) in
    let R : List Exported → Type 0 = λ l. Collects config events (table config (places config events)) e events2 l in
    let K : SpaceConfig → Type 0 = λ k. exported_rows rows2 ≡ table k (places k events2) in
    subst P v (subst Q (sym (rows-shown config events rows is)) (subst R (sym (subst K same (rows-shown config2 events2 rows2 is2))) (collects-after config events e events2 a)))

-- The rows after each of some events.
each-rows : (config : SpaceConfig) (h : List Event) (rows : List Exported) (events last : List Event) (last_rows : List Exported) → CollectsEach config h rows events last last_rows → last_rows ≡ rows_after_each config h rows events
each-rows config h rows [] last last_rows each = each.1
each-rows config h rows (e ∷ events) last last_rows each =
    each-rows config each.0 each.1 events last last_rows each.3 ∙ ap (λ g. rows_after_each config g each.1 events) each.2.after ∙ ap (λ l. rows_after_each config (with_event h e) l events) each.2.stays

-- A list of events, of a table that has the rows of the history's table before and after.
pub collects-from : (config : SpaceConfig) (h events : List Event) → CollectsEach config h (table config (places config h)) events (h ++ events) (table config (places config (h ++ events)))
collects-from config h [] = (append-nil h, ap (λ g. table config (places config g)) (append-nil h))
collects-from config h (e ∷ events) =
    let P : List Event → Type 0 = λ g. CollectsEach config (h ++ e ∷ []) (table config (places config (h ++ e ∷ []))) events g (table config (places config g)) in
    (h ++ e ∷ [], table config (places config (h ++ e ∷ [])), collects-after config h e (h ++ e ∷ []) refl, subst P (append_assoc h (e ∷ []) events) (collects-from config (h ++ e ∷ []) events))

-- All events of a history, from no events and no rows on.
pub collects-all : (config : SpaceConfig) (events : List Event) (rows : List Exported) → rows ≡ table config (places config events) → CollectsEach config [] [] events events rows
collects-all config events rows is =
    let P : List Exported → Type 0 = λ l. CollectsEach config [] l events events (table config (places config events)) in
    let Q : List Exported → Type 0 = λ l. CollectsEach config [] [] events events l in
    subst Q (sym is) (subst P (ap (table config) (places-none config) ∙ table-none config) (collects-from config [] events))

as-many : (config : SpaceConfig) (h events : List Event) (turns : List Turn) (h2 : List Event) → Steps config h events (map Ok turns) h2 → length turns ≡ length events
as-many config h [] [] h2 s = refl
as-many config h (e ∷ events) (t ∷ turns) h2 s = ap suc (as-many config s.0 events turns h2 s.2)
as-many config h [] (t ∷ turns) h2 s = absurd s
as-many config h (e ∷ events) [] h2 s = absurd s

-- A front that was taken.
pub front-collects : (config : SpaceConfig) (h : List Event) (rows : List Exported) (events : List Event) (turns : List Turn) (left h2 : List Event) (rows2 : List Exported) →
    HasTaken config h rows events turns left h2 rows2 → CollectsEach config h rows (take (length turns) events) h2 rows2
front-collects config h rows events turns left h2 rows2 t =
    let P : List Event → Type 0 = λ es. CollectsEach config h rows es h2 rows2 in
    subst P (sym (ap (λ n. take n events) (as-many config h t.front turns h2 t.taken.steps) ∙ ap (take (length t.front)) t.events_are ∙ take-append_seam t.front left)) t.collected

pub front-rows : (config : SpaceConfig) (h : List Event) (rows : List Exported) (events : List Event) (turns : List Turn) (left h2 : List Event) (rows2 : List Exported) →
    HasTaken config h rows events turns left h2 rows2 → rows2 ≡ rows_after_each config h rows (take (length turns) events)
front-rows config h rows events turns left h2 rows2 t = each-rows config h rows (take (length turns) events) h2 rows2 (front-collects config h rows events turns left h2 rows2 t)
