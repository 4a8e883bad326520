-- Lists of events, turn by turn, and the exported objects with their kinds.
use Rattle.std.proofs.Common.{◌≡◌, ℕ, List, [], ◌∷◌, ◌++◌, map, Option, Some, None, Result, Ok, refl, ap, sym, subst, ◌∙◌, inl, inr, cond, append_assoc}
use Rattle.std.specs.Prelude.{Bool, true, false, find, option_map}
use Rattle.std.proofs.lemmas.List.{map-append}
use Rattle.object_ids.specs.declared.ids.ObjId.{ObjId}
use Rattle.object_ids.specs.Same.{same_id}
use Rattle.history.specs.declared.asks.SpaceConfig.{SpaceConfig}
use Rattle.history.specs.declared.asks.Event.{Event}
use Rattle.history.specs.declared.places.Exported.{Exported}
use Rattle.history.specs.declared.replies.Refused.{Refused}
use Rattle.history.specs.declared.replies.Turn.{Turn}
use Rattle.history.specs.Collector.{Collects}
use Rattle.history.specs.Limits.{limits, refusal}
use Rattle.history.specs.Steps.{answer_with, history_with, Step, Steps}
use Rattle.history.specs.Table.{places, table}
use Rattle.history.specs.Places.{History}
use Rattle.history.proofs.StepLaws.{Steps-append}
use Rattle.export_table.specs.declared.rows.Export.{Export}
use Rattle.export_table.specs.declared.rows.ExportRow.{ExportRow}
use Rattle.export_table.specs.declared.waits.Wait.{Wait}
use Rattle.export_table.specs.ExportRows.{kind_of, row_at}
use Rattle.space.specs.declared.lists.ObjectKind.{ObjectKind}
use Rattle.space.specs.Built.{SpaceHistory, exported_row, exported_rows}
use Rattle.space.specs.EventLists.{Takes, CollectsEach, kind_among, with_kind, row_kind}
use Rattle.export_table.specs.StandsForHistory.{rows_of}

-- ---- one event

-- An event that has a turn stands at the end of the history then.
pub taken-after : (config : SpaceConfig) (h h2 : List Event) (e : Event) (turn : Turn) → Step config h e (Ok turn) h2 → h2 ≡ h ++ e ∷ []
taken-after config h h2 e turn (inl p) = go (refusal (limits config) config (places config h) e) p.0 p.1
  where
    go : (r : Option Refused) → Ok turn ≡ answer_with config h e r → h2 ≡ history_with h e r → h2 ≡ h ++ e ∷ []
    go None a b = b
    go (Some refused) a b = absurd (cc)
taken-after config h h2 e turn (inr q) = absurd (cc)

-- ---- a list of events

-- One more event is taken at the end, and the table collects.
collects-next : (config : SpaceConfig) (h : List Event) (rows : List Exported) (front : List Event) (e : Event) (h2 h3 : List Event) (rows2 rows3 : List Exported) →
    CollectsEach config h rows front h2 rows2 → Collects config h2 rows2 e h3 rows3 → CollectsEach config h rows (front ++ e ∷ []) h3 rows3
collects-next config h rows [] e h2 h3 rows2 rows3 each c =
    let P : List Event → Type 0 = λ g. Collects config g rows2 e h3 rows3 in
    let Q : List Exported → Type 0 = λ l. Collects config h l e h3 rows3 in
    (h3, rows3, subst Q each.1 (subst P each.0 c), (refl, refl))
collects-next config h rows (d ∷ front) e h2 h3 rows2 rows3 each c = (each.0, each.1, each.2, collects-next config each.0 each.1 front e h2 h3 rows2 rows3 each.3 c)

-- Of these events a front is taken so far, which leaves the rows rows2, and these are left.
pub record HasTaken (config : SpaceConfig) (h : List Event) (rows : List Exported) (events : List Event) (turns : List Turn) (left h2 : List Event) (rows2 : List Exported) : Type 0 where
  pub front : List Event
  pub events_are : events ≡ front ++ left
  pub taken : Takes config h front turns h2
  pub collected : CollectsEach config h rows front h2 rows2

one-more : (config : SpaceConfig) (h : List Event) (rows : List Exported) (events : List Event) (turns : List Turn) (e : Event) (left h2 h3 : List Event) (rows2 rows3 : List Exported) (turn : Turn) →
    HasTaken config h rows events turns (e ∷ left) h2 rows2 → Step config h2 e (Ok turn) h3 → Collects config h2 rows2 e h3 rows3 → HasTaken config h rows events (turns ++ turn ∷ []) left h3 rows3
one-more config h rows events turns e left h2 h3 rows2 rows3 turn t s c = record {
  front = t.front ++ e ∷ [];
  events_are = t.events_are ∙ sym (append_assoc t.front (e ∷ []) left);
  taken = record {
    steps = let P : List (Result Turn Refused) → Type 0 = λ given. Steps config h (t.front ++ e ∷ []) given h3 in
        subst P (sym (map-append Ok turns (turn ∷ [])))
        (Steps-append config h t.front (e ∷ []) (map Ok turns) (Ok turn ∷ []) h2 h3 t.taken.steps (h3, s, refl));
    after = taken-after config h2 h3 e turn s ∙ ap (λ g. g ++ e ∷ []) t.taken.after ∙ append_assoc h t.front (e ∷ []);
  };
  collected = collects-next config h rows t.front e h2 h3 rows2 rows3 t.collected c;
}

-- The same where these are known by equations.
pub takes-next : (config k : SpaceConfig) (h : List Event) (rows : List Exported) (events : List Event) (turns turns2 : List Turn) (e : Event) (all left h2 h3 : List Event) (rows2 rows3 : List Exported) (turn : Turn) →
    k ≡ config → all ≡ e ∷ left → turns2 ≡ turns ++ turn ∷ [] → HasTaken config h rows events turns all h2 rows2 → Step k h2 e (Ok turn) h3 → Collects k h2 rows2 e h3 rows3 → HasTaken config h rows events turns2 left h3 rows3
takes-next config k h rows events turns turns2 e all left h2 h3 rows2 rows3 turn same first after t s c =
    let P : List Turn → Type 0 = λ ts. HasTaken config h rows events ts left h3 rows3 in
    let Q : List Event → Type 0 = λ es. HasTaken config h rows events turns es h2 rows2 in
    let R : SpaceConfig → Type 0 = λ x. Step x h2 e (Ok turn) h3 in
    let S : SpaceConfig → Type 0 = λ x. Collects x h2 rows2 e h3 rows3 in
    subst P (sym after) (one-more config h rows events turns e left h2 h3 rows2 rows3 turn (subst Q first t) (subst R same s) (subst S same c))

-- ---- exported objects

-- An object's kind, by the rows that contracts see.
kind-shown : (rows : List Export) (o : ObjId) → kind_of rows o ≡ kind_among (exported_rows rows) o
kind-shown [] o = refl
kind-shown (x ∷ rows) o = go (same_id x.id o) (kind-shown rows o)
  where
    go : (b : Bool) → kind_of rows o ≡ kind_among (exported_rows rows) o
        → option_map (λ (y : Export). y.kind) (cond b (Some x) (find (λ (y : Export). same_id y.id o) rows))
        ≡ option_map (λ (y : Exported). y.kind) (cond b (Some (exported_row x)) (find (λ (y : Exported). same_id y.id o) (exported_rows rows)))
    go true e = refl
    go false e = e

-- The objects with their kinds, by the rows that contracts see.
kinds-shown : (now : ℕ) (waits : List Wait) (rows : List Export) → map row_kind (map (row_at now waits) rows) ≡ map with_kind (exported_rows rows)
kinds-shown now waits [] = refl
kinds-shown now waits (x ∷ rows) = ap (λ l. with_kind (exported_row x) ∷ l) (kinds-shown now waits rows)

-- What an export table tells of its objects.
pub kind-reported : {config : SpaceConfig} {events : List Event} (rows : List Export) (o : ObjId) (kind : Option ℕ) (s : SpaceHistory)
    → record { configuration = config; events = events; rows = exported_rows rows } ≡ s → kind ≡ kind_of rows o → kind ≡ kind_among s.rows o
kind-reported rows o kind s viewed reported = reported ∙ kind-shown rows o ∙ ap (λ (x : SpaceHistory). kind_among x.rows o) viewed

pub kinds-reported : {config : SpaceConfig} {events : List Event} (rows : List Export) (now : ℕ) (waits : List Wait) (listed : List ExportRow) (objects : List ObjectKind) (s : SpaceHistory)
    → record { configuration = config; events = events; rows = exported_rows rows } ≡ s
    → listed ≡ map (row_at now waits) rows → objects ≡ map row_kind listed → objects ≡ map with_kind s.rows
kinds-reported rows now waits listed objects s viewed rows-are reported =
    reported ∙ ap (map row_kind) rows-are ∙ kinds-shown now waits rows ∙ ap (λ (x : SpaceHistory). map with_kind x.rows) viewed

-- ---- the rows of the history's table

shown-rows : (h : History) (objects : List Exported) → exported_rows (rows_of h objects) ≡ objects
shown-rows h [] = refl
shown-rows h (x ∷ objects) = ap (λ l. x ∷ l) (shown-rows h objects)

-- The rows of an export table that stands for a history are those of the history's table.
pub rows-shown : (config : SpaceConfig) (events : List Event) (rows : List Export) → rows ≡ rows_of (places config events) (table config (places config events)) → exported_rows rows ≡ table config (places config events)
rows-shown config events rows is = ap exported_rows is ∙ shown-rows (places config events) (table config (places config events))

-- So are those of the space that contracts see.
pub rows-viewed : (config : SpaceConfig) (events : List Event) (rows : List Export) (s : SpaceHistory) → record { configuration = config; events = events; rows = exported_rows rows } ≡ s
    → rows ≡ rows_of (places config events) (table config (places config events)) → s.rows ≡ table s.configuration (places s.configuration s.events)
rows-viewed config events rows s v is = let P : SpaceHistory → Type 0 = λ x. x.rows ≡ table x.configuration (places x.configuration x.events) in subst P v (rows-shown config events rows is)
