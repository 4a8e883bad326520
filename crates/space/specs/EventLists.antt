-- Lists of events, the one after the other, and the objects that they leave exported.
use Rattle.std.specs.Prelude.{◌≡◌, ℕ, List, [], ◌∷◌, ◌++◌, map, find, Option, Some, None, option_map, Ok, Err}
use Rattle.object_ids.specs.declared.ids.ObjId.{ObjId}
use Rattle.object_ids.specs.Same.{same_id}
use Rattle.history.specs.declared.asks.SpaceConfig.{SpaceConfig}
use Rattle.history.specs.declared.asks.Event.{Event}
use Rattle.history.specs.declared.places.Exported.{Exported}
use Rattle.history.specs.declared.replies.Refused.{Refused}
use Rattle.history.specs.declared.replies.Turn.{Turn}
use Rattle.history.specs.Collector.{Collects}
use Rattle.history.specs.Steps.{Step, Steps}
use Rattle.export_table.specs.declared.rows.ExportRow.{ExportRow}
use Rattle.space.specs.declared.lists.ObjectKind.{ObjectKind}

-- After the history h these events are taken, with these turns, and leave the history last.
pub record Takes (config : SpaceConfig) (h events : List Event) (turns : List Turn) (last : List Event) : Type 0 where
  pub steps : Steps config h events (map Ok turns) last
  pub after : last ≡ h ++ events

-- Why none of these events is taken after the history h: there is none, or the first of them is refused.
abbrev pub ListStops : SpaceConfig → List Event → List Event → Option Refused → Type 0
ListStops config h events None = events ≡ []
ListStops config h events (Some refused) = (e : Event) × (more : List Event) × (events ≡ e ∷ more) × Step config h e (Err refused) h

-- After the history h a front of these events is taken, with these turns, and leaves the history last; they are all the events, or the
-- next one is refused.
pub record TakesFront (config : SpaceConfig) (h events : List Event) (turns : List Turn) (refused : Option Refused) (last : List Event) : Type 0 where
  pub front : List Event
  pub rest : List Event
  pub events_are : events ≡ front ++ rest
  pub taken : Takes config h front turns last
  pub stops : ListStops config last rest refused

-- After the history h, with a table of these rows, these events are taken, the one after the other, and leave the history last and the rows
-- last_rows. At each of them the table keeps what there is a reason to keep, and the rest is withdrawn.
abbrev pub CollectsEach : SpaceConfig → List Event → List Exported → List Event → List Event → List Exported → Type 0
CollectsEach config h rows [] last last_rows = (last ≡ h) × (last_rows ≡ rows)
CollectsEach config h rows (e ∷ events) last last_rows =
    (next : List Event) × (next_rows : List Exported) × Collects config h rows e next next_rows × CollectsEach config next next_rows events last last_rows

-- The kind of an object, where it is among these.
abbrev pub kind_among : List Exported → ObjId → Option ℕ
kind_among objects o = option_map (λ x. x.kind) (find (λ x. same_id x.id o) objects)

-- An object with its kind alone.
abbrev pub with_kind : Exported → ObjectKind
with_kind x = record { id = x.id; kind = x.kind }

abbrev pub row_kind : ExportRow → ObjectKind
row_kind r = record { id = r.id; kind = r.kind }
