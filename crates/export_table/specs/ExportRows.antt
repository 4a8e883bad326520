-- Exported objects, by rising number.
use Rattle.std.specs.Prelude.{◌≡◌, ◌⊎◌, ℕ, pos, ◌+◌, ◌-◌, Bool, true, not, ◌&&◌, ◌||◌, List, [], ◌∷◌, map, length, filter, find, nat_lt, int_lt, Option, Some, None, option_map, unwrap_or, if◌then◌else◌}
use Rattle.std.specs.List.{list_any, list_all}
use Rattle.object_ids.specs.declared.ids.Uid.{Uid}
use Rattle.object_ids.specs.declared.ids.ObjId.{ObjId}
use Rattle.object_ids.specs.Same.{same_id, same_uid}
use Rattle.history.specs.declared.calls.Call.{Call}
use Rattle.history.specs.Leases.{is_held}
use Rattle.export_table.specs.declared.rows.Export.{Export}
use Rattle.export_table.specs.declared.rows.ExportRow.{ExportRow}
use Rattle.export_table.specs.declared.waits.Wait.{Wait}
use Rattle.export_table.specs.Waits.{is_awaited, awaiting_of}

abbrev pub is_of : ObjId → Export → Bool
is_of o x = same_id x.id o

-- ---- one object of a list

abbrev pub row_of : List Export → ObjId → Option Export
row_of rows o = find (is_of o) rows

abbrev pub is_exported : List Export → ObjId → Bool
is_exported rows o = list_any (is_of o) rows

-- The kind of an object.
abbrev pub kind_of : List Export → ObjId → Option ℕ
kind_of rows o = option_map (λ x. x.kind) (row_of rows o)

-- How many calls of an object run, 0 where it isn't exported.
abbrev pub running_of : List Export → ObjId → ℕ
running_of rows o = unwrap_or (option_map (λ x. x.running) (row_of rows o)) 0

-- How many pins of an object stand, 0 where it isn't exported.
abbrev pub pins_of : List Export → ObjId → ℕ
pins_of rows o = unwrap_or (option_map (λ x. x.pins) (row_of rows o)) 0

abbrev pub ids : List Export → List ObjId
ids rows = map (λ x. x.id) rows

-- ---- changes

-- An object as it is added.
abbrev pub new_row : ObjId → ℕ → Bool → Export
new_row o kind pinned = record { id = o; kind = kind; pinned = pinned; running = 0; pins = 0 }

-- The rows with a change to that of one object.
abbrev pub with_row_changed : (Export → Export) → ObjId → List Export → List Export
with_row_changed f o rows = map (λ x. if is_of o x then f x else x) rows

-- One more call of it runs.
abbrev pub with_call_begun : Export → Export
with_call_begun x = record x { running = x.running + 1 }

-- One call of it has ended.
abbrev pub with_call_ended : Export → Export
with_call_ended x = record x { running = x.running - 1 }

-- One more pin of it stands.
abbrev pub pinned_once : Export → Export
pinned_once x = record x { pins = x.pins + 1 }

-- One pin of it is taken off.
abbrev pub unpinned_once : Export → Export
unpinned_once x = record x { pins = x.pins - 1 }

-- The rows with a pin taken off this object, if there is one.
abbrev pub with_pin_removed : Option ObjId → List Export → List Export
with_pin_removed None rows = rows
with_pin_removed (Some o) rows = with_row_changed unpinned_once o rows

-- ---- what is kept

-- It was added pinned, a pin of it stands, or a call of it runs.
abbrev pub is_pinned : Export → Bool
is_pinned x = x.pinned || nat_lt 0 x.pins || nat_lt 0 x.running

-- It is kept at the moment t: it is pinned, a reference to it awaits, or it is held.
abbrev pub is_row_kept : ℕ → (ObjId → Bool) → List Wait → Export → Bool
is_row_kept t held waits x = is_pinned x || is_awaited t x.id waits || held x.id

-- Some client holds the object at the moment t.
abbrev pub held_by : ℕ → ℕ → List Call → ObjId → Bool
held_by lease t calls o = is_held lease t calls o

-- The objects that are not kept.
abbrev pub withdrawn_ids : ℕ → (ObjId → Bool) → List Wait → List Export → List ObjId
withdrawn_ids t held waits rows = ids (filter (λ x. not (is_row_kept t held waits x)) rows)

-- The object is among these.
abbrev pub is_among : List ObjId → Export → Bool
is_among os x = list_any (same_id x.id) os

-- Each object that is not kept is among these.
abbrev pub is_settled_but : List ObjId → ℕ → (ObjId → Bool) → List Wait → List Export → Bool
is_settled_but os t held waits rows = list_all (λ x. is_among os x || is_row_kept t held waits x) rows

-- A row stays where only these objects are looked at: it is not among them, or it is kept.
abbrev pub stays_among : List ObjId → ℕ → (ObjId → Bool) → List Wait → Export → Bool
stays_among os t held waits x = not (is_among os x) || is_row_kept t held waits x

-- ---- what a list shows

abbrev pub row_at : ℕ → List Wait → Export → ExportRow
row_at t waits x = record { id = x.id; kind = x.kind; pinned = x.pinned; running = x.running; awaiting = length (awaiting_of t x.id waits); pins = x.pins }

-- ---- the order of the rows

-- The numbers rise.
abbrev pub is_rising : List ObjId → Bool
is_rising [] = true
is_rising (o ∷ os) = list_all (λ p. int_lt o.number p.number) os && is_rising os

-- It is of this space, and its number is below that of the space's k-th object.
abbrev pub is_given : Uid → ℕ → ObjId → Bool
is_given space k o = same_uid o.space space && int_lt o.number (pos (16 + k))

-- The first list has some of the second's items, in their order.
abbrev pub IsPart : {X : Type 0} → List X → List X → Type 0
IsPart {X} xs [] = xs ≡ []
IsPart {X} xs (y ∷ ys) = IsPart xs ys ⊎ ((rest : List X) × (xs ≡ y ∷ rest) × IsPart rest ys)
