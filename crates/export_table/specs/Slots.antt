-- Slots of exported objects, by rising number: each has a row, and where an object went a gap stays.
use Rattle.std.specs.Prelude.{◌≡◌, ◌⊎◌, ℕ, pos, ◌+◌, ◌<◌, Bool, true, false, not, ◌&&◌, IsTrue, List, [], ◌∷◌, map, length, filter, int_lt, get_or, if◌then◌else◌}
use Rattle.std.specs.List.{list_any, list_all}
use Rattle.object_ids.specs.declared.ids.ObjId.{ObjId}
use Rattle.export_table.specs.declared.rows.Export.{Export}
use Rattle.export_table.specs.declared.slots.Slot.{Slot}
use Rattle.export_table.specs.declared.slots.Standing.{Standing}
use Rattle.export_table.specs.declared.slots.Standing.TheVariants.{Here, Leaving, Gap}
use Rattle.export_table.specs.ExportRows.{is_of, ids, is_rising}

-- ---- how a slot stands

abbrev pub stands_here : Standing → Bool
stands_here Here = true
stands_here Leaving = false
stands_here Gap = false

abbrev pub stands_leaving : Standing → Bool
stands_leaving Here = false
stands_leaving Leaving = true
stands_leaving Gap = false

abbrev pub stands_empty : Standing → Bool
stands_empty Here = false
stands_empty Leaving = false
stands_empty Gap = true

-- Its object is exported.
abbrev pub is_here : Slot → Bool
is_here s = stands_here s.standing

-- Its object is about to go.
abbrev pub is_leaving : Slot → Bool
is_leaving s = stands_leaving s.standing

-- Its object went.
abbrev pub is_gap : Slot → Bool
is_gap s = stands_empty s.standing

-- ---- the rows of slots

-- Those of all, gaps included.
abbrev pub all_rows : List Slot → List Export
all_rows slots = map (λ s. s.row) slots

abbrev pub rows_here : List Slot → List Export
rows_here slots = map (λ s. s.row) (filter is_here slots)

abbrev pub rows_leaving : List Slot → List Export
rows_leaving slots = map (λ s. s.row) (filter is_leaving slots)

-- ---- changes

-- A slot for a row.
abbrev pub slot_of : Export → Slot
slot_of x = record { row = x; standing = Here }

-- The slot with a change to its row, if it is the object's.
abbrev pub with_slot_changed : (Export → Export) → ObjId → Slot → Slot
with_slot_changed f o s = if is_of o s.row then record s { row = f s.row } else s

-- Its object is about to go.
abbrev pub as_leaving : Slot → Slot
as_leaving s = record s { standing = Leaving }

-- Its object is about to go, unless the row is to stay.
abbrev pub as_marked : (Export → Bool) → Slot → Slot
as_marked keeps s = if is_here s && not (keeps s.row) then as_leaving s else s

-- The slot once its object went, if it was about to.
abbrev pub as_swept : Slot → Slot
as_swept s = if is_leaving s then record s { standing = Gap } else s

-- An exported object has the slot at this place.
pub record IsSlotOf (slots : List Slot) (o : ObjId) (i : ℕ) : Type 0 where
  pub within : i < length slots
  pub its : (d : Slot) → is_of o (get_or slots i d).row ≡ true
  pub stands : (d : Slot) → is_here (get_or slots i d) ≡ true

-- In the second list some objects are about to go that were exported in the first one, and nothing else differs.
abbrev pub AreMarked : List Slot → List Slot → Type 0
AreMarked [] after = after ≡ []
AreMarked (s ∷ before) after = (t : Slot) × (rest : List Slot) × (after ≡ t ∷ rest) × ((t ≡ s) ⊎ ((is_here s ≡ true) × (t ≡ as_leaving s))) × AreMarked before rest

-- None of these is about to go.
abbrev pub none_leaving : List Slot → Type 0
none_leaving slots = list_any is_leaving slots ≡ false

-- ---- the table of the rows

-- The exported objects by rising number, how many were ever added, and how many more can be without memory.
pub record RowsHeld : Type 0 where
  pub rows : List Export
  pub added : ℕ
  pub room : ℕ

-- The numbers rise, gaps included, and are below the next one's; none is about to go, and so many are gaps.
pub record AreSlots (slots : List Slot) (added gaps : ℕ) : Type 0 where
  pub rising : IsTrue (is_rising (ids (all_rows slots)))
  pub given : IsTrue (list_all (λ o. int_lt o.number (pos (16 + added))) (ids (all_rows slots)))
  pub settled : none_leaving slots
  pub counted : length (filter is_gap slots) ≡ gaps
