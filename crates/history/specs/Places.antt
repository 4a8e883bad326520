-- The places of a history. A history is written as a list of its places with the newest first, so that what follows a `∷` is the
-- history before that place. What a place says of its event is decided by the history before it. Each definition over a history says
-- what it is of the empty one, and what the newest place makes of it.
use Rattle.std.specs.Prelude.{ℕ, ◌+◌, max, Bool, List, [], ◌∷◌, ◌++◌, length, find, pos, option_map, unwrap_or}
use Rattle.std.specs.List.{list_any}
use Rattle.object_ids.specs.declared.ids.Uid.{Uid}
use Rattle.object_ids.specs.declared.ids.ObjId.{ObjId}
use Rattle.object_ids.specs.Same.{same_id}
use Rattle.history.specs.declared.places.Place.{Place}
use Rattle.history.specs.declared.places.Exported.{Exported}

-- A history.
abbrev pub History : Type 0
History = List Place

-- The object is among these.
abbrev pub has : List Exported → ObjId → Bool
has objects o = list_any (λ x. same_id x.id o) objects

-- The object's kind among these.
abbrev pub kind_of : List Exported → ObjId → ℕ
kind_of objects o = unwrap_or (option_map (λ x. x.kind) (find (λ x. same_id x.id o) objects)) 0

-- The greatest moment of a history, 0 if it is empty.
unfoldable pub now : History → ℕ
now [] = 0
now (p ∷ before) = max p.event.moment (now before)

-- All objects that were ever exported, in order.
unfoldable pub ever_exported : History → List Exported
ever_exported [] = []
ever_exported (p ∷ before) = ever_exported before ++ p.exported_here

-- How many objects were ever exported. The next one gets this number, counted from 0.
unfoldable pub exported_count : History → ℕ
exported_count [] = 0
exported_count (p ∷ before) = exported_count before + length p.exported_here

-- The identifier of the k-th object, from 0, that a space exports. The numbers from 0 to 15 are known to all.
abbrev pub id_at : Uid → ℕ → ObjId
id_at space k = record { number = pos (16 + k); space = space }

-- Objects of these kinds, the first of them as the space's k-th.
abbrev pub exported_from : Uid → ℕ → Bool → List ℕ → List Exported
exported_from space k pinned [] = []
exported_from space k pinned (kind ∷ kinds) = record { id = id_at space k; kind = kind; pinned = pinned } ∷ exported_from space (k + 1) pinned kinds
