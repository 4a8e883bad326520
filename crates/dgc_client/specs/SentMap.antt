-- Dirty calls under way in the map in which they are found, and the objects that they ask for.
use Rattle.std.specs.Prelude.{◌≡◌, ◌<◌, ◌^◌, ℤ, Bool, false, List, [], ◌∷◌, map, find, int_le, Option, Some, None}
use Rattle.indexmap.specs.IndexMap.{IndexMap, get}
use Rattle.object_ids.specs.declared.ids.ObjId.{ObjId}
use Rattle.object_ids.specs.Same.{same_key}
use Rattle.dgc_client.specs.declared.sent_map.Sent.{Sent}
use Rattle.dgc_client.specs.Log.{Dirty, has_number}

abbrev pub dirty_at : ℤ → Sent → Dirty
dirty_at number s = record { number = number; objects = s.objects; moment = s.moment }

-- The dirty calls that entries show.
abbrev pub dirties_in : List (ℤ × Sent) → List Dirty
dirties_in es = map (λ (e : ℤ × Sent). dirty_at e.0 e.1) es

-- Under each number the two have the same dirty call, in whatever order.
abbrev pub SameByNumber : List Dirty → List Dirty → Type 0
SameByNumber xs ys = (n : ℤ) → find (has_number n) xs ≡ find (has_number n) ys

-- No number stands twice.
abbrev pub AreOnce : List Dirty → Type 0
AreOnce [] = Unit {0}
AreOnce (y ∷ ys) = (find (has_number y.number) ys ≡ None) × AreOnce ys

-- Each of them was sent before the moment 2^62.
abbrev pub AreEarly : List Dirty → Type 0
AreEarly xs = (n : ℤ) (y : Dirty) → find (has_number n) xs ≡ Some y → y.moment < 2 ^ 62

-- There is a number, and it is at least this one.
abbrev pub reaches : ℤ → Option ℤ → Bool
reaches since (Some n) = int_le since n
reaches since None = false

-- Some dirty call under way asks for the object, with a number of at least this one. Of each object the greatest number is noted.
abbrev pub is_asked : {S : Type 0} → IndexMap ObjId ℤ S → ObjId → ℤ → Bool
is_asked asked o since = reaches since (get same_key asked o)
