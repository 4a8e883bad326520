-- For how many of the objects that a call names there has to be room.
use Rattle.std.proofs.Common.{◌≡◌, ℕ, ◌+◌, ◌≤◌, ◌<◌, List, ◌∷◌, length, refl, ap, sym, ◌∙◌, arith, cond}
use Rattle.std.specs.Prelude.{Bool, true, false, ◌||◌, not, filter, if◌then◌else◌}
use Rattle.object_ids.specs.declared.ids.ObjId.{ObjId}
use Rattle.object_ids.specs.Same.{same_id}
use Rattle.dgc_server.specs.declared.numbers.Numbers.{Numbers}
use Rattle.dgc_server.specs.Entry.{ObjectEntry, has_object, with_numbers, tenure_forgotten, absent_in, room_for}
use Rattle.dgc_server.proofs.Few.{fewer}
use Rattle.dgc_server.proofs.Objects.{object-with}
use Rattle.dgc_server.proofs.Purging.{filter-fewer}

-- ---- for a call

absent-within : (es : List ObjectEntry) (os : List ObjId) → absent_in es os ≤ length os
absent-within es os = filter-fewer (λ o. not (has_object es o)) os

pub room-within : (left : Bool) (es : List ObjectEntry) (os : List ObjId) → room_for left es os ≤ length os
room-within true es os = absent-within es os
room-within false es os = omega arith

-- The room is enough once the tenure is forgotten.
pub room-settled : (left : Bool) (es : List ObjectEntry) (os : List ObjId) → absent_in (if left then es else tenure_forgotten es) os ≤ room_for left es os
room-settled true es os = omega arith
room-settled false es os = absent-within (tenure_forgotten es) os

-- ---- for the next object

pub absent-here : (o : ObjId) (os : List ObjId) (es : List ObjectEntry) (room : ℕ) → absent_in es (o ∷ os) ≤ room → has_object es o ≡ false → 0 < room
absent-here o os es room h f = go (has_object es o) h f
  where
    go : (b : Bool) → length (cond (not b) (o ∷ filter (λ p. not (has_object es p)) os) (filter (λ p. not (has_object es p)) os)) ≤ room → b ≡ false → 0 < room
    go true l x = absurd (cc)
    go false l x = omega arith

-- Those that are not there once an object is noted were not there before.
absent-with : (o : ObjId) (numbers : Numbers) (es : List ObjectEntry) (os : List ObjId) → absent_in (with_numbers o numbers es) os ≤ absent_in es os
absent-with o numbers es os =
    fewer (λ p. not (has_object (with_numbers o numbers es) p)) (λ p. not (has_object es p))
    (λ p h. other (has_object es p) (same_id o p) (sym (ap not (object-with o numbers es p)) ∙ h)) os
  where
    other : (a b : Bool) → not (a || b) ≡ true → not a ≡ true
    other true b f = absurd (cc)
    other false b f = refl

pub absent-next : (o : ObjId) (numbers : Numbers) (os : List ObjId) (es : List ObjectEntry) (before after : ℕ) → absent_in es (o ∷ os) ≤ before →
    before ≤ after + (if has_object es o then 0 else 1) → absent_in (with_numbers o numbers es) os ≤ after
absent-next o numbers os es before after h step = go (has_object es o) h step (absent-with o numbers es os)
  where
    go : (b : Bool) → length (cond (not b) (o ∷ filter (λ p. not (has_object es p)) os) (filter (λ p. not (has_object es p)) os)) ≤ before → before ≤ after + (if b then 0 else 1) →
        absent_in (with_numbers o numbers es) os ≤ absent_in es os → absent_in (with_numbers o numbers es) os ≤ after
    go true l s few = omega arith
    go false l s few = omega arith
