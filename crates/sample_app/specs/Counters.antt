-- The numbers of objects, as a list of pairs. An object without a pair has the number 0.
use Rattle.std.specs.Prelude.{ℤ, pos, [], ◌∷◌, if◌then◌else◌}
use Rattle.object_ids.specs.declared.ids.ObjId.{ObjId}
use Rattle.object_ids.specs.Same.{same_id}
use Rattle.call_dispatch.specs.Acts.{States}

-- the number of an object
abbrev pub count_of : States → ObjId → ℤ
count_of [] object = pos 0
count_of (pair ∷ more) object = if same_id object pair.0 then pair.1 else count_of more object

-- With this number of an object: its pair stays at its place, and a new one goes last.
abbrev pub with_count : States → ObjId → ℤ → States
with_count [] object count = (object, count) ∷ []
with_count (pair ∷ more) object count = if same_id object pair.0 then (pair.0, count) ∷ more else pair ∷ with_count more object count

-- without the pair of an object
abbrev pub without : States → ObjId → States
without [] object = []
without (pair ∷ more) object = if same_id object pair.0 then more else pair ∷ without more object
