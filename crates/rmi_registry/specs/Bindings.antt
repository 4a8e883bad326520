-- The bindings of a registry (Java RMI Specification, chapter 6): names and the objects for which they stand, the oldest binding first.
use Rattle.std.specs.Prelude.{ℕ, ◌≤◌, Bool, not, List, [], ◌∷◌, Option, Some, None, is_some, map, filter, length, if◌then◌else◌}
use Rattle.object_ids.specs.declared.ids.ObjId.{ObjId}
use Rattle.object_ids.specs.Same.{same_id, same_bytes}
use Rattle.history.specs.declared.limits.TheConstants.{MAX_NAMES, MAX_NAME_UNITS}
use Rattle.std.specs.List.{AllByRecursion}
use Rattle.history.specs.Lists.{AllOnce}
use Rattle.rmi_registry.specs.declared.binding.Binding.{Binding}

-- The object for which a name stands, if it stands for one.
abbrev pub object_of : List Binding → List ℕ → Option ObjId
object_of [] n = None
object_of (b ∷ bs) n = if same_bytes b.name n then Some b.object else object_of bs n

abbrev pub is_bound : List Binding → List ℕ → Bool
is_bound bs n = is_some (object_of bs n)

-- The names, in order.
abbrev pub names_in : List Binding → List (List ℕ)
names_in bs = map (λ b. b.name) bs

-- How many names stand for an object.
abbrev pub count_of : List Binding → ObjId → ℕ
count_of bs o = length (filter (λ b. same_id b.object o) bs)

-- The bindings where a name stands for this object: in its own place, or behind the others where it is new.
abbrev pub with_binding : List Binding → List ℕ → ObjId → List Binding
with_binding [] n o = record { name = n; object = o } ∷ []
with_binding (b ∷ bs) n o = if same_bytes b.name n then record { name = b.name; object = o } ∷ bs else b ∷ with_binding bs n o

-- The bindings of the other names.
abbrev pub without_name : List Binding → List ℕ → List Binding
without_name bs n = filter (λ b. not (same_bytes b.name n)) bs

-- What holds of the bindings of each registry: no name stands twice, none is too long, and there are no more than can be.
pub record IsRegistry (bs : List Binding) : Type 0 where
  pub once : AllOnce same_bytes (names_in bs)
  pub short : AllByRecursion (λ n. length n ≤ MAX_NAME_UNITS) (names_in bs)
  pub few : length bs ≤ MAX_NAMES
