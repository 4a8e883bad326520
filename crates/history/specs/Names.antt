-- The names of the registry (Java RMI Specification, chapter 6).
use Rattle.std.specs.Prelude.{ℕ, Bool, true, false, not, List, [], ◌∷◌, ◌++◌, ◌&&◌, filter, Option, Some, None, option_to_list, is_none, ◌||◌, if◌then◌else◌}
use Rattle.std.specs.List.{list_any}
use Rattle.object_ids.specs.declared.ids.ObjId.{ObjId}
use Rattle.object_ids.specs.Same.{same_id, same_bytes}
use Rattle.history.specs.Lists.{option_any}
use Rattle.history.specs.declared.places.Place.{Place}
use Rattle.history.specs.Places.{History}
use Rattle.history.specs.declared.asks.Ask.{Ask}
use Rattle.history.specs.declared.asks.Ask.TheVariants.{Bind, Rebind, Unbind, Lookup}

-- The name in an ask.
abbrev pub name_in : Ask → Option (List ℕ)
name_in (Bind name object) = Some name
name_in (Rebind name object) = Some name
name_in (Unbind name) = Some name
name_in (Lookup name uid) = Some name
name_in _ = None

-- The name that an ask binds.
abbrev pub name_bound : Ask → Option (List ℕ)
name_bound (Bind name object) = Some name
name_bound (Rebind name object) = Some name
name_bound _ = None

-- The object to which an ask binds a name.
abbrev pub object_bound : Ask → Option ObjId
object_bound (Bind name object) = Some object
object_bound (Rebind name object) = Some object
object_bound _ = None

-- A Bind, a Rebind or an Unbind, which changes what a name stands for where it is effective.
abbrev pub is_name_change : Ask → Bool
is_name_change (Bind name object) = true
is_name_change (Rebind name object) = true
is_name_change (Unbind name) = true
is_name_change _ = false

-- A Bind or a Rebind of the name.
abbrev pub is_bind_of : List ℕ → Ask → Bool
is_bind_of n (Bind name object) = same_bytes name n
is_bind_of n (Rebind name object) = same_bytes name n
is_bind_of n _ = false

-- An Unbind of the name.
abbrev pub is_unbind_of : List ℕ → Ask → Bool
is_unbind_of n (Unbind name) = same_bytes name n
is_unbind_of n _ = false

-- An effective Bind, Rebind or Unbind of the name.
abbrev pub changes_name : List ℕ → Place → Bool
changes_name n p = p.effective && (is_bind_of n p.event.ask || is_unbind_of n p.event.ask)

-- What a name stands for: the object of the last effective Bind, Rebind or Unbind of it, or nothing if that is an Unbind.
unfoldable pub stands_for : History → List ℕ → Option ObjId
stands_for [] n = None
stands_for (p ∷ before) n = if changes_name n p then object_bound p.event.ask else stands_for before n

-- The place unbinds the name.
abbrev pub unbinds : Place → List ℕ → Bool
unbinds p n = p.effective && is_unbind_of n p.event.ask

-- The name that a place begins, if it begins one: an effective Bind or Rebind begins its name where the name stood for nothing
-- before.
abbrev pub name_begun : Place → List (List ℕ)
name_begun p = if p.effective && is_none p.name_stood_for then option_to_list (name_bound p.event.ask) else []

-- The names that stand for something, in the order of the places that begin them.
unfoldable pub names : History → List (List ℕ)
names [] = []
names (p ∷ before) = filter (λ n. not (unbinds p n)) (names before) ++ name_begun p

-- The name stands for this object.
abbrev pub is_name_of : History → ObjId → List ℕ → Bool
is_name_of h o n = option_any (λ x. same_id x o) (stands_for h n)

-- The names that stand for an object.
unfoldable pub names_of : History → ObjId → List (List ℕ)
names_of h o = filter (is_name_of h o) (names h)

-- Some name stands for the object.
unfoldable pub is_named : History → ObjId → Bool
is_named h o = list_any (is_name_of h o) (names h)
