-- The references of a graph, and the objects of those that are of one host and port.
use Rattle.std.specs.Prelude.{ℕ, ℤ, zero, suc, Bool, true, false, ◌&&◌, List, [], ◌∷◌, ◌++◌, map, filter, fold, length, Option, Some, None, if◌then◌else◌}
use Rattle.std.specs.List.{list_any}
use Rattle.std.specs.Ordering.{int_eq}
use Rattle.class_desc.specs.declared.slot.Slot.TheVariants as slots
use Rattle.object_ids.specs.declared.ids.ObjId.{ObjId}
use Rattle.object_ids.specs.Same.{same_key}
use Rattle.ser_values.specs.declared.node.Node.{Node}
use Rattle.java_shapes.specs.declared.ref_views.LiveRef.{LiveRef}
use Rattle.java_shapes.specs.Objects.{same_text}
use Rattle.java_shapes.specs.LiveRefs.{live_ref_at}

abbrev pub as_list : Option LiveRef → List LiveRef
as_list (Some r) = r ∷ []
as_list None = []

-- The references that the first n nodes are, in node order.
unfoldable pub refs_below : List Node → ℕ → List LiveRef
refs_below nodes zero = []
refs_below nodes (suc n) = refs_below nodes n ++ as_list (live_ref_at nodes (slots.Node n))

-- The references that the nodes are.
abbrev pub refs_in : List Node → List LiveRef
refs_in nodes = refs_below nodes (length nodes)

-- one more at the end, unless it is there
abbrev pub add_once : List ObjId → ObjId → List ObjId
add_once ids id = if list_any (same_key id) ids then ids else ids ++ id ∷ []

-- Each identifier once, where it stands first.
abbrev pub each_once : List ObjId → List ObjId
each_once ids = fold add_once [] ids

-- The reference is of this host and port.
abbrev pub is_local : List ℕ → ℤ → LiveRef → Bool
is_local host port r = same_text r.host host && int_eq r.port port

-- The objects of the references of this host and port among these, each once, in their order.
abbrev pub local_among : List ℕ → ℤ → List LiveRef → List ObjId
local_among host port refs = each_once (map (λ r. r.id) (filter (is_local host port) refs))

-- The objects of the references of this host and port that the nodes are, each once, in node order.
abbrev pub local_ids : List Node → List ℕ → ℤ → List ObjId
local_ids nodes host port = local_among host port (refs_in nodes)

-- ---- one node more

abbrev pub add_if : Bool → List ObjId → ObjId → List ObjId
add_if true ids id = add_once ids id
add_if false ids id = ids

-- the identifiers with that of a reference, where it is of this host and port
abbrev pub with_local : List ObjId → List ℕ → ℤ → Option LiveRef → List ObjId
with_local ids host port None = ids
with_local ids host port (Some r) = add_if (is_local host port r) ids r.id
