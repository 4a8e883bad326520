-- Where references keep that they were made for a result, and the nodes in which each of them does.
use Rattle.std.specs.Prelude.{ℕ, zero, suc, true, ◌-◌, List, [], ◌∷◌, ◌++◌, length, Option, Some, None, codes, slice_get}
use Rattle.class_desc.specs.declared.slot.Slot.{Slot}
use Rattle.class_desc.specs.declared.slot.Slot.TheVariants as slots
use Rattle.class_desc.specs.declared.desc.ClassDesc.{ClassDesc}
use Rattle.ser_values.specs.declared.node.Node.{Node}
use Rattle.ser_values.specs.declared.node.Node.TheVariants.{Object}
use Rattle.ser_values.specs.declared.note_bytes.NotePlace.{NotePlace}
use Rattle.ser_values.specs.NoteBytes.{with_note_byte}
use Rattle.java_shapes.specs.declared.ref_views.LiveRef.{LiveRef}
use Rattle.java_shapes.specs.Objects.{node_at, named_in, parent_in, ◌>>=◌}
use Rattle.java_shapes.specs.LiveRefs.{note_at, stub_ref_at}

-- ---- the place of a class among an object's parts

abbrev pub place_here : (Slot → Option ℕ) → ℕ → Option ClassDesc → Option Slot → Option ℕ
place_here above n (Some d) parent = Some n
place_here above n None (Some s) = above s
place_here above n None None = None

-- Which of the first n parts is of the first class of this name, from the class of a slot up; parts stand with the highest superclass first.
unfoldable pub place_within : List Node → List ℕ → ℕ → Slot → Option ℕ
place_within nodes name zero s = None
place_within nodes name (suc n) s = place_here (place_within nodes name n) n (named_in name (node_at nodes s)) (parent_in (node_at nodes s))

abbrev pub place_in : List Node → List ℕ → Option Node → Option ℕ
place_in nodes name (Some (Object c ps)) = place_within nodes name (length ps) (slots.Node c)
place_in nodes name _ = None

-- ---- flags

-- The last byte of the note of a node's part of class java.rmi.server.RemoteObject, where that is one run of bytes.
unfoldable pub note_end : List Node → ℕ → Option NotePlace
note_end nodes k = do
  part ← place_in nodes (codes "java.rmi.server.RemoteObject") (slice_get nodes k)
  bytes ← note_at nodes (slots.Node k)
  Some (record { node = k; part = part; item = 0; offset = length bytes - 1 })

abbrev pub flag_of : List Node → ℕ → Option LiveRef → Option NotePlace
flag_of nodes k None = None
flag_of nodes k (Some r) = note_end nodes k

-- Where the flag of a node's own reference stands, if its note is one.
abbrev pub flag_at : List Node → ℕ → Option NotePlace
flag_at nodes k = flag_of nodes k (stub_ref_at nodes (slots.Node k))

abbrev pub as_places : Option NotePlace → List NotePlace
as_places None = []
as_places (Some at) = at ∷ []

-- Those of the first n nodes, in order.
unfoldable pub flags_below : List Node → ℕ → List NotePlace
flags_below nodes zero = []
flags_below nodes (suc n) = flags_below nodes n ++ as_places (flag_at nodes n)

-- Those of all nodes.
abbrev pub flags_in : List Node → List NotePlace
flags_in nodes = flags_below nodes (length nodes)

-- The nodes with the byte 1 at each of these places; None where no byte stands at one of them.
unfoldable pub set_flags : List Node → List NotePlace → Option (List Node)
set_flags nodes [] = Some nodes
set_flags nodes (at ∷ ats) = with_note_byte nodes at 1 >>= λ changed. set_flags changed ats

-- The reference as one that was made for a result.
abbrev pub for_result : LiveRef → LiveRef
for_result r = record r { result = true }
