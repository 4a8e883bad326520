-- Laws of shapes, which functions of `laws` promise.
use Rattle.std.specs.Prelude.{◌≡◌, ◌<◌, ◌≤◌, ◌^◌, ℕ, FitsSigned, List, [], ◌∷◌, length, Some}
use Rattle.std.specs.Int.{w16, w32, w64}
use Rattle.std.specs.List.{AllByRecursion}
use Rattle.mod_utf.specs.Utf.{utf}
use Rattle.class_desc.specs.declared.slot.Slot.{Slot}
use Rattle.class_desc.specs.declared.slot.Item.{Item}
use Rattle.class_desc.specs.declared.slot.Item.TheVariants as items
use Rattle.ser_values.specs.declared.node.Node.{Node}
use Rattle.ser_values.specs.Finished.{IsGraphOf}
use Rattle.java_shapes.specs.declared.ref_views.LiveRef.{LiveRef}
use Rattle.java_shapes.specs.LiveRefs.{ref_of, live_ref_at}
use Rattle.java_shapes.specs.Objects.{text_at}
use Rattle.java_shapes.specs.Ids.{objids_at, vmid_at, lease_at, texts_at}
use Rattle.java_shapes.specs.Throwable.{fault_text_at}
use Rattle.java_shapes.specs.RefNotes.{IsRefNote, ref_note}

-- The numbers of a reference are in the ranges of their types.
pub record RefFits (r : LiveRef) : Type 0 where
  pub port : FitsSigned w32 r.port
  pub number : FitsSigned w64 r.id.number
  pub unique : FitsSigned w32 r.id.space.unique
  pub time : FitsSigned w64 r.id.space.time
  pub count : FitsSigned w16 r.id.space.count

-- The note of a reference, of either kind, is read as that reference; so it is the note of no other.
abbrev pub NotesAreRead : Type 0
NotesAreRead = (r : LiveRef) (bytes : List ℕ) → RefFits r → IsRefNote r bytes → ref_of bytes ≡ Some r

-- What is written of a reference is its note.
abbrev pub NotesAreWritten : Type 0
NotesAreWritten = (r : LiveRef) → AllByRecursion (λ u. u < 2 ^ 16) r.host → length (utf r.host) ≤ 65535 → IsRefNote r (ref_note r)

-- The one item of a graph, of which views tell what they told of a loose slot.
pub record ViewsStayIn (loose : List Node) (s : Slot) (nodes : List Node) (to : List Item) : Type 0 where
  pub slot : Slot
  pub is : to ≡ items.Ref slot ∷ []
  pub text : text_at nodes slot ≡ text_at loose s
  pub texts : texts_at nodes slot ≡ texts_at loose s
  pub ids : objids_at nodes slot ≡ objids_at loose s
  pub vmid : vmid_at nodes slot ≡ vmid_at loose s
  pub lease : lease_at nodes slot ≡ lease_at loose s
  pub fault : fault_text_at nodes slot ≡ fault_text_at loose s
  pub reference : live_ref_at nodes slot ≡ live_ref_at loose s

-- What is told of a slot of a builder, is told of the graph that is finished for it.
abbrev pub ViewsStay : Type 0
ViewsStay = (loose : List Node) (s : Slot) (nodes : List Node) (to : List Item) → IsGraphOf loose (items.Ref s ∷ []) nodes to → ViewsStayIn loose s nodes to
