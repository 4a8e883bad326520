-- What a view tells of a fault that was put.
use Rattle.std.proofs.Common.{◌≡◌, ◌∙◌, ℕ, suc, true, false, List, [], ◌∷◌, Some, slice_get, codes, refl, ap}
use Rattle.class_desc.specs.declared.slot.Slot.{Slot}
use Rattle.class_desc.specs.declared.slot.Slot.TheVariants as slots
use Rattle.class_desc.specs.declared.field.TypeCode.TheVariants as types
use Rattle.class_desc.specs.declared.known_class.PartField.{PartField}
use Rattle.class_desc.specs.declared.known_class.KnownClass.{KnownClass}
use Rattle.class_desc.specs.declared.known_class.KnownClass.TheVariants as known
use Rattle.class_desc.specs.KnownClass.{parts_of, typed_field}
use Rattle.ser_values.specs.declared.value.Part.{Part}
use Rattle.ser_values.specs.declared.node.Node.{Node}
use Rattle.ser_values.specs.Builder.{number_of}
use Rattle.java_shapes.specs.Objects.{same_text, held_within, held_at, value_of, as_slot}
use Rattle.java_shapes.specs.Throwable.{class_name_at, message_of, fault_text_at}
use Rattle.java_shapes.specs.Put.{NameTypes, IsClassAt, desc_with}
use Rattle.java_shapes.specs.Fault.{FaultAt, fault_parts, fault_text, reference}
use Rattle.java_shapes.proofs.Growth.{numbered}

-- ---- the search along known classes

pub held_past : (nodes : List Node) (name : List ℕ) (ps : List Part) (n : ℕ) (which : KnownClass) (parent s : Slot) (p : Part) → IsClassAt nodes which parent s
    → same_text (parts_of which).name name ≡ false → slice_get ps n ≡ Some p → held_within nodes name ps (suc n) s ≡ held_within nodes name ps n parent
unfolding held_within
held_past nodes name ps n which parent s p k apart has = rw (k.is, apart, has) refl

pub held_hit : (nodes : List Node) (name : List ℕ) (ps : List Part) (n : ℕ) (which : KnownClass) (parent s : Slot) (p : Part) (k : IsClassAt nodes which parent s)
    → same_text (parts_of which).name name ≡ true → slice_get ps n ≡ Some p → held_within nodes name ps (suc n) s ≡ Some (desc_with (parts_of which) k.texts parent, p)
unfolding held_within
held_hit nodes name ps n which parent s p k same has = rw (k.is, same, has) refl

pub by_number : (nodes : List Node) (which : KnownClass) (parent s : Slot) → IsClassAt nodes which parent s → IsClassAt nodes which parent (slots.Node (number_of s))
by_number nodes which parent s k = record { texts = k.texts; typed = k.typed; is = numbered nodes s _ k.is }

pub one_type : (nodes : List Node) (f : PartField) (ss : List Slot) → NameTypes nodes (f ∷ []) ss → (s : Slot) × ss ≡ s ∷ []
one_type nodes f [] h = absurd h
one_type nodes f (s ∷ []) h = (s, refl)
one_type nodes f (s ∷ t ∷ ss) h = absurd cc

-- ---- a fault

not_remote : same_text (codes "java.rmi.RemoteException") (codes "java.lang.Throwable") ≡ false
unfolding same_text
not_remote = refl

not_io : same_text (codes "java.io.IOException") (codes "java.lang.Throwable") ≡ false
unfolding same_text
not_io = refl

not_exception : same_text (codes "java.lang.Exception") (codes "java.lang.Throwable") ≡ false
unfolding same_text
not_exception = refl

is_throwable : same_text (codes "java.lang.Throwable") (codes "java.lang.Throwable") ≡ true
unfolding same_text
is_throwable = refl

message_value : (t text : Slot) → as_slot (value_of (desc_with (parts_of known.Throwable) (t ∷ []) slots.Null, reference text) types.Object (codes "detailMessage")) ≡ Some text
unfolding value_of same_text
message_value t text = refl

pub fault_viewed : (nodes : List Node) (message : List ℕ) (s : Slot) → FaultAt nodes message s → fault_text_at nodes s ≡ Some (fault_text message)
fault_viewed nodes message s f =
    let ps = fault_parts f.text in
    let own = by_number nodes known.RemoteException f.io_exception f.remote_exception f.own in
    let t = one_type nodes (typed_field types.Object (codes "detailMessage") (codes "Ljava/lang/String;")) f.highest.texts f.highest.typed in
    let name : class_name_at nodes s ≡ Some (codes "java.rmi.RemoteException") = rw (f.is, own.is) refl in
    let held : held_at nodes (codes "java.lang.Throwable") s ≡ Some (desc_with (parts_of known.Throwable) (t.0 ∷ []) slots.Null, reference f.text) =
    rw f.is (held_past nodes (codes "java.lang.Throwable") ps 3 known.RemoteException f.io_exception (slots.Node (number_of f.remote_exception)) _ own not_remote refl
    ∙ (held_past nodes (codes "java.lang.Throwable") ps 2 known.IoException f.exception f.io_exception _ f.third not_io refl
    ∙ (held_past nodes (codes "java.lang.Throwable") ps 1 known.Exception f.throwable f.exception _ f.second not_exception refl
    ∙ (held_hit nodes (codes "java.lang.Throwable") ps 0 known.Throwable slots.Null f.throwable _ f.highest is_throwable refl
    ∙ ap (λ (l : List Slot). Some (desc_with (parts_of known.Throwable) l slots.Null, reference f.text)) t.1)))) in
    let told : message_of nodes (desc_with (parts_of known.Throwable) (t.0 ∷ []) slots.Null, reference f.text) ≡ Some message = rw (message_value t.0 f.text, f.told) refl in
    rw (name, held, told) refl
