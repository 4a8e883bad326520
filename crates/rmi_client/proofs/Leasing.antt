-- What the lease calls are built of.
use Rattle.std.proofs.Common.{◌≡◌, ℕ, Bool, List, [], ◌∷◌, Result, Ok, Err, IfOk, subst}
use Rattle.std.specs.Prelude.{ℤ}
use Rattle.std.specs.Int.{w64}
use Rattle.class_desc.specs.declared.slot.Slot.{Slot}
use Rattle.class_desc.specs.declared.slot.Item.{Item}
use Rattle.class_desc.specs.declared.slot.Item.TheVariants as items
use Rattle.object_ids.specs.declared.ids.ObjId.{ObjId}
use Rattle.object_ids.specs.Client.{Client}
use Rattle.object_ids.specs.Bytes.{signed_bytes}
use Rattle.ser_values.specs.declared.fault.BuildFault.{BuildFault}
use Rattle.ser_values.specs.declared.value.Values.TheVariants as kinds
use Rattle.ser_values.specs.declared.node.Node.{Node}
use Rattle.ser_values.specs.declared.node.Node.TheVariants.{Array}
use Rattle.ser_values.specs.Builder.{number_of}
use Rattle.java_shapes.specs.Put.{Grows}
use Rattle.java_shapes.specs.RefNotes.{truth_byte}
use Rattle.java_shapes.specs.Shapes.{LeaseAt, ObjIdsAt, VmidAt}
use Rattle.java_shapes.proofs.Growth.{class_grown, node_grown}
use Rattle.java_shapes.proofs.BuiltIds.{ids_grown}
use Rattle.jrmp_frames.specs.declared.head.CallHead.{CallHead}
use Rattle.method_hash.specs.declared.system.CollectorMethod.TheVariants as collector
use Rattle.rmi_client.specs.Requests.{IsBuiltCall}
use Rattle.rmi_client.specs.Leases.{collector_head, IsDirtyCall, IsCleanCall}

pub objids_grown : {n : ℕ} {a b : List Node} (g : Grows n a b) (ids : List ObjId) (s : Slot) → ObjIdsAt a ids s → ObjIdsAt b ids s
objids_grown g ids s h = record {
  class = h.class;
  id_class = h.id_class;
  uid_class = h.uid_class;
  objects = h.objects;
  own = class_grown g h.own;
  id_own = class_grown g h.id_own;
  uid_own = class_grown g h.uid_own;
  are = ids_grown g h.id_class h.uid_class ids h.objects h.are;
  is = node_grown g s (Array (number_of h.class) (kinds.Refs h.objects)) h.is;
}

pub dirty_built : (loose : List Node) (vmid : Client) (ids : List ObjId) (number asked : ℤ) (s l : Slot) (head : CallHead) (arguments : List Item) (r : Result (List ℕ) BuildFault) → head ≡ collector_head collector.Dirty
    → arguments ≡ items.Ref s ∷ items.Bytes (signed_bytes w64 number) ∷ items.Ref l ∷ [] → ObjIdsAt loose ids s → LeaseAt loose asked vmid l → IfOk r (IsBuiltCall head loose arguments) → IfOk r (IsDirtyCall vmid ids number asked)
dirty_built loose vmid ids number asked s l head arguments (Err fault) same are o k h = tt
dirty_built loose vmid ids number asked s l head arguments (Ok bytes) same are o k h =
    (loose, s, l, o, k, subst (λ a. IsBuiltCall (collector_head collector.Dirty) loose a bytes) are (subst (λ h. IsBuiltCall h loose arguments bytes) same h))

pub clean_built : (loose : List Node) (vmid : Client) (ids : List ObjId) (number : ℤ) (strong : Bool) (s v : Slot) (head : CallHead) (arguments : List Item) (r : Result (List ℕ) BuildFault) → head ≡ collector_head collector.Clean
    → arguments ≡ items.Ref s ∷ items.Bytes (signed_bytes w64 number) ∷ items.Ref v ∷ items.Bytes (truth_byte strong ∷ []) ∷ [] → ObjIdsAt loose ids s → VmidAt loose vmid v → IfOk r (IsBuiltCall head loose arguments) → IfOk r (IsCleanCall vmid ids number strong)
clean_built loose vmid ids number strong s v head arguments (Err fault) same are o k h = tt
clean_built loose vmid ids number strong s v head arguments (Ok bytes) same are o k h =
    (loose, s, v, o, k, subst (λ a. IsBuiltCall (collector_head collector.Clean) loose a bytes) are (subst (λ h. IsBuiltCall h loose arguments bytes) same h))
