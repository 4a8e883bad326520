-- The shapes of clients and leases, as they are built.
use Rattle.std.specs.Prelude.{◌≡◌, ℕ, ℤ, List, [], ◌∷◌, Some}
use Rattle.class_desc.specs.declared.slot.Slot.{Slot}
use Rattle.class_desc.specs.declared.slot.Slot.TheVariants as slots
use Rattle.class_desc.specs.declared.known_class.KnownClass.TheVariants as known
use Rattle.object_ids.specs.declared.ids.Uid.{Uid}
use Rattle.object_ids.specs.declared.ids.ObjId.{ObjId}
use Rattle.object_ids.specs.Client.{Client}
use Rattle.ser_values.specs.declared.value.Value.{Value}
use Rattle.ser_values.specs.declared.value.Value.TheVariants as values
use Rattle.ser_values.specs.declared.value.Values.TheVariants as kinds
use Rattle.ser_values.specs.declared.value.Part.{Part}
use Rattle.ser_values.specs.declared.node.Node.{Node}
use Rattle.ser_values.specs.declared.node.Node.TheVariants.{Object, Array}
use Rattle.ser_values.specs.Builder.{number_of}
use Rattle.java_shapes.specs.Objects.{node_at, text_at}
use Rattle.java_shapes.specs.Put.{IsClassAt}

-- the one part of an object whose class has no superclass
abbrev pub one_part : List Value → List Part
one_part vs = record { values = vs; note = [] } ∷ []

abbrev pub uid_values : Uid → List Value
uid_values uid = values.Short uid.count ∷ values.Long uid.time ∷ values.Int uid.unique ∷ []

-- The slot names a byte array of these bytes.
pub record BytesAt (nodes : List Node) (bytes : List ℕ) (s : Slot) : Type 0 where
  pub class : Slot
  pub own : IsClassAt nodes known.ByteArray slots.Null class
  pub is : node_at nodes s ≡ Some (Array (number_of class) (kinds.Bytes bytes))

-- The slot names an object of java.rmi.server.UID with this identifier.
pub record UidAt (nodes : List Node) (uid : Uid) (s : Slot) : Type 0 where
  pub class : Slot
  pub own : IsClassAt nodes known.Uid slots.Null class
  pub is : node_at nodes s ≡ Some (Object (number_of class) (one_part (uid_values uid)))

-- The slot names an object of java.rmi.dgc.VMID with this address and identifier.
pub record VmidAt (nodes : List Node) (vmid : Client) (s : Slot) : Type 0 where
  pub class : Slot
  pub addr : Slot
  pub uid : Slot
  pub own : IsClassAt nodes known.Vmid slots.Null class
  pub addr_is : BytesAt nodes vmid.addr addr
  pub uid_is : UidAt nodes vmid.uid uid
  pub is : node_at nodes s ≡ Some (Object (number_of class) (one_part (values.Ref addr ∷ values.Ref uid ∷ [])))

-- The slot names an object of java.rmi.dgc.Lease with this duration and client.
pub record LeaseAt (nodes : List Node) (value : ℤ) (vmid : Client) (s : Slot) : Type 0 where
  pub class : Slot
  pub client : Slot
  pub own : IsClassAt nodes known.Lease slots.Null class
  pub client_is : VmidAt nodes vmid client
  pub is : node_at nodes s ≡ Some (Object (number_of class) (one_part (values.Long value ∷ values.Ref client ∷ [])))

-- ---- lists of texts

-- Each slot names the text of its place.
abbrev pub AreTexts : List Node → List (List ℕ) → List Slot → Type 0
AreTexts nodes [] ss = ss ≡ []
AreTexts nodes (t ∷ ts) [] = ⊥
AreTexts nodes (t ∷ ts) (s ∷ ss) = (text_at nodes s ≡ Some t) × AreTexts nodes ts ss

-- The slot names a String[] of these texts.
pub record TextsAt (nodes : List Node) (names : List (List ℕ)) (s : Slot) : Type 0 where
  pub class : Slot
  pub texts : List Slot
  pub own : IsClassAt nodes known.TextArray slots.Null class
  pub are : AreTexts nodes names texts
  pub is : node_at nodes s ≡ Some (Array (number_of class) (kinds.Refs texts))

-- ---- lists of objects' identifiers

-- The slot names an object of java.rmi.server.ObjID with this identifier; the classes are those of ObjID and of UID.
pub record ObjIdAt (nodes : List Node) (id_class uid_class : Slot) (id : ObjId) (s : Slot) : Type 0 where
  pub space : Slot
  pub space_is : node_at nodes space ≡ Some (Object (number_of uid_class) (one_part (uid_values id.space)))
  pub is : node_at nodes s ≡ Some (Object (number_of id_class) (one_part (values.Long id.number ∷ values.Ref space ∷ [])))

-- Each slot names the identifier of its place.
abbrev pub AreIds : List Node → Slot → Slot → List ObjId → List Slot → Type 0
AreIds nodes id_class uid_class [] ss = ss ≡ []
AreIds nodes id_class uid_class (id ∷ ids) [] = ⊥
AreIds nodes id_class uid_class (id ∷ ids) (s ∷ ss) = ObjIdAt nodes id_class uid_class id s × AreIds nodes id_class uid_class ids ss

-- The slot names an ObjID[] of these identifiers.
pub record ObjIdsAt (nodes : List Node) (ids : List ObjId) (s : Slot) : Type 0 where
  pub class : Slot
  pub id_class : Slot
  pub uid_class : Slot
  pub objects : List Slot
  pub own : IsClassAt nodes known.ObjIdArray slots.Null class
  pub id_own : IsClassAt nodes known.ObjId slots.Null id_class
  pub uid_own : IsClassAt nodes known.Uid slots.Null uid_class
  pub are : AreIds nodes id_class uid_class ids objects
  pub is : node_at nodes s ≡ Some (Array (number_of class) (kinds.Refs objects))
