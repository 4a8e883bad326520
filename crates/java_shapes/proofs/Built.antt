-- Clients and leases that were built: as nodes grow, and what the views tell of them.
use Rattle.std.proofs.Common.{◌≡◌, ◌∙◌, ◌<◌, ◌≤◌, ◌+◌, ◌++◌, take, get_or, ℕ, ℤ, true, nat_le, List, [], ◌∷◌, length, Some, Result, slice_get, codes, refl, ap, sym, arith}
use Rattle.std.proofs.lemmas.Bool.Decides.{nat_tests}
use Rattle.std.proofs.lemmas.List.{take_more}
use Rattle.class_desc.specs.declared.slot.Slot.{Slot}
use Rattle.class_desc.specs.declared.slot.Slot.TheVariants as slots
use Rattle.class_desc.specs.declared.field.TypeCode.TheVariants as types
use Rattle.class_desc.specs.declared.known_class.PartField.{PartField}
use Rattle.class_desc.specs.declared.known_class.KnownClass.{KnownClass}
use Rattle.class_desc.specs.declared.known_class.KnownClass.TheVariants as known
use Rattle.class_desc.specs.KnownClass.{parts_of, plain_field, typed_field}
use Rattle.object_ids.specs.declared.ids.Uid.{Uid}
use Rattle.object_ids.specs.Client.{Client}
use Rattle.object_ids.specs.declared.limits.TheConstants.{MAX_ADDRESS_BYTES}
use Rattle.ser_values.specs.declared.fault.BuildFault.{BuildFault}
use Rattle.ser_values.specs.declared.value.Value.TheVariants as values
use Rattle.ser_values.specs.declared.value.Values.TheVariants as kinds
use Rattle.ser_values.specs.declared.value.Part.{Part}
use Rattle.ser_values.specs.declared.node.Node.{Node}
use Rattle.ser_values.specs.declared.node.Node.TheVariants.{Desc, Object, Array}
use Rattle.ser_values.specs.Builder.{number_of}
use Rattle.java_shapes.specs.Objects.{Held, same_text, node_at, text_at, own_at, value_of, as_slot, array_at, as_bytes, as_refs, each}
use Rattle.java_shapes.specs.Put.{Grows, Puts, NameTypes, IsClassAt, desc_with}
use Rattle.java_shapes.specs.Ids.{uid_of, uid_at, vmid_parts, vmid_parts_at, vmid_at, vmid_or_null, lease_parts, lease_parts_at, lease_at, texts_at}
use Rattle.java_shapes.specs.Shapes.{one_part, uid_values, BytesAt, UidAt, VmidAt, LeaseAt, AreTexts, TextsAt}
use Rattle.java_shapes.proofs.Growth.{grows_then, puts_after, puts_map, class_grown, node_grown, text_grown, numbered}

-- ---- as nodes grow

pub bytes_grown : {n : ℕ} {a b : List Node} (g : Grows n a b) (bytes : List ℕ) (s : Slot) → BytesAt a bytes s → BytesAt b bytes s
bytes_grown g bytes s h = record { class = h.class; own = class_grown g h.own; is = node_grown g s (Array (number_of h.class) (kinds.Bytes bytes)) h.is }

pub uid_grown : {n : ℕ} {a b : List Node} (g : Grows n a b) (uid : Uid) (s : Slot) → UidAt a uid s → UidAt b uid s
uid_grown g uid s h = record { class = h.class; own = class_grown g h.own; is = node_grown g s (Object (number_of h.class) (one_part (uid_values uid))) h.is }

pub vmid_grown : {n : ℕ} {a b : List Node} (g : Grows n a b) (vmid : Client) (s : Slot) → VmidAt a vmid s → VmidAt b vmid s
vmid_grown g vmid s h = record {
  class = h.class;
  addr = h.addr;
  uid = h.uid;
  own = class_grown g h.own;
  addr_is = bytes_grown g vmid.addr h.addr h.addr_is;
  uid_is = uid_grown g vmid.uid h.uid h.uid_is;
  is = node_grown g s (Object (number_of h.class) (one_part (values.Ref h.addr ∷ values.Ref h.uid ∷ []))) h.is;
}

-- ---- what the views tell

pub short_enough : (a b : ℕ) → a ≤ b → nat_le a b ≡ true
short_enough a b h = grind (arith, nat_tests)

pub own_seen : (nodes : List Node) (name : List ℕ) (which : KnownClass) (class s : Slot) (p : Part) (k : IsClassAt nodes which slots.Null class) → node_at nodes s ≡ Some (Object (number_of class) (p ∷ []))
    → same_text (parts_of which).name name ≡ true → own_at nodes name s ≡ Some (desc_with (parts_of which) k.texts slots.Null, p)
own_seen nodes name which class s p k is same =
    let e : slice_get nodes (number_of class) ≡ Some (Desc (desc_with (parts_of which) k.texts slots.Null)) = numbered nodes class _ k.is in
    rw (is, e, same) refl

pub two_types : (nodes : List Node) (f g : PartField) (ss : List Slot) → NameTypes nodes (f ∷ g ∷ []) ss → (s : Slot) × (t : Slot) × (ss ≡ s ∷ t ∷ [])
two_types nodes f g [] h = absurd h
two_types nodes f g (s ∷ []) h = absurd h.1
two_types nodes f g (s ∷ t ∷ []) h = (s, t, refl)
two_types nodes f g (s ∷ t ∷ u ∷ ss) h = absurd cc

three_types : (nodes : List Node) (f g k : PartField) (ss : List Slot) → NameTypes nodes (f ∷ g ∷ k ∷ []) ss → (s : Slot) × (t : Slot) × (u : Slot) × (ss ≡ s ∷ t ∷ u ∷ [])
three_types nodes f g k [] h = absurd h
three_types nodes f g k (s ∷ []) h = absurd h.1
three_types nodes f g k (s ∷ t ∷ []) h = absurd h.1.1
three_types nodes f g k (s ∷ t ∷ u ∷ []) h = (s, t, u, refl)
three_types nodes f g k (s ∷ t ∷ u ∷ v ∷ ss) h = absurd cc

same_uid_name : same_text (codes "java.rmi.server.UID") (codes "java.rmi.server.UID") ≡ true
unfolding same_text
same_uid_name = refl

same_vmid_name : same_text (codes "java.rmi.dgc.VMID") (codes "java.rmi.dgc.VMID") ≡ true
unfolding same_text
same_vmid_name = refl

same_lease_name : same_text (codes "java.rmi.dgc.Lease") (codes "java.rmi.dgc.Lease") ≡ true
unfolding same_text
same_lease_name = refl

same_bytes_name : same_text (codes "[B") (codes "[B") ≡ true
unfolding same_text
same_bytes_name = refl

abbrev pub held_of : KnownClass → List Slot → List values.the_data → Held
held_of which texts vs = (desc_with (parts_of which) texts slots.Null, record { values = vs; note = [] })

uid_told : (s t u : Slot) (uid : Uid) → uid_of (held_of known.Uid (s ∷ t ∷ u ∷ []) (uid_values uid)) ≡ Some uid
unfolding uid_of value_of same_text
uid_told s t u uid = refl

pub uid_seen : (nodes : List Node) (uid : Uid) (s : Slot) → UidAt nodes uid s → uid_at nodes s ≡ Some uid
uid_seen nodes uid s h =
    let t = three_types nodes (plain_field types.Short (codes "count")) (plain_field types.Long (codes "time")) (plain_field types.Int (codes "unique")) h.own.texts h.own.typed in
    let own = own_seen nodes (codes "java.rmi.server.UID") known.Uid h.class s (record { values = uid_values uid; note = [] }) h.own h.is same_uid_name in
    rw (own, t.3) (uid_told t.0 t.1 t.2 uid)

bytes_seen : (nodes : List Node) (bytes : List ℕ) (s : Slot) → BytesAt nodes bytes s → as_bytes (array_at nodes (codes "[B") s) ≡ Some bytes
bytes_seen nodes bytes s h =
    let e : slice_get nodes (number_of h.class) ≡ Some (Desc (desc_with (parts_of known.ByteArray) h.own.texts slots.Null)) = numbered nodes h.class _ h.own.is in
    rw (h.is, e, same_bytes_name) refl

addr_told : (s t addr uid : Slot) → as_slot (value_of (held_of known.Vmid (s ∷ t ∷ []) (values.Ref addr ∷ values.Ref uid ∷ [])) types.Array (codes "addr")) ≡ Some addr
unfolding value_of same_text
addr_told s t addr uid = refl

id_told : (s t addr uid : Slot) → as_slot (value_of (held_of known.Vmid (s ∷ t ∷ []) (values.Ref addr ∷ values.Ref uid ∷ [])) types.Object (codes "uid")) ≡ Some uid
unfolding value_of same_text
id_told s t addr uid = refl

parts_told : (nodes : List Node) (held : Held) (place slot : Slot) (addr : List ℕ) (uid : Uid) → as_slot (value_of held types.Array (codes "addr")) ≡ Some place → as_slot (value_of held types.Object (codes "uid")) ≡ Some slot
    → as_bytes (array_at nodes (codes "[B") place) ≡ Some addr → uid_at nodes slot ≡ Some uid → vmid_parts nodes held ≡ Some (addr, uid)
unfolding vmid_parts
parts_told nodes held place slot addr uid a b c d = rw (a, b, c, d) refl

pub vmid_seen : (nodes : List Node) (vmid : Client) (s : Slot) → VmidAt nodes vmid s → nat_le (length vmid.addr) MAX_ADDRESS_BYTES ≡ true → vmid_at nodes s ≡ Some vmid
vmid_seen nodes vmid s h short =
    let t = two_types nodes (typed_field types.Array (codes "addr") (codes "[B")) (typed_field types.Object (codes "uid") (codes "Ljava/rmi/server/UID;")) h.own.texts h.own.typed in
    let own = own_seen nodes (codes "java.rmi.dgc.VMID") known.Vmid h.class s (record { values = values.Ref h.addr ∷ values.Ref h.uid ∷ []; note = [] }) h.own h.is same_vmid_name in
    let parts : vmid_parts_at nodes s ≡ Some (vmid.addr, vmid.uid) = rw (own, t.2)
    (parts_told nodes _ h.addr h.uid vmid.addr vmid.uid (addr_told t.0 t.1 h.addr h.uid) (id_told t.0 t.1 h.addr h.uid) (bytes_seen nodes vmid.addr h.addr h.addr_is) (uid_seen nodes vmid.uid h.uid h.uid_is)) in
    rw (parts, short) refl

lease_told : (s t client : Slot) (value : ℤ) → lease_parts (held_of known.Lease (s ∷ t ∷ []) (values.Long value ∷ values.Ref client ∷ [])) ≡ Some (value, client)
unfolding lease_parts value_of same_text
lease_told s t client value = refl

not_null : (nodes : List Node) (vmid : Client) (s : Slot) → vmid_at nodes s ≡ Some vmid → vmid_or_null nodes s ≡ Some (Some vmid)
not_null nodes vmid slots.Null h = absurd cc
not_null nodes vmid (slots.Node k) h = rw h refl

pub lease_seen : (nodes : List Node) (value : ℤ) (vmid : Client) (s : Slot) → LeaseAt nodes value vmid s → nat_le (length vmid.addr) MAX_ADDRESS_BYTES ≡ true → lease_at nodes s ≡ Some (record { value = value; vmid = Some vmid })
lease_seen nodes value vmid s h short =
    let t = two_types nodes (plain_field types.Long (codes "value")) (typed_field types.Object (codes "vmid") (codes "Ljava/rmi/dgc/VMID;")) h.own.texts h.own.typed in
    let own = own_seen nodes (codes "java.rmi.dgc.Lease") known.Lease h.class s (record { values = values.Long value ∷ values.Ref h.client ∷ []; note = [] }) h.own h.is same_lease_name in
    let parts : lease_parts_at nodes s ≡ Some (value, h.client) = rw (own, t.2) (lease_told t.0 t.1 h.client value) in
    rw (parts, not_null nodes vmid h.client (vmid_seen nodes vmid h.client h.client_is short)) refl

-- ---- lists of texts

pub texts_grown : {n : ℕ} {a b : List Node} (g : Grows n a b) (ts : List (List ℕ)) (ss : List Slot) → AreTexts a ts ss → AreTexts b ts ss
texts_grown g [] ss h = h
texts_grown g (t ∷ ts) [] h = h
texts_grown g (t ∷ ts) (s ∷ ss) h = (text_grown g s t h.0, texts_grown g ts ss h.1)

texts_more : (nodes : List Node) (ts : List (List ℕ)) (ss : List Slot) (t : List ℕ) (s : Slot) → AreTexts nodes ts ss → text_at nodes s ≡ Some t → AreTexts nodes (ts ++ t ∷ []) (ss ++ s ∷ [])
texts_more nodes [] [] t s h k = (k, refl)
texts_more nodes [] (u ∷ ss) t s h k = absurd cc
texts_more nodes (u ∷ ts) [] t s h k = absurd h
texts_more nodes (u ∷ ts) (v ∷ ss) t s h k = (h.0, texts_more nodes ts ss t s h.1 k)

pub texts_step : (nodes : List Node) (ts : List (List ℕ)) (i : ℕ) (t : List ℕ) (ss more : List Slot) (s : Slot) → i < length ts → t ≡ get_or ts i t → AreTexts nodes (take i ts) ss → text_at nodes s ≡ Some t
    → more ≡ ss ++ s ∷ [] → AreTexts nodes (take (i + 1) ts) more
texts_step nodes ts i t ss more s lt is h k e =
    let front : take (i + 1) ts ≡ take i ts ++ t ∷ [] = take_more ts i t lt ∙ ap (λ (x : List ℕ). take i ts ++ x ∷ []) (sym is) in
    rw (front, e) (texts_more nodes (take i ts) ss t s h k)

texts_told : (nodes : List Node) (ts : List (List ℕ)) (ss : List Slot) → AreTexts nodes ts ss → each (text_at nodes) ss ≡ Some ts
texts_told nodes [] ss h = rw h refl
texts_told nodes (t ∷ ts) [] h = absurd h
texts_told nodes (t ∷ ts) (s ∷ ss) h = rw (h.0, texts_told nodes ts ss h.1) refl

same_array_name : same_text (codes "[Ljava.lang.String;") (codes "[Ljava.lang.String;") ≡ true
unfolding same_text
same_array_name = refl

pub texts_seen : (nodes : List Node) (names : List (List ℕ)) (s : Slot) → TextsAt nodes names s → texts_at nodes s ≡ Some names
unfolding texts_at
texts_seen nodes names s h =
    let e : slice_get nodes (number_of h.class) ≡ Some (Desc (desc_with (parts_of known.TextArray) h.own.texts slots.Null)) = numbered nodes h.class _ h.own.is in
    let refs : as_refs (array_at nodes (codes "[Ljava.lang.String;") s) ≡ Some h.texts = rw (h.is, e, same_array_name) refl in
    rw refs (texts_told nodes names h.texts h.are)

pub puts_texts : (old mid last new : List Node) (names : List (List ℕ)) (texts : List Slot) (class : Slot) (r : Result Slot BuildFault) → Grows (length names) old mid → AreTexts mid names texts
    → Grows 1 mid last → IsClassAt last known.TextArray slots.Null class → Puts 1 (λ loose s. node_at loose s ≡ Some (Array (number_of class) (kinds.Refs texts))) last new r
    → Puts (16 + length names) (λ loose s. TextsAt loose names s) old new r
puts_texts old mid last new names texts class r g are h own put =
    let up : Grows (length names + 1) old last = grows_then g h (omega arith) in
    puts_after (λ loose s. TextsAt loose names s) 1 (16 + length names) new r up
    (puts_map (λ loose s. node_at loose s ≡ Some (Array (number_of class) (kinds.Refs texts))) (λ loose s. TextsAt loose names s) 1 last new r put
    (λ s grown is. record { class = class; texts = texts; own = class_grown grown own; are = texts_grown grown names texts (texts_grown h names texts are); is = is }))
    (omega arith)
