-- The nodes of a lease are a graph.
use Rattle.std.proofs.Common.{◌≡◌, ◌<◌, ◌^◌, ℕ, ℤ, zero, suc, true, false, nat_lt, List, [], ◌∷◌, ◌++◌, length, slice_get, codes, Some, Result, Ok, Err, OnOk, refl, ap, ◌∙◌, arith, append_assoc}
use Rattle.std.specs.Prelude.{All, FitsSigned}
use Rattle.std.specs.Int.{w64}
use Rattle.std.proofs.lemmas.List.Elements.{All-nil}
use borrow.Author.Gap.{read_sfits}
use Rattle.class_desc.specs.declared.slot.Slot.TheVariants as slots
use Rattle.class_desc.specs.declared.known_class.KnownClass.TheVariants as known
use Rattle.class_desc.specs.KnownClass.{parts_of}
use Rattle.class_desc.specs.TypeText.{element_of, is_array_text, is_component_text, ends_class}
use Rattle.class_desc.specs.ClassDesc.{is_good_desc, fit_flags, are_ordered}
use Rattle.object_ids.specs.Bytes.{FitsUid}
use Rattle.object_ids.specs.Client.{Client}
use Rattle.ser_values.specs.declared.value.Value.{Value}
use Rattle.ser_values.specs.declared.value.Value.TheVariants as values
use Rattle.ser_values.specs.declared.value.Values.TheVariants as kinds
use Rattle.ser_values.specs.declared.value.Part.{Part}
use Rattle.ser_values.specs.declared.node.Node.{Node}
use Rattle.ser_values.specs.declared.node.Node.TheVariants.{Text, Object, Array}
use Rattle.ser_values.specs.declared.node.SlotPlace.TheVariants as places
use Rattle.ser_values.specs.Node.{is_desc, is_text, admits, admits_null, item_wants, value_wants, part_wants, field_wants, before, after}
use Rattle.ser_values.specs.Shape.{joined_from, are_typed, fit_values, fits_chain, is_shaped, sizes_in, notes_in, parts_in}
use Rattle.ser_values.specs.Ranges.{ItemFits, NodeFits, UnitsFitIn, PartFits, ValueFits, NameFits}
use Rattle.ser_values.specs.Numbered.{a_null, fresh, Numbered, IsGraph}
use Rattle.java_shapes.specs.Fault.{class_node}
use Rattle.java_shapes.specs.LeaseGraph.{lease_nodes, lease_items}
use Rattle.java_shapes.specs.Shapes.{LeaseAt, one_part, uid_values}
use Rattle.java_shapes.specs.Objects.{same_text}
use Rattle.java_shapes.specs.Put.{desc_with}
use Rattle.java_shapes.proofs.FaultGraph.{all_of, no_note, small}
use Rattle.java_shapes.proofs.Growth.{desc_differs, texts_differ}

-- Two more nodes, one after the other.
pub two_on : {A E : Type 0} (r : Result A E) (now mid old : List Node) (x y : Node) → OnOk r (now ≡ mid ++ y ∷ []) → mid ≡ old ++ x ∷ [] → OnOk r (now ≡ old ++ (x ∷ y ∷ []))
two_on (Ok a) now mid old x y last is = last ∙ ap (λ (l : List Node). l ++ y ∷ []) is ∙ append_assoc old (x ∷ []) (y ∷ [])
two_on (Err e) now mid old x y last is = tt

-- ---- its shape

shaped_lease : (v : ℤ) (c : Client) → is_shaped (lease_nodes v c) (class_node known.Lease (slots.Null ∷ slots.Node 1 ∷ []) slots.Null) ≡ true
unfolding is_shaped lease_nodes is_good_desc fit_flags are_ordered are_typed joined_from ends_class
shaped_lease v c = refl

shaped_vmid : (v : ℤ) (c : Client) → is_shaped (lease_nodes v c) (class_node known.Vmid (slots.Node 4 ∷ slots.Node 5 ∷ []) slots.Null) ≡ true
unfolding is_shaped lease_nodes is_good_desc fit_flags are_ordered are_typed joined_from ends_class is_array_text element_of is_component_text
shaped_vmid v c = refl

shaped_bytes : (v : ℤ) (c : Client) → is_shaped (lease_nodes v c) (class_node known.ByteArray [] slots.Null) ≡ true
unfolding is_shaped lease_nodes is_good_desc fit_flags are_ordered are_typed joined_from
shaped_bytes v c = refl

shaped_uid : (v : ℤ) (c : Client) → is_shaped (lease_nodes v c) (class_node known.Uid (slots.Null ∷ slots.Null ∷ slots.Null ∷ []) slots.Null) ≡ true
unfolding is_shaped lease_nodes is_good_desc fit_flags are_ordered are_typed joined_from
shaped_uid v c = refl

shaped_text : (v : ℤ) (c : Client) → is_shaped (lease_nodes v c) (Text (codes "Ljava/rmi/dgc/VMID;")) ≡ true
unfolding is_shaped
shaped_text v c = refl

shaped_addr_text : (v : ℤ) (c : Client) → is_shaped (lease_nodes v c) (Text (codes "[B")) ≡ true
unfolding is_shaped
shaped_addr_text v c = refl

shaped_uid_text : (v : ℤ) (c : Client) → is_shaped (lease_nodes v c) (Text (codes "Ljava/rmi/server/UID;")) ≡ true
unfolding is_shaped
shaped_uid_text v c = refl

shaped_own : (v : ℤ) (c : Client) → is_shaped (lease_nodes v c) (Object 0 (one_part (values.Long v ∷ values.Ref (slots.Node 6) ∷ []))) ≡ true
unfolding is_shaped lease_nodes fits_chain fit_values joined_from element_of is_array_text
shaped_own v c = refl

shaped_client : (v : ℤ) (c : Client) → is_shaped (lease_nodes v c) (Object 3 (one_part (values.Ref (slots.Node 8) ∷ values.Ref (slots.Node 10) ∷ []))) ≡ true
unfolding is_shaped lease_nodes fits_chain fit_values joined_from element_of is_array_text
shaped_client v c = refl

shaped_identifier : (v : ℤ) (c : Client) → is_shaped (lease_nodes v c) (Object 9 (one_part (uid_values c.uid))) ≡ true
unfolding is_shaped lease_nodes fits_chain fit_values joined_from element_of is_array_text
shaped_identifier v c = refl

shaped_addr : (v : ℤ) (c : Client) → nat_lt (length c.addr) (2 ^ 31) ≡ true → is_shaped (lease_nodes v c) (Array 7 (kinds.Bytes c.addr)) ≡ true
unfolding is_shaped lease_nodes element_of is_array_text is_component_text
shaped_addr v c short = short

-- ---- its numbering

abbrev N : ℤ → Client → List Node
N v c = lease_nodes v c

num_null : (v : ℤ) (c : Client) (d : ℕ) (u : List ℕ) (n : ℕ) → Numbered (N v c) (suc d) u (places.Reference, slots.Null) n n
unfolding Numbered admits_null
num_null v c d u n = a_null refl refl refl

num_top : (v : ℤ) (c : Client) (d : ℕ) (u : List ℕ) (n : ℕ) → Numbered (N v c) (suc d) u (places.Parent, slots.Null) n n
unfolding Numbered admits_null
num_top v c d u n = a_null refl refl refl

num_text : (v : ℤ) (c : Client) (d : ℕ) (u : List ℕ) → Numbered (N v c) (suc d) u (places.Text, slots.Node 1) 1 2
unfolding Numbered admits is_text lease_nodes before after
num_text v c d u = fresh 1 (Text (codes "Ljava/rmi/dgc/VMID;")) refl refl (omega arith) (omega arith) refl (shaped_text v c) refl refl

num_addr_text : (v : ℤ) (c : Client) (d : ℕ) (u : List ℕ) → Numbered (N v c) (suc d) u (places.Text, slots.Node 4) 4 5
unfolding Numbered admits is_text lease_nodes before after
num_addr_text v c d u = fresh 4 (Text (codes "[B")) refl refl (omega arith) (omega arith) refl (shaped_addr_text v c) refl refl

num_uid_text : (v : ℤ) (c : Client) (d : ℕ) (u : List ℕ) → Numbered (N v c) (suc d) u (places.Text, slots.Node 5) 5 6
unfolding Numbered admits is_text lease_nodes before after
num_uid_text v c d u = fresh 5 (Text (codes "Ljava/rmi/server/UID;")) refl refl (omega arith) (omega arith) refl (shaped_uid_text v c) refl refl

num_lease_class : (v : ℤ) (c : Client) (d : ℕ) (u : List ℕ) → Numbered (N v c) (suc (suc d)) u (places.Class, slots.Node 0) 0 2
unfolding Numbered admits is_desc lease_nodes before after field_wants item_wants
num_lease_class v c d u = fresh 0 (class_node known.Lease (slots.Null ∷ slots.Node 1 ∷ []) slots.Null) refl refl (omega arith) (omega arith) refl (shaped_lease v c) refl
    (2, num_text v c d _, (2, num_null v c d _ 2, (2, num_top v c d _ 2, refl)))

num_vmid_class : (v : ℤ) (c : Client) (d : ℕ) (u : List ℕ) → Numbered (N v c) (suc (suc d)) u (places.Class, slots.Node 3) 3 6
unfolding Numbered admits is_desc lease_nodes before after field_wants item_wants
num_vmid_class v c d u = fresh 3 (class_node known.Vmid (slots.Node 4 ∷ slots.Node 5 ∷ []) slots.Null) refl refl (omega arith) (omega arith) refl (shaped_vmid v c) refl
    (5, num_addr_text v c d _, (6, num_uid_text v c d _, (6, num_null v c d _ 6, (6, num_top v c d _ 6, refl))))

num_bytes_class : (v : ℤ) (c : Client) (d : ℕ) (u : List ℕ) → Numbered (N v c) (suc (suc d)) u (places.Class, slots.Node 7) 7 8
unfolding Numbered admits is_desc lease_nodes before after field_wants item_wants
num_bytes_class v c d u = fresh 7 (class_node known.ByteArray [] slots.Null) refl refl (omega arith) (omega arith) refl (shaped_bytes v c) refl
    (8, num_null v c d _ 8, (8, num_top v c d _ 8, refl))

num_uid_class : (v : ℤ) (c : Client) (d : ℕ) (u : List ℕ) → Numbered (N v c) (suc (suc d)) u (places.Class, slots.Node 9) 9 10
unfolding Numbered admits is_desc lease_nodes before after field_wants item_wants
num_uid_class v c d u = fresh 9 (class_node known.Uid (slots.Null ∷ slots.Null ∷ slots.Null ∷ []) slots.Null) refl refl (omega arith) (omega arith) refl (shaped_uid v c) refl
    (10, num_null v c d _ 10, (10, num_top v c d _ 10, refl))

num_addr : (v : ℤ) (c : Client) (d : ℕ) (u : List ℕ) → nat_lt (length c.addr) (2 ^ 31) ≡ true → Numbered (N v c) (suc (suc (suc d))) u (places.Reference, slots.Node 8) 7 9
unfolding Numbered admits is_desc lease_nodes before after value_wants item_wants
num_addr v c d u short = fresh 8 (Array 7 (kinds.Bytes c.addr)) refl refl (omega arith) (omega arith) refl (shaped_addr v c short) (8, num_bytes_class v c d _, refl) refl

num_identifier : (v : ℤ) (c : Client) (d : ℕ) (u : List ℕ) → Numbered (N v c) (suc (suc (suc d))) u (places.Reference, slots.Node 10) 9 11
unfolding Numbered admits is_desc lease_nodes before after part_wants value_wants item_wants
num_identifier v c d u = fresh 10 (Object 9 (one_part (uid_values c.uid))) refl refl (omega arith) (omega arith) refl (shaped_identifier v c) (10, num_uid_class v c d _, refl) refl

num_client : (v : ℤ) (c : Client) (d : ℕ) (u : List ℕ) → nat_lt (length c.addr) (2 ^ 31) ≡ true → Numbered (N v c) (suc (suc (suc (suc d)))) u (places.Reference, slots.Node 6) 3 11
unfolding Numbered admits is_desc lease_nodes before after part_wants value_wants item_wants
num_client v c d u short = fresh 6 (Object 3 (one_part (values.Ref (slots.Node 8) ∷ values.Ref (slots.Node 10) ∷ []))) refl refl (omega arith) (omega arith) refl (shaped_client v c)
    (6, num_vmid_class v c (suc d) _, refl) (9, num_addr v c d _ short, (11, num_identifier v c d _, refl))

num_own : (v : ℤ) (c : Client) (d : ℕ) (u : List ℕ) → nat_lt (length c.addr) (2 ^ 31) ≡ true → Numbered (N v c) (suc (suc (suc (suc (suc d))))) u (places.Reference, slots.Node 2) 0 11
unfolding Numbered admits is_desc lease_nodes before after part_wants value_wants item_wants
num_own v c d u short = fresh 2 (Object 0 (one_part (values.Long v ∷ values.Ref (slots.Node 6) ∷ []))) refl refl (omega arith) (omega arith) refl (shaped_own v c)
    (2, num_lease_class v c (suc (suc d)) _, refl) (11, num_client v c d _ short, refl)

-- ---- its numbers

part_fits : (vs : List Value) → All ValueFits vs → All PartFits (one_part vs)
part_fits vs h = all_of PartFits (one_part vs) ((h, All-nil ItemFits), tt)

numbers_fit : (v : ℤ) (c : Client) → FitsSigned w64 v → FitsUid c.uid → All (λ x. x < 2 ^ 8) c.addr → All NodeFits (lease_nodes v c)
unfolding lease_nodes
numbers_fit v c fits uid addr =
    let own : All PartFits (one_part (values.Long v ∷ values.Ref (slots.Node 6) ∷ [])) = part_fits _ (all_of ValueFits (values.Long v ∷ values.Ref (slots.Node 6) ∷ []) (fits, (tt, tt))) in
    let client : All PartFits (one_part (values.Ref (slots.Node 8) ∷ values.Ref (slots.Node 10) ∷ [])) = part_fits _ (all_of ValueFits (values.Ref (slots.Node 8) ∷ values.Ref (slots.Node 10) ∷ []) (tt, (tt, tt))) in
    let identifier : All PartFits (one_part (uid_values c.uid)) = part_fits _ (all_of ValueFits (uid_values c.uid) (uid.count, (uid.time, (uid.unique, tt)))) in
    all_of NodeFits (lease_nodes v c) (
      (read_sfits w64 0xB0B5E2660C4ADC34, no_note),
      (
        tt,
        (
          own,
          (
            (read_sfits w64 0xF8865BAFA4A56DB6, no_note),
            (
              tt,
              (
                tt,
                (client, ((read_sfits w64 0xACF317F8060854E0, no_note), (addr, ((read_sfits w64 0x0F12700DBF364F12, no_note), (identifier, tt))))),
              ),
            ),
          ),
        ),
      ),
    )

units_fit : (v : ℤ) (c : Client) → All UnitsFitIn (lease_nodes v c)
unfolding lease_nodes
units_fit v c =
    let lease : All NameFits (desc_with (parts_of known.Lease) (slots.Null ∷ slots.Node 1 ∷ []) slots.Null).fields = all_of NameFits (desc_with (parts_of known.Lease) (slots.Null ∷ slots.Node 1 ∷ []) slots.Null).fields (small (codes "value") refl, (small (codes "vmid") refl, tt)) in
    let vmid : All NameFits (desc_with (parts_of known.Vmid) (slots.Node 4 ∷ slots.Node 5 ∷ []) slots.Null).fields = all_of NameFits (desc_with (parts_of known.Vmid) (slots.Node 4 ∷ slots.Node 5 ∷ []) slots.Null).fields (small (codes "addr") refl, (small (codes "uid") refl, tt)) in
    let uid : All NameFits (desc_with (parts_of known.Uid) (slots.Null ∷ slots.Null ∷ slots.Null ∷ []) slots.Null).fields = all_of NameFits (desc_with (parts_of known.Uid) (slots.Null ∷ slots.Null ∷ slots.Null ∷ []) slots.Null).fields (small (codes "count") refl, (small (codes "time") refl, (small (codes "unique") refl, tt))) in
    all_of UnitsFitIn (lease_nodes v c) (
      (small (codes "java.rmi.dgc.Lease") refl, lease),
      (
        small (codes "Ljava/rmi/dgc/VMID;") refl,
        (
          tt,
          (
            (small (codes "java.rmi.dgc.VMID") refl, vmid),
            (
              small (codes "[B") refl,
              (
                small (codes "Ljava/rmi/server/UID;") refl,
                (tt, ((small (codes "[B") refl, All-nil NameFits), (tt, ((small (codes "java.rmi.server.UID") refl, uid), (tt, tt))))),
              ),
            ),
          ),
        ),
      ),
    )

pub is_graph : (v : ℤ) (c : Client) → nat_lt (length c.addr) (2 ^ 31) ≡ true → FitsSigned w64 v → FitsUid c.uid → All (λ x. x < 2 ^ 8) c.addr → IsGraph (lease_nodes v c) lease_items
unfolding lease_nodes item_wants joined_from sizes_in notes_in parts_in
is_graph v c short fits uid addr = record {
  numbered = (11, num_own v c 195 [] short, refl);
  joined = refl;
  few_nodes = omega arith;
  few_parts = omega arith;
  numbers = numbers_fit v c fits uid addr;
  units = units_fit v c;
  bytes = all_of ItemFits lease_items (tt, tt);
}

-- ---- the lease

object_differs : (class : ℕ) (parts : List Part) (t : List ℕ) → Some (Object class parts) ≡ Some (Text t) → ⊥
object_differs class parts t e = cc

vmid_is_no_bytes : same_text (codes "Ljava/rmi/dgc/VMID;") (codes "[B") ≡ false
unfolding same_text
vmid_is_no_bytes = refl

vmid_is_no_uid : same_text (codes "Ljava/rmi/dgc/VMID;") (codes "Ljava/rmi/server/UID;") ≡ false
unfolding same_text
vmid_is_no_uid = refl

bytes_are_no_uid : same_text (codes "[B") (codes "Ljava/rmi/server/UID;") ≡ false
unfolding same_text
bytes_are_no_uid = refl

-- No node before the second is the type text of a VMID, none before the fifth that of bytes, and none before the sixth that of a UID.
no_vmid : (v : ℤ) (c : Client) (k : ℕ) → k < 1 → slice_get (lease_nodes v c) k ≡ Some (Text (codes "Ljava/rmi/dgc/VMID;")) → ⊥
unfolding lease_nodes
no_vmid v c zero lt e = desc_differs _ _ e
no_vmid v c (suc k) lt e = absurd (omega (arith, lt))

no_bytes : (v : ℤ) (c : Client) (k : ℕ) → k < 4 → slice_get (lease_nodes v c) k ≡ Some (Text (codes "[B")) → ⊥
unfolding lease_nodes
no_bytes v c zero lt e = desc_differs _ _ e
no_bytes v c (suc zero) lt e = texts_differ _ _ vmid_is_no_bytes e
no_bytes v c (suc (suc zero)) lt e = object_differs _ _ _ e
no_bytes v c (suc (suc (suc zero))) lt e = desc_differs _ _ e
no_bytes v c (suc (suc (suc (suc k)))) lt e = absurd (omega (arith, lt))

no_uid : (v : ℤ) (c : Client) (k : ℕ) → k < 5 → slice_get (lease_nodes v c) k ≡ Some (Text (codes "Ljava/rmi/server/UID;")) → ⊥
unfolding lease_nodes
no_uid v c zero lt e = desc_differs _ _ e
no_uid v c (suc zero) lt e = texts_differ _ _ vmid_is_no_uid e
no_uid v c (suc (suc zero)) lt e = object_differs _ _ _ e
no_uid v c (suc (suc (suc zero))) lt e = desc_differs _ _ e
no_uid v c (suc (suc (suc (suc zero)))) lt e = texts_differ _ _ bytes_are_no_uid e
no_uid v c (suc (suc (suc (suc (suc k))))) lt e = absurd (omega (arith, lt))

pub lease_is : (v : ℤ) (c : Client) → LeaseAt (lease_nodes v c) v c (slots.Node 2)
unfolding lease_nodes
lease_is v c = record {
  class = slots.Node 0;
  client = slots.Node 6;
  own = record { texts = slots.Null ∷ slots.Node 1 ∷ []; typed = (refl, ((1, refl, (refl, no_vmid v c)), refl)); is = refl };
  client_is = record {
    class = slots.Node 3;
    addr = slots.Node 8;
    uid = slots.Node 10;
    own = record { texts = slots.Node 4 ∷ slots.Node 5 ∷ []; typed = ((4, refl, (refl, no_bytes v c)), ((5, refl, (refl, no_uid v c)), refl)); is = refl };
    addr_is = record { class = slots.Node 7; own = record { texts = []; typed = refl; is = refl }; is = refl };
    uid_is = record { class = slots.Node 9; own = record { texts = slots.Null ∷ slots.Null ∷ slots.Null ∷ []; typed = (refl, (refl, (refl, refl))); is = refl }; is = refl };
    is = refl;
  };
  is = refl;
}
