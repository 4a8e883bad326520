-- Lists of identifiers that were built.
use Rattle.std.proofs.Common.{◌≡◌, ◌∙◌, ◌<◌, ◌≤◌, ◌+◌, ◌*◌, ◌++◌, take, get_or, ℕ, ℤ, true, List, [], ◌∷◌, length, Some, Result, Ok, Err, slice_get, codes, refl, ap, sym, subst, append-nil, arith}
use Rattle.std.specs.Prelude.{IsErrAnd}
use Rattle.std.proofs.lemmas.List.{take_more}
use Rattle.class_desc.specs.declared.slot.Slot.{Slot}
use Rattle.class_desc.specs.declared.slot.Slot.TheVariants as slots
use Rattle.class_desc.specs.declared.field.TypeCode.TheVariants as types
use Rattle.class_desc.specs.declared.known_class.KnownClass.TheVariants as known
use Rattle.class_desc.specs.KnownClass.{parts_of, plain_field, typed_field}
use Rattle.object_ids.specs.declared.ids.Uid.{Uid}
use Rattle.object_ids.specs.declared.ids.ObjId.{ObjId}
use Rattle.ser_values.specs.declared.fault.BuildFault.{BuildFault}
use Rattle.ser_values.specs.declared.value.Value.TheVariants as values
use Rattle.ser_values.specs.declared.value.Values.TheVariants as kinds
use Rattle.ser_values.specs.declared.node.Node.{Node}
use Rattle.ser_values.specs.declared.node.Node.TheVariants.{Desc, Object, Array}
use Rattle.ser_values.specs.Builder.{number_of}
use Rattle.java_shapes.specs.declared.id_lists.ListClasses.{ListClasses}
use Rattle.java_shapes.specs.Objects.{Held, same_text, node_at, value_of, as_slot, as_long, array_at, as_refs, each}
use Rattle.java_shapes.specs.Put.{Grows, IsPutRefusal, Puts, IsClassAt, desc_with}
use Rattle.java_shapes.specs.Ids.{uid_at, objid_of, objid_at, objids_at}
use Rattle.java_shapes.specs.Shapes.{one_part, uid_values, ObjIdAt, AreIds, ObjIdsAt}
use Rattle.java_shapes.specs.ListClasses.{AreListClasses}
use Rattle.java_shapes.proofs.Growth.{grows_then, puts_after, puts_map, class_grown, node_grown, numbered}
use Rattle.java_shapes.proofs.Built.{own_seen, two_types, held_of, uid_seen}

id_grown : {n : ℕ} {a b : List Node} (g : Grows n a b) (ic uc : Slot) (id : ObjId) (s : Slot) → ObjIdAt a ic uc id s → ObjIdAt b ic uc id s
id_grown g ic uc id s h = record {
  space = h.space;
  space_is = node_grown g h.space (Object (number_of uc) (one_part (uid_values id.space))) h.space_is;
  is = node_grown g s (Object (number_of ic) (one_part (values.Long id.number ∷ values.Ref h.space ∷ []))) h.is;
}

pub ids_grown : {n : ℕ} {a b : List Node} (g : Grows n a b) (ic uc : Slot) (ids : List ObjId) (ss : List Slot) → AreIds a ic uc ids ss → AreIds b ic uc ids ss
ids_grown g ic uc [] ss h = h
ids_grown g ic uc (id ∷ ids) [] h = h
ids_grown g ic uc (id ∷ ids) (s ∷ ss) h = (id_grown g ic uc id s h.0, ids_grown g ic uc ids ss h.1)

ids_more : (nodes : List Node) (ic uc : Slot) (ids : List ObjId) (ss : List Slot) (id : ObjId) (s : Slot) → AreIds nodes ic uc ids ss → ObjIdAt nodes ic uc id s → AreIds nodes ic uc (ids ++ id ∷ []) (ss ++ s ∷ [])
ids_more nodes ic uc [] [] id s h k = (k, refl)
ids_more nodes ic uc [] (u ∷ ss) id s h k = absurd cc
ids_more nodes ic uc (u ∷ ids) [] id s h k = absurd h
ids_more nodes ic uc (u ∷ ids) (v ∷ ss) id s h k = (h.0, ids_more nodes ic uc ids ss id s h.1 k)

pub ids_step : (nodes : List Node) (ic uc : Slot) (ids : List ObjId) (i : ℕ) (d id : ObjId) (ss more : List Slot) (s : Slot) → i < length ids → id ≡ get_or ids i d → AreIds nodes ic uc (take i ids) ss → ObjIdAt nodes ic uc id s
    → more ≡ ss ++ s ∷ [] → AreIds nodes ic uc (take (i + 1) ids) more
ids_step nodes ic uc ids i d id ss more s lt is h k e =
    let front : take (i + 1) ids ≡ take i ids ++ id ∷ [] = take_more ids i d lt ∙ ap (λ (x : ObjId). take i ids ++ x ∷ []) (sym is) in
    rw (front, e) (ids_more nodes ic uc (take i ids) ss id s h k)

same_id_name : same_text (codes "java.rmi.server.ObjID") (codes "java.rmi.server.ObjID") ≡ true
unfolding same_text
same_id_name = refl

same_ids_name : same_text (codes "[Ljava.rmi.server.ObjID;") (codes "[Ljava.rmi.server.ObjID;") ≡ true
unfolding same_text
same_ids_name = refl

number_told : (s t space : Slot) (number : ℤ) → as_long (value_of (held_of known.ObjId (s ∷ t ∷ []) (values.Long number ∷ values.Ref space ∷ [])) types.Long (codes "objNum")) ≡ Some number
unfolding value_of same_text
number_told s t space number = refl

space_told : (s t space : Slot) (number : ℤ) → as_slot (value_of (held_of known.ObjId (s ∷ t ∷ []) (values.Long number ∷ values.Ref space ∷ [])) types.Object (codes "space")) ≡ Some space
unfolding value_of same_text
space_told s t space number = refl

objid_is : (nodes : List Node) (held : Held) (number : ℤ) (slot : Slot) (space : Uid) → as_long (value_of held types.Long (codes "objNum")) ≡ Some number → as_slot (value_of held types.Object (codes "space")) ≡ Some slot
    → uid_at nodes slot ≡ Some space → objid_of nodes held ≡ Some (record { number = number; space = space })
unfolding objid_of
objid_is nodes held number slot space a b c = rw (a, b, c) refl

id_seen : (nodes : List Node) (ic uc : Slot) (id : ObjId) (s : Slot) → IsClassAt nodes known.ObjId slots.Null ic → IsClassAt nodes known.Uid slots.Null uc → ObjIdAt nodes ic uc id s → objid_at nodes s ≡ Some id
id_seen nodes ic uc id s i u h =
    let t = two_types nodes (plain_field types.Long (codes "objNum")) (typed_field types.Object (codes "space") (codes "Ljava/rmi/server/UID;")) i.texts i.typed in
    let own = own_seen nodes (codes "java.rmi.server.ObjID") known.ObjId ic s (record { values = values.Long id.number ∷ values.Ref h.space ∷ []; note = [] }) i h.is same_id_name in
    let space : uid_at nodes h.space ≡ Some id.space = uid_seen nodes id.space h.space (record { class = uc; own = u; is = h.space_is }) in
    rw (own, t.2) (objid_is nodes (held_of known.ObjId (t.0 ∷ t.1 ∷ []) (values.Long id.number ∷ values.Ref h.space ∷ [])) id.number h.space id.space (number_told t.0 t.1 h.space id.number) (space_told t.0 t.1 h.space id.number) space)

ids_told : (nodes : List Node) (ic uc : Slot) (ids : List ObjId) (ss : List Slot) → IsClassAt nodes known.ObjId slots.Null ic → IsClassAt nodes known.Uid slots.Null uc → AreIds nodes ic uc ids ss → each (objid_at nodes) ss ≡ Some ids
ids_told nodes ic uc [] ss i u h = rw h refl
ids_told nodes ic uc (id ∷ ids) [] i u h = absurd h
ids_told nodes ic uc (id ∷ ids) (s ∷ ss) i u h = rw (id_seen nodes ic uc id s i u h.0, ids_told nodes ic uc ids ss i u h.1) refl

pub ids_seen : (nodes : List Node) (ids : List ObjId) (s : Slot) → ObjIdsAt nodes ids s → objids_at nodes s ≡ Some ids
unfolding objids_at
ids_seen nodes ids s h =
    let e : slice_get nodes (number_of h.class) ≡ Some (Desc (desc_with (parts_of known.ObjIdArray) h.own.texts slots.Null)) = numbered nodes h.class _ h.own.is in
    let refs : as_refs (array_at nodes (codes "[Ljava.rmi.server.ObjID;") s) ≡ Some h.objects = rw (h.is, e, same_ids_name) refl in
    rw refs (ids_told nodes h.id_class h.uid_class ids h.objects h.id_own h.uid_own h.are)

pub grows_not : (nodes : List Node) → Grows 0 nodes nodes
grows_not nodes = record { added = []; few = omega arith; is = sym (append-nil nodes) }

-- What refuses a part refuses the whole.
pub puts_refused : {A : Type 0} (Shape : List Node → A → Type 0) {n m : ℕ} (most : ℕ) {a b c : List Node} (e : BuildFault) (result : Result A BuildFault) → IsErrAnd result (λ f. f ≡ e) → Grows n a b → Grows m b c × IsPutRefusal m b e → n + m ≤ most
    → Puts most Shape a c result
puts_refused Shape most e (Ok s) is g h le = absurd is
puts_refused Shape {m = m} most {a = a} {c = c} e (Err f) is g h le = subst (λ (x : BuildFault). Puts most Shape a c (Err x)) (sym is) (puts_after Shape m most c (Err e) g h le)

pub puts_list_classes : {old begun first new : List Node} (classes : ListClasses) → Grows 1 old begun → IsClassAt begun known.ObjIdArray slots.Null classes.list → Grows 3 begun first → IsClassAt first known.ObjId slots.Null classes.id
    → Grows 4 first new → IsClassAt new known.Uid slots.Null classes.uid → Grows 8 old new × AreListClasses new classes
puts_list_classes {old} {begun} {first} {new} classes g0 list g1 id g2 uid =
    let down : Grows 7 begun new = grows_then g1 g2 (omega arith) in
    (grows_then g0 down (omega arith), record { list = class_grown down list; id = class_grown g2 id; uid = uid })

pub puts_ids : (old begun mid new : List Node) (ids : List ObjId) (objects : List Slot) (classes : ListClasses) (r : Result Slot BuildFault) → Grows 8 old begun → AreListClasses begun classes
    → Grows (2 * length ids) begun mid → AreIds mid classes.id classes.uid ids objects
    → Puts 1 (λ loose s. node_at loose s ≡ Some (Array (number_of classes.list) (kinds.Refs objects))) mid new r
    → Puts (16 + 2 * length ids) (λ loose s. ObjIdsAt loose ids s) old new r
puts_ids old begun mid new ids objects classes r g own g1 are put =
    let up : Grows (8 + 2 * length ids) old mid = grows_then g g1 (omega arith) in
    puts_after (λ loose s. ObjIdsAt loose ids s) 1 (16 + 2 * length ids) new r up
    (puts_map (λ loose s. node_at loose s ≡ Some (Array (number_of classes.list) (kinds.Refs objects))) (λ loose s. ObjIdsAt loose ids s) 1 mid new r put
    (λ s grown is.
    let down : Grows (1 + 2 * length ids) begun new = grows_then g1 grown (omega arith) in
    record {
      class = classes.list;
      id_class = classes.id;
      uid_class = classes.uid;
      objects = objects;
      own = class_grown down own.list;
      id_own = class_grown down own.id;
      uid_own = class_grown down own.uid;
      are = ids_grown grown classes.id classes.uid ids objects are;
      is = is;
    }))
    (omega arith)
