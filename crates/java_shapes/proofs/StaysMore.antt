-- What views tell of identifiers, clients, leases and lists, they tell of the finished graph.
use Rattle.std.proofs.Common.{◌≡◌, ◌∙◌, ◌-◌, ℕ, ℤ, true, List, [], ◌∷◌, map, length, Option, Some, None, option_map, codes, slice_get, refl, ap, sym, subst}
use Rattle.std.proofs.lemmas.Option.{slice_get-map}
use Rattle.class_desc.specs.declared.slot.Slot.{Slot}
use Rattle.class_desc.specs.declared.slot.Slot.TheVariants as slots
use Rattle.class_desc.specs.declared.slot.Item.{Item}
use Rattle.class_desc.specs.declared.slot.Item.TheVariants as items
use Rattle.class_desc.specs.declared.field.TypeCode.{TypeCode}
use Rattle.class_desc.specs.declared.field.TypeCode.TheVariants as types
use Rattle.class_desc.specs.declared.desc.ClassDesc.{ClassDesc}
use Rattle.ser_values.specs.declared.value.Value.{Value}
use Rattle.ser_values.specs.declared.value.Value.TheVariants as values
use Rattle.ser_values.specs.declared.value.Values.{Values}
use Rattle.ser_values.specs.declared.value.Values.TheVariants as kinds
use Rattle.ser_values.specs.declared.value.Part.{Part}
use Rattle.ser_values.specs.declared.node.Node.{Node}
use Rattle.ser_values.specs.declared.node.Node.TheVariants.{Text, Desc, Proxy, Object, Array, Class, Enum}
use Rattle.ser_values.specs.Node.{has, item_wants, value_wants, slot_wants, element_wants, before, after}
use Rattle.ser_values.specs.Finished.{IsGraphOf}
use Rattle.ser_values.specs.Renumber.{place_in, slot_by, value_by, part_by, values_by, desc_by, node_by}
use Rattle.ser_values.proofs.Added.{Names, NamesAll, Wants}
use Rattle.ser_values.proofs.Renumbered.{map_len}
use Rattle.java_shapes.specs.declared.lease_views.LeaseView.{LeaseView}
use Rattle.java_shapes.specs.Objects.{Held, node_at, text_at, named_in, own_of, own_in, own_at, value_of, as_slot, as_short, as_int, as_long, elements_of, array_in, array_at, as_bytes, as_refs, ◌>>=◌, each}
use Rattle.java_shapes.specs.Ids.{uid_of, uid_at, objid_of, objid_at, objids_at, vmid_parts, vmid_of, vmid_at, vmid_or_null, lease_parts, lease_with, lease_of, lease_at, texts_at}
use Rattle.java_shapes.specs.ShapeLaws.{ViewsStayIn}
use Rattle.java_shapes.proofs.Stays.{Finished, node_same, named_by, values_named, held_by, RHeld, ObjectNamed, object_named, value_same, SlotNamed, field_r, text_stays, fault_stays, ref_stays, finished, items_named}

-- ---- steps

bind_ext : {A B : Type 0} (o : Option A) (k m : A → Option B) → ((x : A) → k x ≡ m x) → (o >>= k) ≡ (o >>= m)
bind_ext None k m e = refl
bind_ext (Some x) k m e = e x

bind_held : {B : Type 0} (F : List ℕ) (o q : Option Held) (k m : Held → Option B) → RHeld F o q → ((h : Held) → NamesAll F (value_wants (h.1).values) → m (held_by (place_in F) h) ≡ k h) → (q >>= m) ≡ (o >>= k)
bind_held F None None k m r e = refl
bind_held F None (Some g) k m r e = absurd r
bind_held F (Some h) None k m r e = absurd r
bind_held F (Some h) (Some g) k m r e = ap m r.0 ∙ e h r.1

bind_slot : {B : Type 0} (F : List ℕ) (o q : Option Slot) (k m : Slot → Option B) → q ≡ option_map (slot_by (place_in F)) o → SlotNamed F o → ((s : Slot) → Names F s → m (slot_by (place_in F) s) ≡ k s) → (q >>= m) ≡ (o >>= k)
bind_slot F None q k m e n f = rw e refl
bind_slot F (Some s) q k m e n f = rw e (f s n)

-- ---- fields

number_same : (f : ℕ → ℕ) (read : Option Value → Option ℤ) → ((s t : Slot) → read (Some (values.Ref s)) ≡ read (Some (values.Ref t))) → (o : Option Value) → read (option_map (value_by f) o) ≡ read o
number_same f read e None = refl
number_same f read e (Some (values.Byte v)) = refl
number_same f read e (Some (values.Char v)) = refl
number_same f read e (Some (values.Double v)) = refl
number_same f read e (Some (values.Float v)) = refl
number_same f read e (Some (values.Int v)) = refl
number_same f read e (Some (values.Long v)) = refl
number_same f read e (Some (values.Short v)) = refl
number_same f read e (Some (values.Boolean v)) = refl
number_same f read e (Some (values.Ref s)) = e (slot_by f s) s

long_same : (f : ℕ → ℕ) (h : Held) (name : List ℕ) → as_long (value_of (held_by f h) types.Long name) ≡ as_long (value_of h types.Long name)
long_same f h name = ap as_long (value_same f h types.Long name) ∙ number_same f (λ o. as_long o) (λ s t. refl) (value_of h types.Long name)

int_same : (f : ℕ → ℕ) (h : Held) (name : List ℕ) → as_int (value_of (held_by f h) types.Int name) ≡ as_int (value_of h types.Int name)
int_same f h name = ap as_int (value_same f h types.Int name) ∙ number_same f (λ o. as_int o) (λ s t. refl) (value_of h types.Int name)

short_same : (f : ℕ → ℕ) (h : Held) (name : List ℕ) → as_short (value_of (held_by f h) types.Short name) ≡ as_short (value_of h types.Short name)
short_same f h name = ap as_short (value_same f h types.Short name) ∙ number_same f (λ o. as_short o) (λ s t. refl) (value_of h types.Short name)

-- ---- an object's own class

own_of_r : (F : List ℕ) (d : Option ClassDesc) (o : Option Part) → ((p : Part) → o ≡ Some p → NamesAll F (value_wants p.values)) → RHeld F (own_of d o) (own_of (option_map (desc_by (place_in F)) d) (option_map (part_by (place_in F)) o))
own_of_r F None None n = tt
own_of_r F None (Some p) n = tt
own_of_r F (Some d) None n = tt
own_of_r F (Some d) (Some p) n = (refl, n p refl)

own_in_r : {loose nodes : List Node} {F : List ℕ} → Finished loose nodes F → (name : List ℕ) (o : Option Node) → ObjectNamed F o → RHeld F (own_in loose name o) (own_in nodes name (option_map (node_by (place_in F)) o))
unfolding node_by
own_in_r d name None n = tt
own_in_r d name (Some (Text t)) n = tt
own_in_r d name (Some (Desc x)) n = tt
own_in_r d name (Some (Proxy p)) n = tt
own_in_r {loose = loose} {nodes = nodes} {F = F} d name (Some (Object c ps)) n =
    let f = place_in F in
    let class : named_in name (slice_get nodes (f c)) ≡ option_map (desc_by f) (named_in name (slice_get loose c)) = ap (λ (o : Option Node). named_in name o) (node_same d (slots.Node c) n.0) ∙ named_by f name (slice_get loose c) in
    let part : slice_get (map (part_by f) ps) (length (map (part_by f) ps) - 1) ≡ option_map (part_by f) (slice_get ps (length ps - 1)) = ap (λ (m : ℕ). slice_get (map (part_by f) ps) (m - 1)) (map_len (part_by f) ps) ∙ slice_get-map (part_by f) ps (length ps - 1) in
    rw (class, part) (own_of_r F (named_in name (slice_get loose c)) (slice_get ps (length ps - 1)) (λ p e. values_named F ps (length ps - 1) p n.1 e))
own_in_r d name (Some (Array c vs)) n = tt
own_in_r d name (Some (Class c)) n = tt
own_in_r d name (Some (Enum c t)) n = tt

own_held : {loose nodes : List Node} {F : List ℕ} → Finished loose nodes F → (name : List ℕ) (s : Slot) → Names F s → RHeld F (own_at loose name s) (own_at nodes name (slot_by (place_in F) s))
own_held {loose = loose} d name s n = rw (node_same d s n) (own_in_r d name (node_at loose s) (object_named d s n))

-- ---- identifiers

uid_of_same : (f : ℕ → ℕ) (h : Held) → uid_of (held_by f h) ≡ uid_of h
unfolding uid_of
uid_of_same f h = rw (short_same f h (codes "count"), long_same f h (codes "time"), int_same f h (codes "unique")) refl

uid_stays : {loose nodes : List Node} {F : List ℕ} → Finished loose nodes F → (s : Slot) → Names F s → uid_at nodes (slot_by (place_in F) s) ≡ uid_at loose s
uid_stays {loose = loose} {nodes = nodes} {F = F} d s n =
    bind_held F (own_at loose (codes "java.rmi.server.UID") s) (own_at nodes (codes "java.rmi.server.UID") (slot_by (place_in F) s)) uid_of uid_of (own_held d (codes "java.rmi.server.UID") s n) (λ h w. uid_of_same (place_in F) h)

slot_field : (F : List ℕ) (h : Held) (code : TypeCode) (name : List ℕ) → NamesAll F (value_wants (h.1).values) → (as_slot (value_of (held_by (place_in F) h) code name) ≡ option_map (slot_by (place_in F)) (as_slot (value_of h code name))) × SlotNamed F (as_slot (value_of h code name))
slot_field F h code name w = field_r F code name (Some h) (Some (held_by (place_in F) h)) (refl, w)

objid_of_same : {loose nodes : List Node} {F : List ℕ} → Finished loose nodes F → (h : Held) → NamesAll F (value_wants (h.1).values) → objid_of nodes (held_by (place_in F) h) ≡ objid_of loose h
unfolding objid_of
objid_of_same {loose = loose} {nodes = nodes} {F = F} d h w =
    let space = slot_field F h types.Object (codes "space") w in
    rw (long_same (place_in F) h (codes "objNum")) (bind_ext (as_long (value_of h types.Long (codes "objNum"))) _ _ (λ number.
    bind_slot F (as_slot (value_of h types.Object (codes "space"))) (as_slot (value_of (held_by (place_in F) h) types.Object (codes "space"))) _ _ space.0 space.1 (λ s k. rw (uid_stays d s k) refl)))

objid_stays : {loose nodes : List Node} {F : List ℕ} → Finished loose nodes F → (s : Slot) → Names F s → objid_at nodes (slot_by (place_in F) s) ≡ objid_at loose s
objid_stays {loose = loose} {nodes = nodes} {F = F} d s n =
    bind_held F (own_at loose (codes "java.rmi.server.ObjID") s) (own_at nodes (codes "java.rmi.server.ObjID") (slot_by (place_in F) s)) (objid_of loose) (objid_of nodes) (own_held d (codes "java.rmi.server.ObjID") s n) (λ h w. objid_of_same d h w)

-- ---- arrays

abbrev ArrayNamed : List ℕ → Option Node → Type 0
ArrayNamed F (Some (Array c vs)) = (has F c ≡ true) × NamesAll F (element_wants vs)
ArrayNamed F _ = Unit {0}

array_wants : (F : List ℕ) (i : Node) → Wants F i → ArrayNamed F (Some i)
unfolding before after
array_wants F (Array c vs) w = (w.befores.0, w.afters)
array_wants F (Object c ps) w = tt
array_wants F (Text t) w = tt
array_wants F (Desc d) w = tt
array_wants F (Proxy p) w = tt
array_wants F (Class c) w = tt
array_wants F (Enum c t) w = tt

array_named : {loose nodes : List Node} {F : List ℕ} → Finished loose nodes F → (s : Slot) → Names F s → ArrayNamed F (node_at loose s)
array_named d slots.Null n = tt
array_named {F = F} d (slots.Node k) n = let w = d.there k n in subst (λ (o : Option Node). ArrayNamed F o) (sym w.1) (array_wants F w.0 (d.wants k w.0 n w.1))

-- the same elements, under new numbers
abbrev RValues : List ℕ → Option Values → Option Values → Type 0
RValues F None None = Unit {0}
RValues F (Some v) (Some x) = (x ≡ values_by (place_in F) v) × NamesAll F (element_wants v)
RValues F _ _ = ⊥

elements_r : (F : List ℕ) (d : Option ClassDesc) (v : Values) → NamesAll F (element_wants v) → RValues F (elements_of d v) (elements_of (option_map (desc_by (place_in F)) d) (values_by (place_in F) v))
elements_r F None v n = tt
elements_r F (Some d) v n = (refl, n)

array_in_r : {loose nodes : List Node} {F : List ℕ} → Finished loose nodes F → (name : List ℕ) (o : Option Node) → ArrayNamed F o → RValues F (array_in loose name o) (array_in nodes name (option_map (node_by (place_in F)) o))
unfolding node_by
array_in_r d name None n = tt
array_in_r d name (Some (Text t)) n = tt
array_in_r d name (Some (Desc x)) n = tt
array_in_r d name (Some (Proxy p)) n = tt
array_in_r d name (Some (Object c ps)) n = tt
array_in_r {loose = loose} {nodes = nodes} {F = F} d name (Some (Array c vs)) n =
    let f = place_in F in
    let class : named_in name (slice_get nodes (f c)) ≡ option_map (desc_by f) (named_in name (slice_get loose c)) = ap (λ (o : Option Node). named_in name o) (node_same d (slots.Node c) n.0) ∙ named_by f name (slice_get loose c) in
    rw (class) (elements_r F (named_in name (slice_get loose c)) vs n.1)
array_in_r d name (Some (Class c)) n = tt
array_in_r d name (Some (Enum c t)) n = tt

array_r : {loose nodes : List Node} {F : List ℕ} → Finished loose nodes F → (name : List ℕ) (s : Slot) → Names F s → RValues F (array_at loose name s) (array_at nodes name (slot_by (place_in F) s))
array_r {loose = loose} d name s n = rw (node_same d s n) (array_in_r d name (node_at loose s) (array_named d s n))

bytes_by : (f : ℕ → ℕ) (v : Values) → as_bytes (Some (values_by f v)) ≡ as_bytes (Some v)
bytes_by f (kinds.Bytes b) = refl
bytes_by f (kinds.Chars b) = refl
bytes_by f (kinds.Doubles b) = refl
bytes_by f (kinds.Floats b) = refl
bytes_by f (kinds.Ints b) = refl
bytes_by f (kinds.Longs b) = refl
bytes_by f (kinds.Shorts b) = refl
bytes_by f (kinds.Bools b) = refl
bytes_by f (kinds.Refs ss) = refl

bytes_r : (F : List ℕ) (o q : Option Values) → RValues F o q → as_bytes q ≡ as_bytes o
bytes_r F None None r = refl
bytes_r F None (Some x) r = absurd r
bytes_r F (Some v) None r = absurd r
bytes_r F (Some v) (Some x) r = ap (λ (y : Values). as_bytes (Some y)) r.0 ∙ bytes_by (place_in F) v

each_same : {B : Type 0} (F : List ℕ) (k m : Slot → Option B) → ((s : Slot) → Names F s → m (slot_by (place_in F) s) ≡ k s) → (ss : List Slot) → NamesAll F (slot_wants ss) → each m (map (slot_by (place_in F)) ss) ≡ each k ss
unfolding slot_wants
each_same F k m e [] n = refl
each_same F k m e (s ∷ ss) n = rw (e s n.0, each_same F k m e ss n.1) refl

refs_by : {B : Type 0} (F : List ℕ) (k m : Slot → Option B) → ((s : Slot) → Names F s → m (slot_by (place_in F) s) ≡ k s) → (v : Values) → NamesAll F (element_wants v) → (as_refs (Some (values_by (place_in F) v)) >>= each m) ≡ (as_refs (Some v) >>= each k)
refs_by F k m e (kinds.Bytes b) n = refl
refs_by F k m e (kinds.Chars b) n = refl
refs_by F k m e (kinds.Doubles b) n = refl
refs_by F k m e (kinds.Floats b) n = refl
refs_by F k m e (kinds.Ints b) n = refl
refs_by F k m e (kinds.Longs b) n = refl
refs_by F k m e (kinds.Shorts b) n = refl
refs_by F k m e (kinds.Bools b) n = refl
refs_by F k m e (kinds.Refs ss) n = each_same F k m e ss n

refs_r : {B : Type 0} (F : List ℕ) (k m : Slot → Option B) → ((s : Slot) → Names F s → m (slot_by (place_in F) s) ≡ k s) → (o q : Option Values) → RValues F o q → (as_refs q >>= each m) ≡ (as_refs o >>= each k)
refs_r F k m e None None r = refl
refs_r F k m e None (Some x) r = absurd r
refs_r F k m e (Some v) None r = absurd r
refs_r F k m e (Some v) (Some x) r = ap (λ (y : Values). as_refs (Some y) >>= each m) r.0 ∙ refs_by F k m e v r.1

pub texts_stay : {loose nodes : List Node} {F : List ℕ} → Finished loose nodes F → (s : Slot) → Names F s → texts_at nodes (slot_by (place_in F) s) ≡ texts_at loose s
unfolding texts_at
texts_stay {loose = loose} {nodes = nodes} {F = F} d s n =
    refs_r F (text_at loose) (text_at nodes) (λ t k. text_stays d t k) (array_at loose (codes "[Ljava.lang.String;") s) (array_at nodes (codes "[Ljava.lang.String;") (slot_by (place_in F) s)) (array_r d (codes "[Ljava.lang.String;") s n)

pub objids_stay : {loose nodes : List Node} {F : List ℕ} → Finished loose nodes F → (s : Slot) → Names F s → objids_at nodes (slot_by (place_in F) s) ≡ objids_at loose s
unfolding objids_at
objids_stay {loose = loose} {nodes = nodes} {F = F} d s n =
    refs_r F (objid_at loose) (objid_at nodes) (λ t k. objid_stays d t k) (array_at loose (codes "[Ljava.rmi.server.ObjID;") s) (array_at nodes (codes "[Ljava.rmi.server.ObjID;") (slot_by (place_in F) s)) (array_r d (codes "[Ljava.rmi.server.ObjID;") s n)

-- ---- clients and leases

vmid_parts_same : {loose nodes : List Node} {F : List ℕ} → Finished loose nodes F → (h : Held) → NamesAll F (value_wants (h.1).values) → vmid_parts nodes (held_by (place_in F) h) ≡ vmid_parts loose h
unfolding vmid_parts
vmid_parts_same {loose = loose} {nodes = nodes} {F = F} d h w =
    let addr = slot_field F h types.Array (codes "addr") w in
    let uid = slot_field F h types.Object (codes "uid") w in
    bind_slot F (as_slot (value_of h types.Array (codes "addr"))) (as_slot (value_of (held_by (place_in F) h) types.Array (codes "addr"))) _ _ addr.0 addr.1 (λ p k.
    bind_slot F (as_slot (value_of h types.Object (codes "uid"))) (as_slot (value_of (held_by (place_in F) h) types.Object (codes "uid"))) _ _ uid.0 uid.1 (λ s l.
    rw (bytes_r F (array_at loose (codes "[B") p) (array_at nodes (codes "[B") (slot_by (place_in F) p)) (array_r d (codes "[B") p k), uid_stays d s l) refl))

pub vmid_stays : {loose nodes : List Node} {F : List ℕ} → Finished loose nodes F → (s : Slot) → Names F s → vmid_at nodes (slot_by (place_in F) s) ≡ vmid_at loose s
vmid_stays {loose = loose} {nodes = nodes} {F = F} d s n =
    ap vmid_of (bind_held F (own_at loose (codes "java.rmi.dgc.VMID") s) (own_at nodes (codes "java.rmi.dgc.VMID") (slot_by (place_in F) s)) (vmid_parts loose) (vmid_parts nodes) (own_held d (codes "java.rmi.dgc.VMID") s n) (λ h w. vmid_parts_same d h w))

or_null_stays : {loose nodes : List Node} {F : List ℕ} → Finished loose nodes F → (s : Slot) → Names F s → vmid_or_null nodes (slot_by (place_in F) s) ≡ vmid_or_null loose s
or_null_stays d slots.Null n = refl
or_null_stays d (slots.Node k) n = ap (option_map (λ v. Some v)) (vmid_stays d (slots.Node k) n)

-- the lease of an object with these fields
abbrev lease_in : List Node → Option Held → Option LeaseView
lease_in nodes o = lease_of nodes (o >>= lease_parts)

lease_by : {loose nodes : List Node} {F : List ℕ} → Finished loose nodes F → (value : Option ℤ) (o q : Option Slot) → q ≡ option_map (slot_by (place_in F)) o → SlotNamed F o
    → lease_of nodes (value >>= λ v. q >>= λ s. Some (v, s)) ≡ lease_of loose (value >>= λ v. o >>= λ s. Some (v, s))
lease_by d None o q e n = refl
lease_by d (Some v) None q e n = rw e refl
lease_by d (Some v) (Some s) q e n = rw e (ap (lease_with v) (or_null_stays d s n))

lease_in_r : {loose nodes : List Node} {F : List ℕ} → Finished loose nodes F → (o q : Option Held) → RHeld F o q → lease_in nodes q ≡ lease_in loose o
unfolding lease_parts
lease_in_r d None None r = refl
lease_in_r d None (Some g) r = absurd r
lease_in_r d (Some h) None r = absurd r
lease_in_r {loose = loose} {nodes = nodes} {F = F} d (Some h) (Some g) r =
    let slot = slot_field F h types.Object (codes "vmid") r.1 in
    ap (λ (x : Held). lease_in nodes (Some x)) r.0
    ∙ rw (long_same (place_in F) h (codes "value")) (lease_by d (as_long (value_of h types.Long (codes "value"))) (as_slot (value_of h types.Object (codes "vmid"))) (as_slot (value_of (held_by (place_in F) h) types.Object (codes "vmid"))) slot.0 slot.1)

pub lease_stays : {loose nodes : List Node} {F : List ℕ} → Finished loose nodes F → (s : Slot) → Names F s → lease_at nodes (slot_by (place_in F) s) ≡ lease_at loose s
lease_stays {loose = loose} {nodes = nodes} {F = F} d s n = lease_in_r d (own_at loose (codes "java.rmi.dgc.Lease") s) (own_at nodes (codes "java.rmi.dgc.Lease") (slot_by (place_in F) s)) (own_held d (codes "java.rmi.dgc.Lease") s n)

-- ---- all views

pub one_stays : (loose : List Node) (s : Slot) (nodes : List Node) (to : List Item) → IsGraphOf loose (items.Ref s ∷ []) nodes to → ViewsStayIn loose s nodes to
unfolding item_wants
one_stays loose s nodes to g =
    let d = finished loose (items.Ref s ∷ []) nodes to g in
    let n = (items_named loose (items.Ref s ∷ []) nodes to g).0 in
    record { slot = slot_by (place_in g.order) s; is = g.items_are; text = text_stays d s n; texts = texts_stay d s n; ids = objids_stay d s n; vmid = vmid_stays d s n; lease = lease_stays d s n; fault = fault_stays d s n; reference = ref_stays d s n }
