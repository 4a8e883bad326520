-- What views tell of loose nodes, they tell of the finished graph.
use Rattle.std.proofs.Common.{◌≡◌, ◌∙◌, ◌+◌, ◌-◌, ℕ, zero, suc, Bool, true, false, not, cond, nat_lt, List, [], ◌∷◌, ◌++◌, map, length, Option, Some, None, option_map, codes, slice_get, refl, ap, sym, subst}
use Rattle.std.specs.Prelude.{position}
use Rattle.std.specs.List.{position_or_len, prefix_len}
use Rattle.std.proofs.lemmas.Option.{slice_get-map}
use Rattle.class_desc.specs.declared.slot.Slot.{Slot}
use Rattle.class_desc.specs.declared.slot.Slot.TheVariants as slots
use Rattle.class_desc.specs.declared.slot.Item.{Item}
use Rattle.class_desc.specs.declared.slot.Item.TheVariants as items
use Rattle.class_desc.specs.declared.field.TypeCode.{TypeCode}
use Rattle.class_desc.specs.declared.field.TypeCode.TheVariants as types
use Rattle.class_desc.specs.declared.field.FieldDesc.{FieldDesc}
use Rattle.class_desc.specs.declared.desc.ClassDesc.{ClassDesc}
use Rattle.ser_values.specs.declared.value.Value.{Value}
use Rattle.ser_values.specs.declared.value.Value.TheVariants as values
use Rattle.ser_values.specs.declared.value.Part.{Part}
use Rattle.ser_values.specs.declared.node.Node.{Node}
use Rattle.ser_values.specs.declared.node.Node.TheVariants.{Text, Desc, Proxy, Object, Array, Class, Enum}
use Rattle.ser_values.specs.declared.node.SlotPlace.TheVariants as places
use Rattle.ser_values.specs.Node.{has, item_wants, value_wants, part_wants, field_wants, before, after}
use Rattle.ser_values.specs.Finished.{IsGraphOf}
use Rattle.ser_values.specs.Visits.{Visits}
use Rattle.ser_values.specs.Renumber.{place_in, slot_by, item_by, field_by, value_by, part_by, desc_by, node_by, reordered}
use Rattle.ser_values.specs.Seen.{Once}
use Rattle.ser_values.proofs.Added.{Names, NamesAll, Wants, look, all_adds, visits_add}
use Rattle.ser_values.proofs.Renumbered.{map_len, split_named, last_named}
use Rattle.ser_values.proofs.Reached.{once_in_order}
use Rattle.java_shapes.specs.Objects.{same_text, Held, node_at, text_in, text_at, name_in, named_in, parent_in, held_here, held_within, held_in, held_at, own_of, own_in, own_at, is_field, value_in, value_of, as_slot, ◌>>=◌}
use Rattle.java_shapes.specs.LiveRefs.{is_proxy, is_proxied, proxy_handler, holder_at, one_run, run_of, ref_in, stub_ref_at, live_ref_at}
use Rattle.java_shapes.specs.Throwable.{class_name_in, class_name_at, text_of, message_of, with_message, fault_text_of, fault_text_at}

-- ---- the finished nodes

-- Nodes in an order that names all that they name.
pub record Finished (loose nodes : List Node) (F : List ℕ) : Type 0 where
  pub wants : (j : ℕ) (i : Node) → has F j ≡ true → slice_get loose j ≡ Some i → Wants F i
  pub there : (j : ℕ) → has F j ≡ true → (i : Node) × (slice_get loose j ≡ Some i)
  pub once : Once F
  pub are : nodes ≡ reordered loose F

nothing : (j : ℕ) → has [] j ≡ false
unfolding has
nothing j = refl

pub finished : (loose : List Node) (items : List Item) (nodes : List Node) (to : List Item) (g : IsGraphOf loose items nodes to) → Finished loose nodes g.order
finished loose items nodes to g =
    let adds = (all_adds loose (Visits loose 200) (visits_add loose 200) [] (item_wants items) [] g.order g.is_order.visits).0 in
    record {
      wants = λ j i h is. adds.closed j i h (nothing j) is;
      there = λ j h. adds.there j h (nothing j);
      once = once_in_order loose items 200 g.order g.is_order;
      are = g.nodes_are;
    }

pub items_named : (loose : List Node) (items : List Item) (nodes : List Node) (to : List Item) (g : IsGraphOf loose items nodes to) → NamesAll g.order (item_wants items)
items_named loose items nodes to g = (all_adds loose (Visits loose 200) (visits_add loose 200) [] (item_wants items) [] g.order g.is_order.visits).1

pub node_same : {loose nodes : List Node} {F : List ℕ} → Finished loose nodes F → (s : Slot) → Names F s → node_at nodes (slot_by (place_in F) s) ≡ option_map (node_by (place_in F)) (node_at loose s)
node_same d slots.Null n = refl
node_same {loose = loose} {F = F} d (slots.Node k) n =
    let w = d.there k n in
    let found = look loose F k d.once n in
    rw (d.are) (found ∙ rw (w.1) refl)

-- ---- classes

pub named_by : (f : ℕ → ℕ) (name : List ℕ) (o : Option Node) → named_in name (option_map (node_by f) o) ≡ option_map (desc_by f) (named_in name o)
unfolding node_by
named_by f name None = refl
named_by f name (Some (Text t)) = refl
named_by f name (Some (Desc d)) = by_test (same_text d.name name) refl
  where
    by_test : (b : Bool) → same_text d.name name ≡ b → named_in name (Some (Desc (desc_by f d))) ≡ option_map (desc_by f) (named_in name (Some (Desc d)))
    by_test true e = rw e refl
    by_test false e = rw e refl
named_by f name (Some (Proxy p)) = refl
named_by f name (Some (Object c ps)) = refl
named_by f name (Some (Array c vs)) = refl
named_by f name (Some (Class c)) = refl
named_by f name (Some (Enum c t)) = refl

parent_by : (f : ℕ → ℕ) (o : Option Node) → parent_in (option_map (node_by f) o) ≡ option_map (slot_by f) (parent_in o)
unfolding node_by
parent_by f None = refl
parent_by f (Some (Text t)) = refl
parent_by f (Some (Desc d)) = refl
parent_by f (Some (Proxy p)) = refl
parent_by f (Some (Object c ps)) = refl
parent_by f (Some (Array c vs)) = refl
parent_by f (Some (Class c)) = refl
parent_by f (Some (Enum c t)) = refl

some_slot : (u v : Slot) → Some u ≡ Some v → u ≡ v
some_slot u v e = ap (λ (o : Option Slot). or_slot o) e
  where
    or_slot : Option Slot → Slot
    or_slot (Some s) = s
    or_slot None = u

above_named : (F : List ℕ) (i : Node) (u : Slot) → Wants F i → parent_in (Some i) ≡ Some u → Names F u
unfolding after
above_named F (Text t) u w e = absurd cc
above_named F (Desc d) u w e = subst (λ (s : Slot). Names F s) (some_slot d.parent u e) (last_named F (item_wants d.note) (places.Parent, d.parent) (split_named F (field_wants d.fields) (item_wants d.note ++ (places.Parent, d.parent) ∷ []) w.afters).1)
above_named F (Proxy p) u w e = subst (λ (s : Slot). Names F s) (some_slot p.parent u e) (last_named F (item_wants p.note) (places.Parent, p.parent) w.afters)
above_named F (Object c ps) u w e = absurd cc
above_named F (Array c vs) u w e = absurd cc
above_named F (Class c) u w e = absurd cc
above_named F (Enum c t) u w e = absurd cc

parent_named : {loose nodes : List Node} {F : List ℕ} → Finished loose nodes F → (s u : Slot) → Names F s → parent_in (node_at loose s) ≡ Some u → Names F u
parent_named d slots.Null u n e = absurd cc
parent_named {F = F} d (slots.Node k) u n e =
    let w = d.there k n in
    above_named F w.0 u (d.wants k w.0 n w.1) (ap (λ (o : Option Node). parent_in o) (sym w.1) ∙ e)

-- ---- what an object holds

abbrev pub held_by : (ℕ → ℕ) → Held → Held
held_by f h = (desc_by f h.0, part_by f h.1)

-- the same, under new numbers; what it names has one
abbrev pub RHeld : List ℕ → Option Held → Option Held → Type 0
RHeld F None None = Unit {0}
RHeld F (Some h) (Some g) = (g ≡ held_by (place_in F) h) × NamesAll F (value_wants (h.1).values)
RHeld F _ _ = ⊥

some_part : (p q : Part) → Some p ≡ Some q → p ≡ q
some_part p q e = ap (λ (o : Option Part). or_part o) e
  where
    or_part : Option Part → Part
    or_part (Some x) = x
    or_part None = p

pub values_named : (F : List ℕ) (ps : List Part) (k : ℕ) (p : Part) → NamesAll F (part_wants ps) → slice_get ps k ≡ Some p → NamesAll F (value_wants p.values)
unfolding part_wants
values_named F [] k p n e = absurd cc
values_named F (x ∷ ps) zero p n e = subst (λ (y : Part). NamesAll F (value_wants y.values)) (some_part x p e) (split_named F (value_wants x.values) (item_wants x.note ++ part_wants ps) n).0
values_named F (x ∷ ps) (suc k) p n e = values_named F ps k p (split_named F (item_wants x.note) (part_wants ps) (split_named F (value_wants x.values) (item_wants x.note ++ part_wants ps) n).1).1 e

here_r : (F : List ℕ) (above more : Slot → Option Held) → ((u : Slot) → Names F u → RHeld F (above u) (more (slot_by (place_in F) u))) → (o : Option Part) → ((p : Part) → o ≡ Some p → NamesAll F (value_wants p.values))
    → (d : Option ClassDesc) (up : Option Slot) → ((u : Slot) → up ≡ Some u → Names F u) → RHeld F (held_here above o d up) (held_here more (option_map (part_by (place_in F)) o) (option_map (desc_by (place_in F)) d) (option_map (slot_by (place_in F)) up))
here_r F above more f None g d up n = tt
here_r F above more f (Some p) g (Some d) up n = (refl, g p refl)
here_r F above more f (Some p) g None (Some u) n = f u (n u refl)
here_r F above more f (Some p) g None None n = tt

within_r : {loose nodes : List Node} {F : List ℕ} → Finished loose nodes F → (name : List ℕ) (ps : List Part) → NamesAll F (part_wants ps) → (n : ℕ) (s : Slot) → Names F s
    → RHeld F (held_within loose name ps n s) (held_within nodes name (map (part_by (place_in F)) ps) n (slot_by (place_in F) s))
unfolding held_within
within_r d name ps w zero s named = tt
within_r {loose = loose} {nodes = nodes} {F = F} d name ps w (suc n) s named =
    let f = place_in F in
    let node = node_same d s named in
    let class : named_in name (node_at nodes (slot_by f s)) ≡ option_map (desc_by f) (named_in name (node_at loose s)) = ap (λ (o : Option Node). named_in name o) node ∙ named_by f name (node_at loose s) in
    let up : parent_in (node_at nodes (slot_by f s)) ≡ option_map (slot_by f) (parent_in (node_at loose s)) = ap (λ (o : Option Node). parent_in o) node ∙ parent_by f (node_at loose s) in
    let part : slice_get (map (part_by f) ps) n ≡ option_map (part_by f) (slice_get ps n) = slice_get-map (part_by f) ps n in
    rw (class, up, part) (here_r F (held_within loose name ps n) (held_within nodes name (map (part_by f) ps) n) (λ u k. within_r d name ps w n u k) (slice_get ps n) (λ p e. values_named F ps n p w e)
    (named_in name (node_at loose s)) (parent_in (node_at loose s)) (λ u e. parent_named d s u named e))

-- its class and the names in its parts
abbrev pub ObjectNamed : List ℕ → Option Node → Type 0
ObjectNamed F (Some (Object c ps)) = (has F c ≡ true) × NamesAll F (part_wants ps)
ObjectNamed F _ = Unit {0}

object_wants : (F : List ℕ) (i : Node) → Wants F i → ObjectNamed F (Some i)
unfolding before after
object_wants F (Object c ps) w = (w.befores.0, w.afters)
object_wants F (Text t) w = tt
object_wants F (Desc d) w = tt
object_wants F (Proxy p) w = tt
object_wants F (Array c vs) w = tt
object_wants F (Class c) w = tt
object_wants F (Enum c t) w = tt

pub object_named : {loose nodes : List Node} {F : List ℕ} → Finished loose nodes F → (s : Slot) → Names F s → ObjectNamed F (node_at loose s)
object_named d slots.Null n = tt
object_named {F = F} d (slots.Node k) n = let w = d.there k n in subst (λ (o : Option Node). ObjectNamed F o) (sym w.1) (object_wants F w.0 (d.wants k w.0 n w.1))

in_r : {loose nodes : List Node} {F : List ℕ} → Finished loose nodes F → (name : List ℕ) (o : Option Node) → ObjectNamed F o → RHeld F (held_in loose name o) (held_in nodes name (option_map (node_by (place_in F)) o))
unfolding node_by
in_r d name None n = tt
in_r d name (Some (Text t)) n = tt
in_r d name (Some (Desc x)) n = tt
in_r d name (Some (Proxy p)) n = tt
in_r {nodes = nodes} {F = F} d name (Some (Object c ps)) n = rw (map_len (part_by (place_in F)) ps) (within_r d name ps n.1 (length ps) (slots.Node c) n.0)
in_r d name (Some (Array c vs)) n = tt
in_r d name (Some (Class c)) n = tt
in_r d name (Some (Enum c t)) n = tt

held_r : {loose nodes : List Node} {F : List ℕ} → Finished loose nodes F → (name : List ℕ) (s : Slot) → Names F s → RHeld F (held_at loose name s) (held_at nodes name (slot_by (place_in F) s))
held_r d name s n = rw (node_same d s n) (in_r d name (node_at _ s) (object_named d s n))

-- ---- fields

prefix_same : (f : ℕ → ℕ) (code : TypeCode) (name : List ℕ) (fs : List FieldDesc) → prefix_len (λ x. not (is_field code name x)) (map (field_by f) fs) ≡ prefix_len (λ x. not (is_field code name x)) fs
prefix_same f code name [] = refl
prefix_same f code name (x ∷ fs) = ap (λ (n : ℕ). cond (not (is_field code name x)) (1 + n) 0) (prefix_same f code name fs)

position_same : (f : ℕ → ℕ) (code : TypeCode) (name : List ℕ) (fs : List FieldDesc) → position (is_field code name) (map (field_by f) fs) ≡ position (is_field code name) fs
position_same f code name fs =
    ap (λ (n : ℕ). cond (nat_lt n (length (map (field_by f) fs))) (Some n) None) (prefix_same f code name fs)
    ∙ ap (λ (m : ℕ). cond (nat_lt (position_or_len (is_field code name) fs) m) (Some (position_or_len (is_field code name) fs)) None) (map_len (field_by f) fs)

value_by_place : (f : ℕ → ℕ) (vs : List Value) (o : Option ℕ) → value_in (map (value_by f) vs) o ≡ option_map (value_by f) (value_in vs o)
value_by_place f vs None = refl
value_by_place f vs (Some k) = slice_get-map (value_by f) vs k

pub value_same : (f : ℕ → ℕ) (h : Held) (code : TypeCode) (name : List ℕ) → value_of (held_by f h) code name ≡ option_map (value_by f) (value_of h code name)
unfolding value_of
value_same f h code name = ap (λ (o : Option ℕ). value_in (map (value_by f) (h.1).values) o) (position_same f code name (h.0).fields) ∙ value_by_place f (h.1).values (position (is_field code name) (h.0).fields)

slot_same : (f : ℕ → ℕ) (o : Option Value) → as_slot (option_map (value_by f) o) ≡ option_map (slot_by f) (as_slot o)
slot_same f None = refl
slot_same f (Some (values.Byte v)) = refl
slot_same f (Some (values.Char v)) = refl
slot_same f (Some (values.Double v)) = refl
slot_same f (Some (values.Float v)) = refl
slot_same f (Some (values.Int v)) = refl
slot_same f (Some (values.Long v)) = refl
slot_same f (Some (values.Short v)) = refl
slot_same f (Some (values.Boolean v)) = refl
slot_same f (Some (values.Ref s)) = refl

abbrev pub SlotNamed : List ℕ → Option Slot → Type 0
SlotNamed F None = Unit {0}
SlotNamed F (Some s) = Names F s

get_named : (F : List ℕ) (vs : List Value) (k : ℕ) → NamesAll F (value_wants vs) → SlotNamed F (as_slot (slice_get vs k))
unfolding value_wants
get_named F [] k n = tt
get_named F (values.Ref s ∷ vs) zero n = n.0
get_named F (values.Ref s ∷ vs) (suc k) n = get_named F vs k n.1
get_named F (values.Byte v ∷ vs) zero n = tt
get_named F (values.Char v ∷ vs) zero n = tt
get_named F (values.Double v ∷ vs) zero n = tt
get_named F (values.Float v ∷ vs) zero n = tt
get_named F (values.Int v ∷ vs) zero n = tt
get_named F (values.Long v ∷ vs) zero n = tt
get_named F (values.Short v ∷ vs) zero n = tt
get_named F (values.Boolean v ∷ vs) zero n = tt
get_named F (values.Byte v ∷ vs) (suc k) n = get_named F vs k n
get_named F (values.Char v ∷ vs) (suc k) n = get_named F vs k n
get_named F (values.Double v ∷ vs) (suc k) n = get_named F vs k n
get_named F (values.Float v ∷ vs) (suc k) n = get_named F vs k n
get_named F (values.Int v ∷ vs) (suc k) n = get_named F vs k n
get_named F (values.Long v ∷ vs) (suc k) n = get_named F vs k n
get_named F (values.Short v ∷ vs) (suc k) n = get_named F vs k n
get_named F (values.Boolean v ∷ vs) (suc k) n = get_named F vs k n

in_named : (F : List ℕ) (vs : List Value) (o : Option ℕ) → NamesAll F (value_wants vs) → SlotNamed F (as_slot (value_in vs o))
in_named F vs None n = tt
in_named F vs (Some k) n = get_named F vs k n

field_named : (F : List ℕ) (h : Held) (code : TypeCode) (name : List ℕ) → NamesAll F (value_wants (h.1).values) → SlotNamed F (as_slot (value_of h code name))
unfolding value_of
field_named F h code name n = in_named F (h.1).values (position (is_field code name) (h.0).fields) n

-- the reference in a field, of what an object holds
abbrev pub field_in : TypeCode → List ℕ → Option Held → Option Slot
field_in code name None = None
field_in code name (Some h) = as_slot (value_of h code name)

pub field_r : (F : List ℕ) (code : TypeCode) (name : List ℕ) (o q : Option Held) → RHeld F o q → (field_in code name q ≡ option_map (slot_by (place_in F)) (field_in code name o)) × SlotNamed F (field_in code name o)
field_r F code name None None r = (refl, tt)
field_r F code name None (Some g) r = absurd r
field_r F code name (Some h) None r = absurd r
field_r F code name (Some h) (Some g) r =
    (ap (λ (x : Held). as_slot (value_of x code name)) r.0 ∙ (ap as_slot (value_same (place_in F) h code name) ∙ slot_same (place_in F) (value_of h code name)), field_named F h code name r.1)

-- ---- texts and faults

text_by : (f : ℕ → ℕ) (o : Option Node) → text_in (option_map (node_by f) o) ≡ text_in o
unfolding node_by
text_by f None = refl
text_by f (Some (Text t)) = refl
text_by f (Some (Desc d)) = refl
text_by f (Some (Proxy p)) = refl
text_by f (Some (Object c ps)) = refl
text_by f (Some (Array c vs)) = refl
text_by f (Some (Class c)) = refl
text_by f (Some (Enum c t)) = refl

pub text_stays : {loose nodes : List Node} {F : List ℕ} → Finished loose nodes F → (s : Slot) → Names F s → text_at nodes (slot_by (place_in F) s) ≡ text_at loose s
text_stays {loose = loose} {F = F} d s n = ap (λ (o : Option Node). text_in o) (node_same d s n) ∙ text_by (place_in F) (node_at loose s)

name_by : (f : ℕ → ℕ) (o : Option Node) → name_in (option_map (node_by f) o) ≡ name_in o
unfolding node_by
name_by f None = refl
name_by f (Some (Text t)) = refl
name_by f (Some (Desc d)) = refl
name_by f (Some (Proxy p)) = refl
name_by f (Some (Object c ps)) = refl
name_by f (Some (Array c vs)) = refl
name_by f (Some (Class c)) = refl
name_by f (Some (Enum c t)) = refl

class_name_r : {loose nodes : List Node} {F : List ℕ} → Finished loose nodes F → (o : Option Node) → ObjectNamed F o → class_name_in nodes (option_map (node_by (place_in F)) o) ≡ class_name_in loose o
unfolding node_by
class_name_r d None n = refl
class_name_r d (Some (Text t)) n = refl
class_name_r d (Some (Desc x)) n = refl
class_name_r d (Some (Proxy p)) n = refl
class_name_r {loose = loose} {F = F} d (Some (Object c ps)) n = ap (λ (o : Option Node). name_in o) (node_same d (slots.Node c) n.0) ∙ name_by (place_in F) (slice_get loose c)
class_name_r d (Some (Array c vs)) n = refl
class_name_r d (Some (Class c)) n = refl
class_name_r d (Some (Enum c t)) n = refl

text_of_r : {loose nodes : List Node} {F : List ℕ} → Finished loose nodes F → (o : Option Slot) → SlotNamed F o → text_of nodes (option_map (slot_by (place_in F)) o) ≡ text_of loose o
text_of_r d None n = refl
text_of_r d (Some s) n = text_stays d s n

fault_r : {loose nodes : List Node} {F : List ℕ} → Finished loose nodes F → (name : Option (List ℕ)) (o q : Option Held) → RHeld F o q → fault_text_of nodes name q ≡ fault_text_of loose name o
fault_r d None o q r = refl
fault_r d (Some name) None None r = refl
fault_r d (Some name) None (Some g) r = absurd r
fault_r d (Some name) (Some h) None r = absurd r
fault_r {loose = loose} {nodes = nodes} {F = F} d (Some name) (Some h) (Some g) r =
    let field = field_r F types.Object (codes "detailMessage") (Some h) (Some g) r in
    let told : message_of nodes g ≡ message_of loose h = ap (λ (o : Option Slot). text_of nodes o) field.0 ∙ text_of_r d (as_slot (value_of h types.Object (codes "detailMessage"))) field.1 in
    ap (λ (m : Option (List ℕ)). Some (with_message name m)) told

pub fault_stays : {loose nodes : List Node} {F : List ℕ} → Finished loose nodes F → (s : Slot) → Names F s → fault_text_at nodes (slot_by (place_in F) s) ≡ fault_text_at loose s
fault_stays {loose = loose} {nodes = nodes} {F = F} d s n =
    let name : class_name_at nodes (slot_by (place_in F) s) ≡ class_name_at loose s = ap (λ (o : Option Node). class_name_in nodes o) (node_same d s n) ∙ class_name_r d (node_at loose s) (object_named d s n) in
    ap (λ (o : Option (List ℕ)). fault_text_of nodes o (held_at nodes (codes "java.lang.Throwable") (slot_by (place_in F) s))) name
    ∙ fault_r d (class_name_at loose s) (held_at loose (codes "java.lang.Throwable") s) (held_at nodes (codes "java.lang.Throwable") (slot_by (place_in F) s)) (held_r d (codes "java.lang.Throwable") s n)

-- ---- references

proxy_by_kind : (f : ℕ → ℕ) (o : Option Node) → is_proxy (option_map (node_by f) o) ≡ is_proxy o
unfolding node_by
proxy_by_kind f None = refl
proxy_by_kind f (Some (Text t)) = refl
proxy_by_kind f (Some (Desc d)) = refl
proxy_by_kind f (Some (Proxy p)) = refl
proxy_by_kind f (Some (Object c ps)) = refl
proxy_by_kind f (Some (Array c vs)) = refl
proxy_by_kind f (Some (Class c)) = refl
proxy_by_kind f (Some (Enum c t)) = refl

proxied_r : {loose nodes : List Node} {F : List ℕ} → Finished loose nodes F → (o : Option Node) → ObjectNamed F o → is_proxied nodes (option_map (node_by (place_in F)) o) ≡ is_proxied loose o
unfolding node_by
proxied_r d None n = refl
proxied_r d (Some (Text t)) n = refl
proxied_r d (Some (Desc x)) n = refl
proxied_r d (Some (Proxy p)) n = refl
proxied_r {loose = loose} {F = F} d (Some (Object c ps)) n = ap (λ (o : Option Node). is_proxy o) (node_same d (slots.Node c) n.0) ∙ proxy_by_kind (place_in F) (slice_get loose c)
proxied_r d (Some (Array c vs)) n = refl
proxied_r d (Some (Class c)) n = refl
proxied_r d (Some (Enum c t)) n = refl

abbrev handler_name : List ℕ
handler_name = codes "java.rmi.server.RemoteObjectInvocationHandler"

own_kept : (f : ℕ → ℕ) (d : Option ClassDesc) (o : Option Part) (s t : Slot) → (own_of (option_map (desc_by f) d) (option_map (part_by f) o) >>= λ held. Some t) ≡ (own_of d o >>= λ held. Some t)
own_kept f None o s t = refl
own_kept f (Some d) None s t = refl
own_kept f (Some d) (Some p) s t = refl

own_r : {loose nodes : List Node} {F : List ℕ} → Finished loose nodes F → (t : Slot) (o : Option Node) → ObjectNamed F o → (own_in nodes handler_name (option_map (node_by (place_in F)) o) >>= λ held. Some t) ≡ (own_in loose handler_name o >>= λ held. Some t)
unfolding node_by
own_r d t None n = refl
own_r d t (Some (Text x)) n = refl
own_r d t (Some (Desc x)) n = refl
own_r d t (Some (Proxy p)) n = refl
own_r {loose = loose} {nodes = nodes} {F = F} d t (Some (Object c ps)) n =
    let f = place_in F in
    let class : named_in handler_name (slice_get nodes (f c)) ≡ option_map (desc_by f) (named_in handler_name (slice_get loose c)) = ap (λ (o : Option Node). named_in handler_name o) (node_same d (slots.Node c) n.0) ∙ named_by f handler_name (slice_get loose c) in
    let part : slice_get (map (part_by f) ps) (length (map (part_by f) ps) - 1) ≡ option_map (part_by f) (slice_get ps (length ps - 1)) = ap (λ (m : ℕ). slice_get (map (part_by f) ps) (m - 1)) (map_len (part_by f) ps) ∙ slice_get-map (part_by f) ps (length ps - 1) in
    ap (λ (x : Option ClassDesc). own_of x (slice_get (map (part_by f) ps) (length (map (part_by f) ps) - 1)) >>= λ held. Some t) class
    ∙ (ap (λ (y : Option Part). own_of (option_map (desc_by f) (named_in handler_name (slice_get loose c))) y >>= λ held. Some t) part ∙ own_kept f (named_in handler_name (slice_get loose c)) (slice_get ps (length ps - 1)) t t)
own_r d t (Some (Array c vs)) n = refl
own_r d t (Some (Class c)) n = refl
own_r d t (Some (Enum c x)) n = refl

abbrev has_own : List Node → Slot → Option Slot
has_own nodes s = own_at nodes handler_name s >>= λ held. Some s

kept_slot : {A : Type 0} (f : ℕ → ℕ) (o : Option A) (s : Slot) → (o >>= λ held. Some (slot_by f s)) ≡ option_map (slot_by f) (o >>= λ held. Some s)
kept_slot f None s = refl
kept_slot f (Some x) s = refl

own_slot : {loose nodes : List Node} {F : List ℕ} → Finished loose nodes F → (s : Slot) → Names F s → has_own nodes (slot_by (place_in F) s) ≡ option_map (slot_by (place_in F)) (has_own loose s)
own_slot {loose = loose} {nodes = nodes} {F = F} d s n =
    ap (λ (o : Option Node). own_in nodes handler_name o >>= λ held. Some (slot_by (place_in F) s)) (node_same d s n)
    ∙ (own_r d (slot_by (place_in F) s) (node_at loose s) (object_named d s n) ∙ kept_slot (place_in F) (own_at loose handler_name s) s)

own_named : (F : List ℕ) (nodes : List Node) (s : Slot) → Names F s → SlotNamed F (has_own nodes s)
own_named F nodes s n = kept_named (own_at nodes handler_name s)
  where
    kept_named : (o : Option Held) → SlotNamed F (o >>= λ held. Some s)
    kept_named None = tt
    kept_named (Some h) = n

bound : {loose nodes : List Node} {F : List ℕ} → Finished loose nodes F → (o q : Option Slot) → q ≡ option_map (slot_by (place_in F)) o → SlotNamed F o → ((q >>= has_own nodes) ≡ option_map (slot_by (place_in F)) (o >>= has_own loose)) × SlotNamed F (o >>= has_own loose)
bound d None q e n = (rw e refl, tt)
bound {loose = loose} {F = F} d (Some s) q e n = (rw e (own_slot d s n), own_named F loose s n)

handler_by : (nodes : List Node) (s : Slot) → proxy_handler nodes s ≡ (field_in types.Object (codes "h") (held_at nodes (codes "java.lang.reflect.Proxy") s) >>= has_own nodes)
unfolding proxy_handler
handler_by nodes s = by_held (held_at nodes (codes "java.lang.reflect.Proxy") s)
  where
    by_held : (o : Option Held) → (o >>= λ proxy. as_slot (value_of proxy types.Object (codes "h")) >>= has_own nodes) ≡ (field_in types.Object (codes "h") o >>= has_own nodes)
    by_held None = refl
    by_held (Some h) = refl

handler_r : {loose nodes : List Node} {F : List ℕ} → Finished loose nodes F → (s : Slot) → Names F s → (proxy_handler nodes (slot_by (place_in F) s) ≡ option_map (slot_by (place_in F)) (proxy_handler loose s)) × SlotNamed F (proxy_handler loose s)
handler_r {loose = loose} {nodes = nodes} {F = F} d s n =
    let t = slot_by (place_in F) s in
    let proxy = codes "java.lang.reflect.Proxy" in
    let field = field_r F types.Object (codes "h") (held_at loose proxy s) (held_at nodes proxy t) (held_r d proxy s n) in
    let own = bound d (field_in types.Object (codes "h") (held_at loose proxy s)) (field_in types.Object (codes "h") (held_at nodes proxy t)) field.0 field.1 in
    (handler_by nodes t ∙ (own.0 ∙ ap (option_map (slot_by (place_in F))) (sym (handler_by loose s))), subst (λ (o : Option Slot). SlotNamed F o) (sym (handler_by loose s)) own.1)

holder_by : (F : List ℕ) (nodes loose : List Node) (s : Slot) (b : Bool) → Names F s → is_proxied nodes (node_at nodes (slot_by (place_in F) s)) ≡ b → is_proxied loose (node_at loose s) ≡ b
    → (o q : Option Slot) → proxy_handler nodes (slot_by (place_in F) s) ≡ q → proxy_handler loose s ≡ o → q ≡ option_map (slot_by (place_in F)) o → SlotNamed F o
    → (holder_at nodes (slot_by (place_in F) s) ≡ slot_by (place_in F) (holder_at loose s)) × Names F (holder_at loose s)
holder_by F nodes loose s false n e f o q g h same named = (rw (e, f) refl, rw f n)
holder_by F nodes loose s true n e f None q g h same named = (rw (e, f, g, h, same) refl, rw (f, h) n)
holder_by F nodes loose s true n e f (Some u) q g h same named = (rw (e, f, g, h, same) refl, rw (f, h) named)

holder_r : {loose nodes : List Node} {F : List ℕ} → Finished loose nodes F → (s : Slot) → Names F s → (holder_at nodes (slot_by (place_in F) s) ≡ slot_by (place_in F) (holder_at loose s)) × Names F (holder_at loose s)
holder_r {loose = loose} {nodes = nodes} {F = F} d s n =
    let t = slot_by (place_in F) s in
    let kind : is_proxied nodes (node_at nodes t) ≡ is_proxied loose (node_at loose s) = ap (λ (o : Option Node). is_proxied nodes o) (node_same d s n) ∙ proxied_r d (node_at loose s) (object_named d s n) in
    let h = handler_r d s n in
    holder_by F nodes loose s (is_proxied loose (node_at loose s)) n kind refl (proxy_handler loose s) (proxy_handler nodes t) refl refl h.0 h.1

run_by : (f : ℕ → ℕ) (l : List Item) → one_run (map (item_by f) l) ≡ one_run l
run_by f [] = refl
run_by f (items.Bytes b ∷ []) = refl
run_by f (items.Bytes b ∷ y ∷ ys) = refl
run_by f (items.Ref s ∷ ys) = refl

run_r : (F : List ℕ) (o q : Option Held) → RHeld F o q → run_of q ≡ run_of o
run_r F None None r = refl
run_r F None (Some g) r = absurd r
run_r F (Some h) None r = absurd r
run_r F (Some h) (Some g) r = ap (λ (x : Held). one_run (x.1).note) r.0 ∙ run_by (place_in F) (h.1).note

pub ref_stays : {loose nodes : List Node} {F : List ℕ} → Finished loose nodes F → (s : Slot) → Names F s → live_ref_at nodes (slot_by (place_in F) s) ≡ live_ref_at loose s
ref_stays {loose = loose} {nodes = nodes} {F = F} d s n =
    let h = holder_r d s n in
    let remote = codes "java.rmi.server.RemoteObject" in
    ap (λ (u : Slot). stub_ref_at nodes u) h.0
    ∙ ap (λ (o : Option (List ℕ)). ref_in o) (run_r F (held_at loose remote (holder_at loose s)) (held_at nodes remote (slot_by (place_in F) (holder_at loose s))) (held_r d remote (holder_at loose s) h.1))
