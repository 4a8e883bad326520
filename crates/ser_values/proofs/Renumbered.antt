-- A node under new numbers has the same form: it wants the same, and it keeps the same rules.
use Rattle.std.proofs.Common.{◌≡◌, ℕ, zero, suc, Bool, true, false, cond, List, [], ◌∷◌, ◌++◌, map, length, Option, Some, None, slice_get, refl, ap, ◌∙◌}
use Rattle.std.specs.Prelude.{option_map}
use Rattle.std.proofs.lemmas.Option.{slice_get-map}
use Rattle.class_desc.specs.declared.slot.Slot.{Slot}
use Rattle.class_desc.specs.declared.slot.Slot.TheVariants as slots
use Rattle.class_desc.specs.declared.slot.Item.{Item}
use Rattle.class_desc.specs.declared.slot.Item.TheVariants as items
use Rattle.class_desc.specs.declared.field.TypeCode.{TypeCode}
use Rattle.class_desc.specs.declared.field.TypeCode.TheVariants as codes
use Rattle.class_desc.specs.declared.field.FieldDesc.{FieldDesc}
use Rattle.class_desc.specs.declared.desc.ClassDesc.{ClassDesc}
use Rattle.class_desc.specs.declared.desc.ProxyDesc.{ProxyDesc}
use Rattle.class_desc.specs.TypeCode.{is_primitive}
use Rattle.class_desc.specs.TypeText.{is_nil, element_of}
use Rattle.class_desc.specs.ClassDesc.{has_flag, fit_flags, are_ordered, is_good_desc}
use Rattle.ser_values.specs.declared.value.Value.{Value}
use Rattle.ser_values.specs.declared.value.Value.TheVariants as values
use Rattle.ser_values.specs.declared.value.Values.{Values}
use Rattle.ser_values.specs.declared.value.Values.TheVariants as kinds
use Rattle.ser_values.specs.declared.value.Part.{Part}
use Rattle.ser_values.specs.declared.node.Node.{Node}
use Rattle.ser_values.specs.declared.node.Node.TheVariants.{Text, Desc, Proxy, Object, Array, Class, Enum}
use Rattle.ser_values.specs.declared.node.SlotPlace.{SlotPlace}
use Rattle.ser_values.specs.declared.node.SlotPlace.TheVariants as places
use Rattle.ser_values.specs.Node.{has, Want, is_desc, is_text, admits, item_wants, value_wants, part_wants, field_wants, slot_wants, element_wants, before, after}
use Rattle.ser_values.specs.Shape.{joined_from, is_joined, fits_node, fits_type, are_typed, fits_value, fit_values, fits_part, fits_above, fits_chain, is_external, fits_object, fit_elements, count_of, fits_array, is_enum, is_shaped}
use Rattle.ser_values.specs.Renumber.{place_in, slot_by, item_by, field_by, value_by, part_by, values_by, node_by, node_or_by, reordered}
use Rattle.ser_values.specs.Seen.{Once}
use Rattle.ser_values.proofs.Added.{Names, NamesAll, Wants, look}

-- ---- lists

pub map_push : {A B : Type 0} (f : A → B) (xs : List A) (y : A) → map f xs ++ f y ∷ [] ≡ map f (xs ++ y ∷ [])
map_push f [] y = refl
map_push f (x ∷ xs) y = ap (λ l. f x ∷ l) (map_push f xs y)

pub map_len : {A B : Type 0} (f : A → B) (xs : List A) → length (map f xs) ≡ length xs
map_len f [] = refl
map_len f (x ∷ xs) = ap suc (map_len f xs)

map_two : {A B : Type 0} (f : A → B) (xs ys : List A) → map f xs ++ map f ys ≡ map f (xs ++ ys)
map_two f [] ys = refl
map_two f (x ∷ xs) ys = ap (λ l. f x ∷ l) (map_two f xs ys)

nil_map : {A B : Type 0} (f : A → B) (xs : List A) → is_nil (map f xs) ≡ is_nil xs
nil_map f [] = refl
nil_map f (x ∷ xs) = refl

-- ---- kinds

pub is_desc-node_by : (f : ℕ → ℕ) (i : Node) → is_desc (node_by f i) ≡ is_desc i
unfolding is_desc node_by
is_desc-node_by f (Text t) = refl
is_desc-node_by f (Desc d) = refl
is_desc-node_by f (Proxy p) = refl
is_desc-node_by f (Object c ps) = refl
is_desc-node_by f (Array c vs) = refl
is_desc-node_by f (Class c) = refl
is_desc-node_by f (Enum c t) = refl

pub is_text-node_by : (f : ℕ → ℕ) (i : Node) → is_text (node_by f i) ≡ is_text i
unfolding is_text node_by
is_text-node_by f (Text t) = refl
is_text-node_by f (Desc d) = refl
is_text-node_by f (Proxy p) = refl
is_text-node_by f (Object c ps) = refl
is_text-node_by f (Array c vs) = refl
is_text-node_by f (Class c) = refl
is_text-node_by f (Enum c t) = refl

pub admits-node_by : (f : ℕ → ℕ) (p : SlotPlace) (i : Node) → admits p (node_by f i) ≡ admits p i
unfolding admits
admits-node_by f places.Reference i = refl
admits-node_by f places.Class i = is_desc-node_by f i
admits-node_by f places.Parent i = is_desc-node_by f i
admits-node_by f places.Text i = is_text-node_by f i

-- ---- wants

abbrev pub want_by : (ℕ → ℕ) → Want → Want
want_by f w = (w.0, slot_by f w.1)

pub item_wants-map : (f : ℕ → ℕ) (is : List Item) → item_wants (map (item_by f) is) ≡ map (want_by f) (item_wants is)
unfolding item_wants
item_wants-map f [] = refl
item_wants-map f (items.Bytes b ∷ is) = item_wants-map f is
item_wants-map f (items.Ref s ∷ is) = ap (λ (l : List Want). (places.Reference, slot_by f s) ∷ l) (item_wants-map f is)

value_wants-map : (f : ℕ → ℕ) (vs : List Value) → value_wants (map (value_by f) vs) ≡ map (want_by f) (value_wants vs)
unfolding value_wants
value_wants-map f [] = refl
value_wants-map f (values.Byte v ∷ vs) = value_wants-map f vs
value_wants-map f (values.Char v ∷ vs) = value_wants-map f vs
value_wants-map f (values.Double v ∷ vs) = value_wants-map f vs
value_wants-map f (values.Float v ∷ vs) = value_wants-map f vs
value_wants-map f (values.Int v ∷ vs) = value_wants-map f vs
value_wants-map f (values.Long v ∷ vs) = value_wants-map f vs
value_wants-map f (values.Short v ∷ vs) = value_wants-map f vs
value_wants-map f (values.Boolean v ∷ vs) = value_wants-map f vs
value_wants-map f (values.Ref s ∷ vs) = ap (λ (l : List Want). (places.Reference, slot_by f s) ∷ l) (value_wants-map f vs)

part_wants-map : (f : ℕ → ℕ) (ps : List Part) → part_wants (map (part_by f) ps) ≡ map (want_by f) (part_wants ps)
unfolding part_wants
part_wants-map f [] = refl
part_wants-map f (p ∷ ps) =
    rw (value_wants-map f p.values, item_wants-map f p.note, part_wants-map f ps) (rw (map_two (want_by f) (item_wants p.note) (part_wants ps)) (map_two (want_by f) (value_wants p.values) (item_wants p.note ++ part_wants ps)))

field_wants-map : (f : ℕ → ℕ) (fs : List FieldDesc) → field_wants (map (field_by f) fs) ≡ map (want_by f) (field_wants fs)
unfolding field_wants
field_wants-map f [] = refl
field_wants-map f (d ∷ fs) = go (is_primitive d.code) (field_wants-map f fs)
  where
    go : (b : Bool) → field_wants (map (field_by f) fs) ≡ map (want_by f) (field_wants fs)
        → cond b (field_wants (map (field_by f) fs)) ((places.Text, cond b d.type_text (slot_by f d.type_text)) ∷ field_wants (map (field_by f) fs)) ≡ map (want_by f) (cond b (field_wants fs) ((places.Text, d.type_text) ∷ field_wants fs))
    go true e = e
    go false e = ap (λ (l : List Want). (places.Text, slot_by f d.type_text) ∷ l) e

slot_wants-map : (f : ℕ → ℕ) (ss : List Slot) → slot_wants (map (slot_by f) ss) ≡ map (want_by f) (slot_wants ss)
unfolding slot_wants
slot_wants-map f [] = refl
slot_wants-map f (s ∷ ss) = ap (λ (l : List Want). (places.Reference, slot_by f s) ∷ l) (slot_wants-map f ss)

element_wants-values_by : (f : ℕ → ℕ) (vs : Values) → element_wants (values_by f vs) ≡ map (want_by f) (element_wants vs)
element_wants-values_by f (kinds.Bytes v) = refl
element_wants-values_by f (kinds.Chars v) = refl
element_wants-values_by f (kinds.Doubles v) = refl
element_wants-values_by f (kinds.Floats v) = refl
element_wants-values_by f (kinds.Ints v) = refl
element_wants-values_by f (kinds.Longs v) = refl
element_wants-values_by f (kinds.Shorts v) = refl
element_wants-values_by f (kinds.Bools v) = refl
element_wants-values_by f (kinds.Refs ss) = slot_wants-map f ss

pub before-node_by : (f : ℕ → ℕ) (i : Node) → before (node_by f i) ≡ map (want_by f) (before i)
unfolding before node_by
before-node_by f (Text t) = refl
before-node_by f (Desc d) = refl
before-node_by f (Proxy p) = refl
before-node_by f (Object c ps) = refl
before-node_by f (Array c vs) = refl
before-node_by f (Class c) = refl
before-node_by f (Enum c t) = refl

pub after-node_by : (f : ℕ → ℕ) (i : Node) → after (node_by f i) ≡ map (want_by f) (after i)
unfolding after node_by
after-node_by f (Text t) = refl
after-node_by f (Desc d) =
    rw (field_wants-map f d.fields, item_wants-map f d.note) (rw (map_push (want_by f) (item_wants d.note) (places.Parent, d.parent)) (map_two (want_by f) (field_wants d.fields) (item_wants d.note ++ (places.Parent, d.parent) ∷ [])))
after-node_by f (Proxy p) = rw (item_wants-map f p.note) (map_push (want_by f) (item_wants p.note) (places.Parent, p.parent))
after-node_by f (Object c ps) = part_wants-map f ps
after-node_by f (Array c vs) = element_wants-values_by f vs
after-node_by f (Class c) = refl
after-node_by f (Enum c t) = refl

-- ---- what is visited names only what is visited

pub record Closed (loose : List Node) (F : List ℕ) : Type 0 where
  pub wants : (j : ℕ) (i : Node) → has F j ≡ true → slice_get loose j ≡ Some i → Wants F i
  pub there : (j : ℕ) → has F j ≡ true → (i : Node) × (slice_get loose j ≡ Some i)

pub split_named : (F : List ℕ) (xs ys : List Want) → NamesAll F (xs ++ ys) → NamesAll F xs × NamesAll F ys
split_named F [] ys n = (tt, n)
split_named F (x ∷ xs) ys n = let r = split_named F xs ys n.1 in ((n.0, r.0), r.1)

pub last_named : (F : List ℕ) (ws : List Want) (w : Want) → NamesAll F (ws ++ w ∷ []) → Names F w.1
last_named F ws w n = (split_named F ws (w ∷ []) n).1.0

parent_named : (F : List ℕ) (d : ClassDesc) → Wants F (Desc d) → Names F d.parent
unfolding after
parent_named F d n = last_named F (item_wants d.note) (places.Parent, d.parent) (split_named F (field_wants d.fields) (item_wants d.note ++ (places.Parent, d.parent) ∷ []) n.afters).1

proxy_parent_named : (F : List ℕ) (p : ProxyDesc) → Wants F (Proxy p) → Names F p.parent
unfolding after
proxy_parent_named F p n = last_named F (item_wants p.note) (places.Parent, p.parent) n.afters

field_named_at : (F : List ℕ) (b : Bool) (t : Slot) (ws : List Want) → NamesAll F (cond b ws ((places.Text, t) ∷ ws)) → (b ≡ false → Names F t) × NamesAll F ws
field_named_at F true t ws n = (λ e. absurd cc, n)
field_named_at F false t ws n = (λ e. n.0, n.1)

-- ---- rules on one node

joined_from-map : (f : ℕ → ℕ) (after : Bool) (is : List Item) → joined_from after (map (item_by f) is) ≡ joined_from after is
unfolding joined_from
joined_from-map f after [] = refl
joined_from-map f after (items.Ref s ∷ is) = joined_from-map f false is
joined_from-map f after (items.Bytes b ∷ is) = rw (joined_from-map f true is) refl

pub is_joined-map : (f : ℕ → ℕ) (is : List Item) → is_joined (map (item_by f) is) ≡ is_joined is
is_joined-map f is = joined_from-map f false is

fits_value-value_by : (f : ℕ → ℕ) (code : TypeCode) (v : Value) → fits_value code (value_by f v) ≡ fits_value code v
fits_value-value_by f code (values.Byte v) = refl
fits_value-value_by f code (values.Char v) = refl
fits_value-value_by f code (values.Double v) = refl
fits_value-value_by f code (values.Float v) = refl
fits_value-value_by f code (values.Int v) = refl
fits_value-value_by f code (values.Long v) = refl
fits_value-value_by f code (values.Short v) = refl
fits_value-value_by f code (values.Boolean v) = refl
fits_value-value_by f codes.Byte (values.Ref s) = refl
fits_value-value_by f codes.Char (values.Ref s) = refl
fits_value-value_by f codes.Double (values.Ref s) = refl
fits_value-value_by f codes.Float (values.Ref s) = refl
fits_value-value_by f codes.Int (values.Ref s) = refl
fits_value-value_by f codes.Long (values.Ref s) = refl
fits_value-value_by f codes.Short (values.Ref s) = refl
fits_value-value_by f codes.Boolean (values.Ref s) = refl
fits_value-value_by f codes.Array (values.Ref s) = refl
fits_value-value_by f codes.Object (values.Ref s) = refl

fit_values-map : (f : ℕ → ℕ) (fs : List FieldDesc) (vs : List Value) → fit_values (map (field_by f) fs) (map (value_by f) vs) ≡ fit_values fs vs
unfolding fit_values
fit_values-map f [] [] = refl
fit_values-map f [] (v ∷ vs) = refl
fit_values-map f (x ∷ fs) [] = refl
fit_values-map f (x ∷ fs) (v ∷ vs) = rw (fits_value-value_by f x.code v, fit_values-map f fs vs) refl

fits_part-part_by : (f : ℕ → ℕ) (fs : List FieldDesc) (w : Bool) (p : Option Part) → fits_part (map (field_by f) fs) w (option_map (part_by f) p) ≡ fits_part fs w p
fits_part-part_by f fs w None = refl
fits_part-part_by f fs w (Some p) = rw (fit_values-map f fs p.values, nil_map (item_by f) p.note, is_joined-map f p.note) refl

are_ordered-map : (f : ℕ → ℕ) (fs : List FieldDesc) → are_ordered (map (field_by f) fs) ≡ are_ordered fs
unfolding are_ordered
are_ordered-map f [] = refl
are_ordered-map f (x ∷ []) = refl
are_ordered-map f (x ∷ y ∷ fs) = rw (are_ordered-map f (y ∷ fs)) refl

good_desc_by : (f : ℕ → ℕ) (d : ClassDesc) → is_good_desc (record d { fields = map (field_by f) d.fields; note = map (item_by f) d.note; parent = slot_by f d.parent }) ≡ is_good_desc d
unfolding is_good_desc fit_flags
good_desc_by f d = rw (nil_map (field_by f) d.fields, are_ordered-map f d.fields) refl

fits_node-node_by : (f : ℕ → ℕ) (code : TypeCode) (i : Node) → fits_node code (Some (node_by f i)) ≡ fits_node code (Some i)
unfolding node_by
fits_node-node_by f code (Text t) = refl
fits_node-node_by f code (Desc d) = refl
fits_node-node_by f code (Proxy p) = refl
fits_node-node_by f code (Object c ps) = refl
fits_node-node_by f code (Array c vs) = refl
fits_node-node_by f code (Class c) = refl
fits_node-node_by f code (Enum c t) = refl

is_external-map : (f : ℕ → ℕ) (ps : List Part) → is_external (map (part_by f) ps) ≡ is_external ps
is_external-map f [] = refl
is_external-map f (p ∷ []) = rw (nil_map (value_by f) p.values, is_joined-map f p.note) refl
is_external-map f (p ∷ q ∷ ps) = refl

fit_elements-values_by : (f : ℕ → ℕ) (vs : Values) (code : Option TypeCode) → fit_elements (values_by f vs) code ≡ fit_elements vs code
fit_elements-values_by f (kinds.Bytes v) code = refl
fit_elements-values_by f (kinds.Chars v) code = refl
fit_elements-values_by f (kinds.Doubles v) code = refl
fit_elements-values_by f (kinds.Floats v) code = refl
fit_elements-values_by f (kinds.Ints v) code = refl
fit_elements-values_by f (kinds.Longs v) code = refl
fit_elements-values_by f (kinds.Shorts v) code = refl
fit_elements-values_by f (kinds.Bools v) code = refl
fit_elements-values_by f (kinds.Refs ss) None = refl
fit_elements-values_by f (kinds.Refs ss) (Some codes.Byte) = refl
fit_elements-values_by f (kinds.Refs ss) (Some codes.Char) = refl
fit_elements-values_by f (kinds.Refs ss) (Some codes.Double) = refl
fit_elements-values_by f (kinds.Refs ss) (Some codes.Float) = refl
fit_elements-values_by f (kinds.Refs ss) (Some codes.Int) = refl
fit_elements-values_by f (kinds.Refs ss) (Some codes.Long) = refl
fit_elements-values_by f (kinds.Refs ss) (Some codes.Short) = refl
fit_elements-values_by f (kinds.Refs ss) (Some codes.Boolean) = refl
fit_elements-values_by f (kinds.Refs ss) (Some codes.Array) = refl
fit_elements-values_by f (kinds.Refs ss) (Some codes.Object) = refl

count_of-values_by : (f : ℕ → ℕ) (vs : Values) → count_of (values_by f vs) ≡ count_of vs
count_of-values_by f (kinds.Bytes v) = refl
count_of-values_by f (kinds.Chars v) = refl
count_of-values_by f (kinds.Doubles v) = refl
count_of-values_by f (kinds.Floats v) = refl
count_of-values_by f (kinds.Ints v) = refl
count_of-values_by f (kinds.Longs v) = refl
count_of-values_by f (kinds.Shorts v) = refl
count_of-values_by f (kinds.Bools v) = refl
count_of-values_by f (kinds.Refs ss) = map_len (slot_by f) ss

fits_array-node_by : (f : ℕ → ℕ) (i : Node) (vs : Values) → fits_array (Some (node_by f i)) (values_by f vs) ≡ fits_array (Some i) vs
unfolding node_by
fits_array-node_by f (Text t) vs = refl
fits_array-node_by f (Desc d) vs = rw (fit_elements-values_by f vs (element_of d.name), count_of-values_by f vs) refl
fits_array-node_by f (Proxy p) vs = refl
fits_array-node_by f (Object c qs) vs = refl
fits_array-node_by f (Array c us) vs = refl
fits_array-node_by f (Class c) vs = refl
fits_array-node_by f (Enum c t) vs = refl

is_enum-node_by : (f : ℕ → ℕ) (i : Node) → is_enum (Some (node_by f i)) ≡ is_enum (Some i)
unfolding node_by
is_enum-node_by f (Text t) = refl
is_enum-node_by f (Desc d) = refl
is_enum-node_by f (Proxy p) = refl
is_enum-node_by f (Object c qs) = refl
is_enum-node_by f (Array c us) = refl
is_enum-node_by f (Class c) = refl
is_enum-node_by f (Enum c t) = refl

fits_object-node_by : (f : ℕ → ℕ) (i : Node) (ps : List Part) (b : Bool) → fits_object (Some (node_by f i)) (map (part_by f) ps) b ≡ fits_object (Some i) ps b
unfolding node_by
fits_object-node_by f (Text t) ps b = refl
fits_object-node_by f (Desc d) ps b = rw (is_external-map f ps) refl
fits_object-node_by f (Proxy p) ps b = refl
fits_object-node_by f (Object c qs) ps b = refl
fits_object-node_by f (Array c vs) ps b = refl
fits_object-node_by f (Class c) ps b = refl
fits_object-node_by f (Enum c t) ps b = refl

-- ---- rules on a node and on what it names

module _ (loose : List Node) (F : List ℕ) (once : Once F) (closed : Closed loose F) where
  see : (k : ℕ) (h : has F k ≡ true) → (i : Node) × (slice_get loose k ≡ Some i) × (slice_get (reordered loose F) (place_in F k) ≡ Some (node_by (place_in F) i))
  see k h = let t = closed.there k h in (t.0, t.1, look loose F k once h ∙ ap (λ o. Some (node_or_by (place_in F) o)) t.1)

  fits_above-node_by : (above new : Slot → Bool) (p : Option Part) (i : Node) → Wants F i → ((s : Slot) → Names F s → new (slot_by (place_in F) s) ≡ above s)
      → fits_above new (option_map (part_by (place_in F)) p) (Some (node_by (place_in F) i)) ≡ fits_above above p (Some i)
  unfolding node_by
  fits_above-node_by above new p (Text t) w h = refl
  fits_above-node_by above new p (Desc d) w h = rw (fits_part-part_by (place_in F) d.fields (has_flag d.flags 1) p, h d.parent (parent_named F d w)) refl
  fits_above-node_by above new p (Proxy q) w h = rw (fits_part-part_by (place_in F) [] false p, h q.parent (proxy_parent_named F q w)) refl
  fits_above-node_by above new p (Object c ps) w h = refl
  fits_above-node_by above new p (Array c vs) w h = refl
  fits_above-node_by above new p (Class c) w h = refl
  fits_above-node_by above new p (Enum c t) w h = refl

  fits_chain-reordered : (ps : List Part) (n : ℕ) (s : Slot) → Names F s → fits_chain (reordered loose F) (map (part_by (place_in F)) ps) n (slot_by (place_in F) s) ≡ fits_chain loose ps n s
  unfolding fits_chain
  fits_chain-reordered ps zero slots.Null h = refl
  fits_chain-reordered ps zero (slots.Node k) h = refl
  fits_chain-reordered ps (suc n) slots.Null h = refl
  fits_chain-reordered ps (suc n) (slots.Node k) h =
      let t = see k h in
      rw (t.1, t.2, slice_get-map (part_by (place_in F)) ps n) (fits_above-node_by (fits_chain loose ps n) (fits_chain (reordered loose F) (map (part_by (place_in F)) ps) n) (slice_get ps n) t.0 (closed.wants k t.0 h t.1) (fits_chain-reordered ps n))

  fits_type-reordered : (code : TypeCode) (t : Slot) → (is_primitive code ≡ false → Names F t) → fits_type (reordered loose F) code (cond (is_primitive code) t (slot_by (place_in F) t)) ≡ fits_type loose code t
  fits_type-reordered code t h = go (is_primitive code) t refl h
    where
      go : (b : Bool) (t : Slot) → is_primitive code ≡ b → (is_primitive code ≡ false → Names F t) → fits_type (reordered loose F) code (cond b t (slot_by (place_in F) t)) ≡ fits_type loose code t
      go true slots.Null e h = refl
      go true (slots.Node k) e h = rw e refl
      go false slots.Null e h = refl
      go false (slots.Node k) e h = let t = see k (h e) in rw (t.1, t.2) (let m = fits_node-node_by (place_in F) code t.0 in rw m refl)

  are_typed-reordered : (fs : List FieldDesc) → NamesAll F (field_wants fs) → are_typed (reordered loose F) (map (field_by (place_in F)) fs) ≡ are_typed loose fs
  unfolding are_typed field_wants
  are_typed-reordered [] n = refl
  are_typed-reordered (d ∷ fs) n =
      let p = field_named_at F (is_primitive d.code) d.type_text (field_wants fs) n in
      rw (fits_type-reordered d.code d.type_text p.0, are_typed-reordered fs p.1) refl

  pub is_shaped-reordered : (i : Node) → Wants F i → is_shaped (reordered loose F) (node_by (place_in F) i) ≡ is_shaped loose i
  unfolding is_shaped node_by before after
  is_shaped-reordered (Text t) w = refl
  is_shaped-reordered (Desc d) w =
      let named = (split_named F (field_wants d.fields) (item_wants d.note ++ (places.Parent, d.parent) ∷ []) w.afters).0 in
      rw (map_len (field_by (place_in F)) d.fields, good_desc_by (place_in F) d, are_typed-reordered d.fields named, is_joined-map (place_in F) d.note) refl
  is_shaped-reordered (Proxy p) w = rw (is_joined-map (place_in F) p.note) refl
  is_shaped-reordered (Object c ps) w =
      let t = see c w.befores.0 in
      let chained = fits_chain-reordered ps (length ps) (slots.Node c) w.befores.0 in
      rw (map_len (part_by (place_in F)) ps, chained, t.1, t.2) (fits_object-node_by (place_in F) t.0 ps (fits_chain loose ps (length ps) (slots.Node c)))
  is_shaped-reordered (Array c vs) w = let t = see c w.befores.0 in rw (t.1, t.2) (fits_array-node_by (place_in F) t.0 vs)
  is_shaped-reordered (Class c) w = refl
  is_shaped-reordered (Enum c t) w = let d = see c w.befores.0 in rw (d.1, d.2) (is_enum-node_by (place_in F) d.0)
