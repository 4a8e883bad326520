-- Graphs that differ in the bytes of their objects' notes alone are numbered and shaped alike.
use Rattle.std.proofs.Common.{◌≡◌, ◌&&◌, ◌||◌, not, ℕ, zero, suc, ◌<◌, ◌^◌, Bool, true, false, List, [], ◌∷◌, ◌++◌, map, length, Option, Some, None, slice_get, refl, sym, ap, subst, ◌∙◌, arith}
use Rattle.std.specs.Prelude.{All, option_map, slice_set}
use Rattle.std.proofs.lemmas.Option.{slice_get-map}
use Rattle.std.proofs.lemmas.List.{length-map}
use Rattle.class_desc.specs.declared.slot.Slot.{Slot}
use Rattle.class_desc.specs.declared.slot.Slot.TheVariants as slots
use Rattle.class_desc.specs.declared.slot.Item.{Item}
use Rattle.class_desc.specs.declared.slot.Item.TheVariants as items
use Rattle.class_desc.specs.declared.field.TypeCode.{TypeCode}
use Rattle.class_desc.specs.declared.field.FieldDesc.{FieldDesc}
use Rattle.class_desc.specs.TypeCode.{is_primitive}
use Rattle.class_desc.specs.TypeText.{is_nil}
use Rattle.class_desc.specs.ClassDesc.{has_flag}
use Rattle.ser_values.specs.declared.value.Values.{Values}
use Rattle.ser_values.specs.declared.value.Part.{Part}
use Rattle.ser_values.specs.declared.node.Node.{Node}
use Rattle.ser_values.specs.declared.node.Node.TheVariants.{Text, Desc, Proxy, Object, Array, Class, Enum}
use Rattle.ser_values.specs.declared.node.SlotPlace.{SlotPlace}
use Rattle.ser_values.specs.declared.node.SlotPlace.TheVariants as places
use Rattle.ser_values.specs.declared.note_bytes.NotePlace.{NotePlace}
use Rattle.ser_values.specs.Builder.{put}
use Rattle.ser_values.specs.Node.{has, is_desc, is_text, admits, takes, Want, item_wants, value_wants, part_wants, before, after, inside}
use Rattle.ser_values.specs.NoteBytes.{byte_to, item_to, note_to, object_to, with_note_byte}
use Rattle.ser_values.specs.Numbered.{Numbering, NumberAll, Numbers, a_null, again, fresh, no_numbers, Numbered, IsGraph}
use Rattle.ser_values.specs.Ranges.{ItemFits, PartFits, InRange}
use Rattle.ser_values.specs.Shape.{joined_from, fits_node, fits_type, are_typed, fits_part, fits_above, fits_chain, is_external, fits_object, fits_array, is_enum, is_shaped, sizes_in, notes_in, parts_in}
use Rattle.ser_values.proofs.Lists.{some_same}
use Rattle.ser_values.proofs.Ranged.{numbers_of, units_of, both_of, all_at, put_kept}

-- ---- without the bytes

abbrev bare_item : Item → Item
bare_item (items.Bytes b) = items.Bytes (map (λ x. 0) b)
bare_item (items.Ref s) = items.Ref s

abbrev bare_part : Part → Part
bare_part p = record { values = p.values; note = map bare_item p.note }

unfoldable bare : Node → Node
bare (Text t) = Text t
bare (Desc d) = Desc d
bare (Proxy p) = Proxy p
bare (Object c ps) = Object c (map bare_part ps)
bare (Array c vs) = Array c vs
bare (Class c) = Class c
bare (Enum c t) = Enum c t

abbrev bares : List Node → List Node
bares nodes = map bare nodes

-- ---- what it keeps

items_want : (is : List Item) → item_wants (map bare_item is) ≡ item_wants is
unfolding item_wants
items_want [] = refl
items_want (items.Bytes b ∷ is) = items_want is
items_want (items.Ref s ∷ is) = ap (λ (l : List Want). (places.Reference, s) ∷ l) (items_want is)

parts_want : (ps : List Part) → part_wants (map bare_part ps) ≡ part_wants ps
unfolding part_wants
parts_want [] = refl
parts_want (p ∷ ps) = ap (λ (l : List Want). value_wants p.values ++ (l ++ part_wants (map bare_part ps))) (items_want p.note) ∙ ap (λ (l : List Want). value_wants p.values ++ (item_wants p.note ++ l)) (parts_want ps)

before_same : (i : Node) → before (bare i) ≡ before i
unfolding before bare
before_same (Text t) = refl
before_same (Desc d) = refl
before_same (Proxy p) = refl
before_same (Object c ps) = refl
before_same (Array c vs) = refl
before_same (Class c) = refl
before_same (Enum c t) = refl

after_same : (i : Node) → after (bare i) ≡ after i
unfolding after bare
after_same (Text t) = refl
after_same (Desc d) = refl
after_same (Proxy p) = refl
after_same (Object c ps) = parts_want ps
after_same (Array c vs) = refl
after_same (Class c) = refl
after_same (Enum c t) = refl

desc_same : (i : Node) → is_desc (bare i) ≡ is_desc i
unfolding is_desc bare
desc_same (Text t) = refl
desc_same (Desc d) = refl
desc_same (Proxy p) = refl
desc_same (Object c ps) = refl
desc_same (Array c vs) = refl
desc_same (Class c) = refl
desc_same (Enum c t) = refl

text_same : (i : Node) → is_text (bare i) ≡ is_text i
unfolding is_text bare
text_same (Text t) = refl
text_same (Desc d) = refl
text_same (Proxy p) = refl
text_same (Object c ps) = refl
text_same (Array c vs) = refl
text_same (Class c) = refl
text_same (Enum c t) = refl

admits_same : (p : SlotPlace) (i : Node) → admits p (bare i) ≡ admits p i
unfolding admits
admits_same places.Reference i = refl
admits_same places.Class i = desc_same i
admits_same places.Parent i = desc_same i
admits_same places.Text i = text_same i

takes_same : (p : SlotPlace) (u : Bool) (i : Node) → takes p u (bare i) ≡ takes p u i
unfolding takes
takes_same places.Reference u i = refl
takes_same places.Class u i = ap (λ b. b && not u) (desc_same i)
takes_same places.Parent u i = ap (λ b. b && not u) (desc_same i)
takes_same places.Text u i = text_same i

inside_same : (unread : List ℕ) (k : ℕ) (i : Node) → inside unread k (bare i) ≡ inside unread k i
inside_same unread k i = rw (desc_same i) refl

-- ---- its shape

nil_same : {X Y : Type 0} (f : X → Y) (xs : List X) → is_nil (map f xs) ≡ is_nil xs
nil_same f [] = refl
nil_same f (x ∷ xs) = refl

joined_same : (b : Bool) (is : List Item) → joined_from b (map bare_item is) ≡ joined_from b is
unfolding joined_from
joined_same b [] = refl
joined_same b (items.Ref s ∷ is) = joined_same false is
joined_same b (items.Bytes p ∷ is) = ap (λ z. not (b || z) && joined_from true (map bare_item is)) (nil_same (λ x. 0) p) ∙ ap (λ z. not (b || is_nil p) && z) (joined_same true is)

part_same : (fs : List FieldDesc) (w : Bool) (o : Option Part) → fits_part fs w (option_map bare_part o) ≡ fits_part fs w o
part_same fs w None = refl
part_same fs w (Some p) = rw (nil_same bare_item p.note, joined_same false p.note) refl

above_same : (f g : Slot → Bool) → ((s : Slot) → f s ≡ g s) → (o : Option Part) (i : Option Node) → fits_above f (option_map bare_part o) (option_map bare i) ≡ fits_above g o i
unfolding bare
above_same f g e o None = refl
above_same f g e o (Some (Text t)) = refl
above_same f g e o (Some (Desc d)) = rw (part_same d.fields (has_flag d.flags 1) o, e d.parent) refl
above_same f g e o (Some (Proxy q)) = rw (part_same [] false o, e q.parent) refl
above_same f g e o (Some (Object c ps)) = refl
above_same f g e o (Some (Array c vs)) = refl
above_same f g e o (Some (Class c)) = refl
above_same f g e o (Some (Enum c t)) = refl

chain_same : (nodes : List Node) (ps : List Part) (n : ℕ) (s : Slot) → fits_chain (bares nodes) (map bare_part ps) n s ≡ fits_chain nodes ps n s
unfolding fits_chain
chain_same nodes ps zero slots.Null = refl
chain_same nodes ps zero (slots.Node k) = refl
chain_same nodes ps (suc n) slots.Null = refl
chain_same nodes ps (suc n) (slots.Node k) =
    let here : fits_above (fits_chain (bares nodes) (map bare_part ps) n) (option_map bare_part (slice_get ps n)) (option_map bare (slice_get nodes k)) ≡ fits_above (fits_chain nodes ps n) (slice_get ps n) (slice_get nodes k)
    = above_same (fits_chain (bares nodes) (map bare_part ps) n) (fits_chain nodes ps n) (chain_same nodes ps n) (slice_get ps n) (slice_get nodes k) in
    rw (slice_get-map bare_part ps n, slice_get-map bare nodes k) here

external_same : (ps : List Part) → is_external (map bare_part ps) ≡ is_external ps
external_same [] = refl
external_same (p ∷ []) = ap (λ z. is_nil p.values && z) (joined_same false p.note)
external_same (p ∷ q ∷ ps) = refl

object_same : (i : Option Node) (ps : List Part) (chained : Bool) → fits_object (option_map bare i) (map bare_part ps) chained ≡ fits_object i ps chained
unfolding bare
object_same None ps chained = refl
object_same (Some (Text t)) ps chained = refl
object_same (Some (Desc d)) ps chained = rw (external_same ps) refl
object_same (Some (Proxy q)) ps chained = refl
object_same (Some (Object c qs)) ps chained = refl
object_same (Some (Array c vs)) ps chained = refl
object_same (Some (Class c)) ps chained = refl
object_same (Some (Enum c t)) ps chained = refl

array_same : (i : Option Node) (vs : Values) → fits_array (option_map bare i) vs ≡ fits_array i vs
unfolding bare
array_same None vs = refl
array_same (Some (Text t)) vs = refl
array_same (Some (Desc d)) vs = refl
array_same (Some (Proxy q)) vs = refl
array_same (Some (Object c ps)) vs = refl
array_same (Some (Array c ws)) vs = refl
array_same (Some (Class c)) vs = refl
array_same (Some (Enum c t)) vs = refl

enum_same : (i : Option Node) → is_enum (option_map bare i) ≡ is_enum i
unfolding bare
enum_same None = refl
enum_same (Some (Text t)) = refl
enum_same (Some (Desc d)) = refl
enum_same (Some (Proxy q)) = refl
enum_same (Some (Object c ps)) = refl
enum_same (Some (Array c ws)) = refl
enum_same (Some (Class c)) = refl
enum_same (Some (Enum c t)) = refl

node_same : (code : TypeCode) (i : Option Node) → fits_node code (option_map bare i) ≡ fits_node code i
unfolding bare
node_same code None = refl
node_same code (Some (Text t)) = refl
node_same code (Some (Desc d)) = refl
node_same code (Some (Proxy q)) = refl
node_same code (Some (Object c ps)) = refl
node_same code (Some (Array c ws)) = refl
node_same code (Some (Class c)) = refl
node_same code (Some (Enum c t)) = refl

type_same : (nodes : List Node) (code : TypeCode) (s : Slot) → fits_type (bares nodes) code s ≡ fits_type nodes code s
type_same nodes code slots.Null = refl
type_same nodes code (slots.Node k) = rw (slice_get-map bare nodes k) (ap (λ z. not (is_primitive code) && z) (node_same code (slice_get nodes k)))

typed_same : (nodes : List Node) (fs : List FieldDesc) → are_typed (bares nodes) fs ≡ are_typed nodes fs
unfolding are_typed
typed_same nodes [] = refl
typed_same nodes (f ∷ fs) = rw (type_same nodes f.code f.type_text, typed_same nodes fs) refl

shaped_same : (nodes : List Node) (i : Node) → is_shaped (bares nodes) (bare i) ≡ is_shaped nodes i
unfolding is_shaped bare
shaped_same nodes (Text t) = refl
shaped_same nodes (Desc d) = rw (typed_same nodes d.fields) refl
shaped_same nodes (Proxy p) = refl
shaped_same nodes (Object c ps) = rw (slice_get-map bare nodes c, length-map ps bare_part, chain_same nodes ps (length ps) (slots.Node c)) (object_same (slice_get nodes c) ps (fits_chain nodes ps (length ps) (slots.Node c)))
shaped_same nodes (Array c vs) = rw (slice_get-map bare nodes c) (array_same (slice_get nodes c) vs)
shaped_same nodes (Class c) = refl
shaped_same nodes (Enum c t) = rw (slice_get-map bare nodes c) (enum_same (slice_get nodes c))

-- ---- its numbers

abbrev To : Numbering → Numbering → Type 0
To N M = (unread : List ℕ) (w : Want) (n m : ℕ) → N unread w n m → M unread w n m

all_to : (N M : Want → ℕ → ℕ → Type 0) → ((w : Want) (n m : ℕ) → N w n m → M w n m) → (ws : List Want) (n m : ℕ) → NumberAll N ws n m → NumberAll M ws n m
all_to N M f [] n m h = h
all_to N M f (w ∷ ws) n m h = (h.0, f w n h.0 h.1, all_to N M f ws h.0 m h.2)

there : (nodes : List Node) (k : ℕ) (i : Node) → slice_get nodes k ≡ Some i → slice_get (bares nodes) k ≡ Some (bare i)
there nodes k i is = slice_get-map bare nodes k ∙ ap (λ (o : Option Node). option_map bare o) is

back : (nodes : List Node) (k : ℕ) (j : Node) → slice_get (bares nodes) k ≡ Some j → (i : Node) × (slice_get nodes k ≡ Some i) × (bare i ≡ j)
back nodes k j is = go (slice_get nodes k) refl (sym (slice_get-map bare nodes k) ∙ is)
  where
    go : (o : Option Node) → slice_get nodes k ≡ o → option_map bare o ≡ Some j → (i : Node) × (slice_get nodes k ≡ Some i) × (bare i ≡ j)
    go None e f = absurd cc
    go (Some i) e f = (i, e, some_same (bare i) j f)

forth : (nodes : List Node) (left : ℕ) (N M : Numbering) → To N M → To (Numbers nodes left N) (Numbers (bares nodes) left M)
forth nodes left N M f unread w n m (a_null what ok same) = a_null what ok same
forth nodes left N M f unread w n m (again k i what is lt ok same) = again k (bare i) what (there nodes k i is) lt (takes_same w.0 (has unread k) i ∙ ok) same
forth nodes left N M f unread w n m (fresh k i what is le lt ok shaped first second) =
    let inner = inside unread k i in
    fresh k (bare i) what (there nodes k i is) le lt (admits_same w.0 i ∙ ok) (shaped_same nodes i ∙ shaped)
    (subst (λ (ws : List Want). NumberAll (M unread) ws n k) (sym (before_same i)) (all_to (N unread) (M unread) (f unread) (before i) n k first))
    (subst (λ (u : List ℕ). NumberAll (M u) (after (bare i)) (suc k) m) (sym (inside_same unread k i)) (subst (λ (ws : List Want). NumberAll (M inner) ws (suc k) m) (sym (after_same i)) (all_to (N inner) (M inner) (f inner) (after i) (suc k) m second)))

from : (nodes : List Node) (left : ℕ) (N M : Numbering) → To N M → To (Numbers (bares nodes) left N) (Numbers nodes left M)
from nodes left N M f unread w n m (a_null what ok same) = a_null what ok same
from nodes left N M f unread w n m (again k j what is lt ok same) =
    let b = back nodes k j is in
    again k b.0 what b.1 lt (sym (takes_same w.0 (has unread k) b.0) ∙ ap (λ (x : Node). takes w.0 (has unread k) x) b.2 ∙ ok) same
from nodes left N M f unread w n m (fresh k j what is le lt ok shaped first second) =
    let b = back nodes k j is in
    let i = b.0 in
    let inner = inside unread k i in
    let wants : before j ≡ before i = ap (λ (x : Node). before x) (sym b.2) ∙ before_same i in
    let others : after j ≡ after i = ap (λ (x : Node). after x) (sym b.2) ∙ after_same i in
    let open_ : inside unread k j ≡ inner = ap (λ (x : Node). inside unread k x) (sym b.2) ∙ inside_same unread k i in
    let second2 : NumberAll (N inner) (after i) (suc k) m = subst (λ (ws : List Want). NumberAll (N inner) ws (suc k) m) others (subst (λ (u : List ℕ). NumberAll (N u) (after j) (suc k) m) open_ second) in
    fresh k i what b.1 le lt (sym (admits_same w.0 i) ∙ ap (λ (x : Node). admits w.0 x) b.2 ∙ ok) (sym (shaped_same nodes i) ∙ ap (λ (x : Node). is_shaped (bares nodes) x) b.2 ∙ shaped)
    (all_to (N unread) (M unread) (f unread) (before i) n k (subst (λ (ws : List Want). NumberAll (N unread) ws n k) wants first))
    (all_to (N inner) (M inner) (f inner) (after i) (suc k) m second2)

bared : (nodes : List Node) (d : ℕ) → To (Numbered nodes d) (Numbered (bares nodes) d)
unfolding Numbered
bared nodes zero unread w n m h = forth nodes zero no_numbers no_numbers (λ u w n m h. h) unread w n m h
bared nodes (suc d) unread w n m h = forth nodes (suc d) (Numbered nodes d) (Numbered (bares nodes) d) (bared nodes d) unread w n m h

unbared : (nodes : List Node) (d : ℕ) → To (Numbered (bares nodes) d) (Numbered nodes d)
unfolding Numbered
unbared nodes zero unread w n m h = from nodes zero no_numbers no_numbers (λ u w n m h. h) unread w n m h
unbared nodes (suc d) unread w n m h = from nodes (suc d) (Numbered (bares nodes) d) (Numbered nodes d) (unbared nodes d) unread w n m h

sizes_same : (ps : List Part) → sizes_in (map bare_part ps) ≡ sizes_in ps
unfolding sizes_in
sizes_same [] = refl
sizes_same (p ∷ ps) = let h = sizes_same ps in omega arith

notes_same : (ps : List Part) → notes_in (map bare_part ps) ≡ notes_in ps
unfolding notes_in
notes_same [] = refl
notes_same (p ∷ ps) = let l : length (item_wants (map bare_item p.note)) ≡ length (item_wants p.note) = ap (λ (l : List Want). length l) (items_want p.note) in let h = notes_same ps in omega arith

parts_same : (nodes : List Node) → parts_in (bares nodes) ≡ parts_in nodes
unfolding parts_in bare
parts_same [] = refl
parts_same (Text t ∷ nodes) = let h = parts_same nodes in omega arith
parts_same (Desc d ∷ nodes) = let h = parts_same nodes in omega arith
parts_same (Proxy p ∷ nodes) = let h = parts_same nodes in omega arith
parts_same (Object c ps ∷ nodes) = let h = parts_same nodes in let a = sizes_same ps in let b = notes_same ps in omega arith
parts_same (Array c vs ∷ nodes) = let h = parts_same nodes in omega arith
parts_same (Class c ∷ nodes) = let h = parts_same nodes in omega arith
parts_same (Enum c t ∷ nodes) = let h = parts_same nodes in omega arith

-- nodes that are alike but for the bytes of notes are a graph with the same items
alike_graph : (A B : List Node) (is : List Item) → bares A ≡ bares B → All InRange B → IsGraph A is → IsGraph B is
alike_graph A B is e ranged g =
    let len : length A ≡ length B = sym (length-map A bare) ∙ (ap (λ (l : List Node). length l) e ∙ length-map B bare) in
    let wants = item_wants is in
    let one = all_to (Numbered A 200 []) (Numbered (bares A) 200 []) (bared A 200 []) wants 0 (length A) g.numbered in
    let two : NumberAll (Numbered (bares B) 200 []) wants 0 (length A) = subst (λ (l : List Node). NumberAll (Numbered l 200 []) wants 0 (length A)) e one in
    let three = all_to (Numbered (bares B) 200 []) (Numbered B 200 []) (unbared B 200 []) wants 0 (length A) two in
    let parts : parts_in A ≡ parts_in B = sym (parts_same A) ∙ (ap parts_in e ∙ parts_same B) in
    let few = g.few_nodes in
    let few_parts = g.few_parts in
    record {
      numbered = subst (λ k. NumberAll (Numbered B 200 []) wants 0 k) len three;
      joined = g.joined;
      few_nodes = omega arith;
      few_parts = omega arith;
      numbers = numbers_of B ranged;
      units = units_of B ranged;
      bytes = g.bytes;
    }

-- ---- a byte that is written over

set_same : {X Y : Type 0} (f : X → Y) (xs : List X) (k : ℕ) (y : X) → option_map f (slice_get xs k) ≡ Some (f y) → map f (slice_set xs k y) ≡ map f xs
set_same f [] k y e = refl
set_same f (x ∷ xs) zero y e = ap (λ z. z ∷ map f xs) (sym (some_same (f x) (f y) e))
set_same f (x ∷ xs) (suc k) y e = ap (λ (l : List _). f x ∷ l) (set_same f xs k y e)

put_same : {X Y : Type 0} (f : X → Y) (xs ys : List X) (k : ℕ) (o : Option X) → put xs k o ≡ Some ys → ((y : X) → o ≡ Some y → option_map f (slice_get xs k) ≡ Some (f y)) → map f ys ≡ map f xs
put_same f xs ys k None e h = absurd cc
put_same f xs ys k (Some y) e h = ap (map f) (sym (some_same (slice_set xs k y) ys e)) ∙ set_same f xs k y (h y refl)

mapped : {X Y : Type 0} (f : X → Y) (r : Option X) (y : Y) → option_map f r ≡ Some y → (x : X) × (r ≡ Some x) × (f x ≡ y)
mapped f None y e = absurd cc
mapped f (Some x) y e = (x, refl, some_same (f x) y e)

abbrev zero_of : ℕ → ℕ
zero_of x = 0

byte_same : (b : ℕ) (o : Option ℕ) (y : ℕ) → byte_to b o ≡ Some y → option_map zero_of o ≡ Some (zero_of y)
byte_same b None y e = absurd cc
byte_same b (Some x) y e = refl

item_same : (offset b : ℕ) (o : Option Item) (j : Item) → item_to offset b o ≡ Some j → option_map bare_item o ≡ Some (bare_item j)
item_same offset b None j e = absurd cc
item_same offset b (Some (items.Ref s)) j e = absurd cc
item_same offset b (Some (items.Bytes l)) j e =
    let m = mapped (λ (l : List ℕ). items.Bytes l) (put l offset (byte_to b (slice_get l offset))) j e in
    let same = put_same zero_of l m.0 offset (byte_to b (slice_get l offset)) m.1 (byte_same b (slice_get l offset)) in
    ap (λ (z : List ℕ). some (items.Bytes z)) (sym same) ∙ ap (λ (i : Item). some (bare_item i)) m.2
  where
    some : Item → Option Item
    some i = Some i

note_same : (item offset b : ℕ) (o : Option Part) (q : Part) → note_to item offset b o ≡ Some q → option_map bare_part o ≡ Some (bare_part q)
note_same item offset b None q e = absurd cc
note_same item offset b (Some p) q e =
    let m = mapped (λ (is : List Item). note_of p is) (put p.note item (item_to offset b (slice_get p.note item))) q e in
    let same = put_same bare_item p.note m.0 item (item_to offset b (slice_get p.note item)) m.1 (item_same offset b (slice_get p.note item)) in
    ap (λ (z : List Item). some (part_of p z)) (sym same) ∙ ap (λ (i : Part). some (bare_part i)) m.2
  where
    some : Part → Option Part
    some i = Some i

    note_of : Part → List Item → Part
    note_of p is = record p { note = is }

    part_of : Part → List Item → Part
    part_of p is = record { values = p.values; note = is }

object_bare : (part item offset b : ℕ) (o : Option Node) (j : Node) → object_to part item offset b o ≡ Some j → option_map bare o ≡ Some (bare j)
unfolding bare
object_bare part item offset b (Some (Object c ps)) j e =
    let m = mapped (λ (qs : List Part). Object c qs) (put ps part (note_to item offset b (slice_get ps part))) j e in
    let same = put_same bare_part ps m.0 part (note_to item offset b (slice_get ps part)) m.1 (note_same item offset b (slice_get ps part)) in
    ap (λ (z : List Part). some (Object c z)) (sym same) ∙ ap (λ (i : Node). some (bare i)) m.2
  where
    some : Node → Option Node
    some i = Some i
object_bare part item offset b _ j e = absurd cc

byte_ranged : (b : ℕ) (o : Option ℕ) (y : ℕ) → b < 2 ^ 8 → byte_to b o ≡ Some y → y < 2 ^ 8
byte_ranged b None y lt e = absurd cc
byte_ranged b (Some x) y lt e = subst (λ z. z < 2 ^ 8) (some_same b y e) lt

item_ranged : (offset b : ℕ) (o : Option Item) (j : Item) → b < 2 ^ 8 → ((i : Item) → o ≡ Some i → ItemFits i) → item_to offset b o ≡ Some j → ItemFits j
item_ranged offset b None j lt f e = absurd cc
item_ranged offset b (Some (items.Ref s)) j lt f e = absurd cc
item_ranged offset b (Some (items.Bytes l)) j lt f e =
    let m = mapped (λ (l : List ℕ). items.Bytes l) (put l offset (byte_to b (slice_get l offset))) j e in
    subst ItemFits m.2 (put_kept (λ x. x < 2 ^ 8) l m.0 offset (byte_to b (slice_get l offset)) m.1 (λ y g. byte_ranged b (slice_get l offset) y lt g) (f (items.Bytes l) refl))

note_ranged : (item offset b : ℕ) (o : Option Part) (q : Part) → b < 2 ^ 8 → ((p : Part) → o ≡ Some p → PartFits p) → note_to item offset b o ≡ Some q → PartFits q
note_ranged item offset b None q lt f e = absurd cc
note_ranged item offset b (Some p) q lt f e =
    let whole = f p refl in
    let m = mapped (λ (is : List Item). note_of p is) (put p.note item (item_to offset b (slice_get p.note item))) q e in
    subst PartFits m.2 (whole.0, put_kept ItemFits p.note m.0 item (item_to offset b (slice_get p.note item)) m.1 (λ j. item_ranged offset b (slice_get p.note item) j lt (all_at ItemFits p.note whole.1 item)) whole.1)
  where
    note_of : Part → List Item → Part
    note_of p is = record p { note = is }

object_ranged : (part item offset b : ℕ) (o : Option Node) (j : Node) → b < 2 ^ 8 → ((i : Node) → o ≡ Some i → InRange i) → object_to part item offset b o ≡ Some j → InRange j
object_ranged part item offset b (Some (Object c ps)) j lt f e =
    let m = mapped (λ (qs : List Part). Object c qs) (put ps part (note_to item offset b (slice_get ps part))) j e in
    let whole = f (Object c ps) refl in
    let fits = put_kept PartFits ps m.0 part (note_to item offset b (slice_get ps part)) m.1 (λ q. note_ranged item offset b (slice_get ps part) q lt (all_at PartFits ps whole.0 part)) whole.0 in
    subst InRange m.2 (fits, tt)
object_ranged part item offset b _ j lt f e = absurd cc

-- A graph whose note has another byte is a graph.
pub byte_graph : (nodes new : List Node) (is : List Item) (at : NotePlace) (b : ℕ) → b < 2 ^ 8 → with_note_byte nodes at b ≡ Some new → IsGraph nodes is → IsGraph new is
byte_graph nodes new is at b lt e g =
    let o = object_to at.part at.item at.offset b (slice_get nodes at.node) in
    let same = put_same bare nodes new at.node o e (object_bare at.part at.item at.offset b (slice_get nodes at.node)) in
    let ranged = put_kept InRange nodes new at.node o e (λ j. object_ranged at.part at.item at.offset b (slice_get nodes at.node) j lt (all_at InRange nodes (both_of nodes g.numbers g.units) at.node)) (both_of nodes g.numbers g.units) in
    alike_graph nodes new is (sym same) ranged g
