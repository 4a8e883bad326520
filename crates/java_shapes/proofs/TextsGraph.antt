-- The nodes of a list of texts are a graph.
use Rattle.std.proofs.Common.{◌≡◌, ◌<◌, ◌≤◌, ◌^◌, ◌+◌, ◌*◌, ◌/◌, ◌%◌, ℕ, suc, Bool, true, false, nat_lt, ◌&&◌, List, [], ◌∷◌, ◌++◌, length, take, drop, get_or, slice_get, codes, Option, Some, None, refl, ap, sym, ◌∙◌, arith, if◌then◌else◌, length-append, append_assoc, append-nil, add-one, drop-cons}
use Rattle.std.specs.Prelude.{All}
use Rattle.std.specs.Int.{w64}
use Rattle.std.proofs.lemmas.Bool.Decides.{nat_tests}
use Rattle.std.proofs.lemmas.List.{drop_all, length-map, take_more}
use Rattle.std.proofs.lemmas.List.Elements.{All-nil, All-cons, All-head, All-tail, All-append}
use borrow.Author.Gap.{read_sfits}
use Rattle.mod_utf.specs.Utf.{utf, unit_bytes}
use Rattle.class_desc.specs.declared.slot.Slot.{Slot}
use Rattle.class_desc.specs.declared.slot.Slot.TheVariants as slots
use Rattle.class_desc.specs.declared.known_class.KnownClass.TheVariants as known
use Rattle.class_desc.specs.TypeText.{element_of, is_array_text, is_component_text, ends_class}
use Rattle.class_desc.specs.ClassDesc.{is_good_desc, fit_flags, are_ordered}
use Rattle.ser_values.specs.declared.value.Values.TheVariants as kinds
use Rattle.ser_values.specs.declared.node.Node.{Node}
use Rattle.ser_values.specs.declared.node.Node.TheVariants.{Text, Desc, Proxy, Object, Array, Class, Enum}
use Rattle.ser_values.specs.declared.node.SlotPlace.TheVariants as places
use Rattle.ser_values.specs.Node.{is_desc, admits, admits_null, item_wants, field_wants, slot_wants, before, after}
use Rattle.ser_values.specs.Shape.{joined_from, are_typed, is_shaped, parts_in}
use Rattle.ser_values.specs.Ranges.{ItemFits, NodeFits, UnitsFitIn, NameFits}
use Rattle.ser_values.specs.Numbered.{a_null, fresh, Numbered, NumberAll, IsGraph}
use Rattle.ser_values.proofs.Lists.{slice_get-append_seam}
use Rattle.java_shapes.specs.Fault.{class_node}
use Rattle.java_shapes.specs.Objects.{text_in}
use Rattle.java_shapes.specs.Shapes.{AreTexts, TextsAt}
use Rattle.java_shapes.specs.TextsGraph.{CanBeText, array_first, slots_from, text_nodes, texts_nodes, texts_items}
use Rattle.java_shapes.proofs.FaultGraph.{all_of, no_note, small}

-- ---- texts that can be written

few_bytes : (small short : Bool) (u : ℕ) → length (if small then u ∷ [] else (if short then (192 + u / 64) ∷ (128 + u % 64) ∷ [] else (224 + u / 4096) ∷ (128 + u / 64 % 64) ∷ (128 + u % 64) ∷ [])) ≤ 3
few_bytes true short u = omega arith
few_bytes false true u = omega arith
few_bytes false false u = omega arith

-- A text has at most three bytes for each unit.
pub utf_few : (t : List ℕ) → length (utf t) ≤ 3 * length t
utf_few [] = omega arith
utf_few (u ∷ us) =
    let one : length (unit_bytes u) ≤ 3 = few_bytes (nat_lt 0 u && nat_lt u 128) (nat_lt u 2048) u in
    omega (arith, one, utf_few us, length-append (unit_bytes u) (utf us))

-- one more of the texts
pub texts_more : (names : List (List ℕ)) (i : ℕ) (name : List ℕ) → i < length names → name ≡ get_or names i name → CanBeText name → All CanBeText (take i names) → All CanBeText (take (i + 1) names)
texts_more names i name lt is can front =
    let more : take (i + 1) names ≡ take i names ++ name ∷ [] = take_more names i name lt ∙ ap (λ (x : List ℕ). take i names ++ x ∷ []) (sym is) in
    rw more (All-append CanBeText (take i names) (name ∷ []) front (all_of CanBeText (name ∷ []) (can, tt)))

-- ---- slots

pub slots_step : (names : List (List ℕ)) (i : ℕ) (name : List ℕ) (at : ℕ) (list more whole : List Slot) → i < length names → at ≡ i + 2 → more ≡ list ++ slots.Node at ∷ []
    → list ++ slots_from at (drop i names) ≡ whole → more ++ slots_from (at + 1) (drop (i + 1) names) ≡ whole
unfolding slots_from
slots_step names i name at list more whole lt is e rest =
    let cut : drop i names ≡ get_or names i name ∷ drop (i + 1) names = rw (add-one) (drop-cons names i name lt) in
    let up : suc at ≡ at + 1 = omega arith in
    let next : slots_from at (drop i names) ≡ slots.Node at ∷ slots_from (at + 1) (drop (i + 1) names) = rw cut (ap (λ (n : ℕ). slots.Node at ∷ slots_from n (drop (i + 1) names)) up) in
    let join : (list ++ slots.Node at ∷ []) ++ slots_from (at + 1) (drop (i + 1) names) ≡ list ++ slots_from at (drop i names) = append_assoc list (slots.Node at ∷ []) (slots_from (at + 1) (drop (i + 1) names)) ∙ ap (λ (l : List Slot). list ++ l) (sym next) in
    ap (λ (l : List Slot). l ++ slots_from (at + 1) (drop (i + 1) names)) e ∙ (join ∙ rest)

pub slots_end : (names : List (List ℕ)) (i at : ℕ) (list whole : List Slot) → length names ≤ i → list ++ slots_from at (drop i names) ≡ whole → list ≡ whole
unfolding slots_from
slots_end names i at list whole past rest = sym (append-nil list) ∙ (ap (λ (l : List (List ℕ)). list ++ slots_from at l) (sym (drop_all i names past)) ∙ rest)

slots_many : (at : ℕ) (names : List (List ℕ)) → length (slots_from at names) ≡ length names
unfolding slots_from
slots_many at [] = refl
slots_many at (name ∷ names) = ap suc (slots_many (suc at) names)

-- the texts stand behind what is before them
texts_stand : (front : List Node) (at : ℕ) (names : List (List ℕ)) → at ≡ length front → AreTexts (front ++ text_nodes names) names (slots_from at names)
unfolding slots_from
texts_stand front at [] is = refl
texts_stand front at (name ∷ names) is =
    let one : slice_get (front ++ text_nodes (name ∷ names)) at ≡ Some (Text name) = rw is (slice_get-append_seam front (Text name) (text_nodes names)) in
    let place : suc at ≡ length (front ++ Text name ∷ []) = omega (arith, is, length-append front (Text name ∷ [])) in
    let more : AreTexts ((front ++ Text name ∷ []) ++ text_nodes names) names (slots_from (suc at) names) = texts_stand (front ++ Text name ∷ []) (suc at) names place in
    (ap text_in one, rw (append_assoc front (Text name ∷ []) (text_nodes names)) at more)

stand : (names : List (List ℕ)) → AreTexts (texts_nodes names) names (slots_from 2 names)
unfolding texts_nodes
stand names = texts_stand (array_first names) 2 names refl

pub texts_are : (names : List (List ℕ)) → TextsAt (texts_nodes names) names (slots.Node 1)
unfolding texts_nodes
texts_are names = record {
  class = slots.Node 0;
  texts = slots_from 2 names;
  own = record { texts = []; typed = refl; is = refl };
  are = stand names;
  is = refl;
}

-- ---- its shape

abbrev N : List (List ℕ) → List Node
N names = texts_nodes names

shaped_class : (names : List (List ℕ)) → is_shaped (N names) (class_node known.TextArray [] slots.Null) ≡ true
unfolding is_shaped texts_nodes is_good_desc fit_flags are_ordered are_typed joined_from
shaped_class names = refl

shaped_array : (names : List (List ℕ)) → length names ≤ 65534 → is_shaped (N names) (Array 0 (kinds.Refs (slots_from 2 names))) ≡ true
unfolding is_shaped texts_nodes element_of is_array_text is_component_text ends_class
shaped_array names few =
    let short : nat_lt (length (slots_from 2 names)) (2 ^ 31) ≡ true = rw (slots_many 2 names) (grind (arith, nat_tests)) in
    rw short refl

shaped_text : (nodes : List Node) (t : List ℕ) → CanBeText t → is_shaped nodes (Text t) ≡ true
unfolding is_shaped
shaped_text nodes t can = let short = can.1 in grind (arith, nat_tests)

-- ---- its numbering

num_null : (names : List (List ℕ)) (d : ℕ) (u : List ℕ) (n : ℕ) → Numbered (N names) (suc d) u (places.Reference, slots.Null) n n
unfolding Numbered admits_null
num_null names d u n = a_null refl refl refl

num_top : (names : List (List ℕ)) (d : ℕ) (u : List ℕ) (n : ℕ) → Numbered (N names) (suc d) u (places.Parent, slots.Null) n n
unfolding Numbered admits_null
num_top names d u n = a_null refl refl refl

num_class : (names : List (List ℕ)) (d : ℕ) (u : List ℕ) → Numbered (N names) (suc (suc d)) u (places.Class, slots.Node 0) 0 1
unfolding Numbered admits is_desc texts_nodes before after field_wants item_wants
num_class names d u = fresh 0 (class_node known.TextArray [] slots.Null) refl refl (omega arith) (omega arith) refl (shaped_class names) refl
    (1, num_null names d _ 1, (1, num_top names d _ 1, refl))

is_text_node : (o : Option Node) (t : List ℕ) → text_in o ≡ Some t → o ≡ Some (Text t)
is_text_node (Some (Text s)) t e = cc
is_text_node None t e = absurd cc
is_text_node (Some (Desc d)) t e = absurd cc
is_text_node (Some (Proxy p)) t e = absurd cc
is_text_node (Some (Object c ps)) t e = absurd cc
is_text_node (Some (Array c vs)) t e = absurd cc
is_text_node (Some (Class c)) t e = absurd cc
is_text_node (Some (Enum c s)) t e = absurd cc

num_text : (nodes : List Node) (d : ℕ) (u : List ℕ) (at : ℕ) (t : List ℕ) → slice_get nodes at ≡ Some (Text t) → CanBeText t → Numbered nodes (suc d) u (places.Reference, slots.Node at) at (suc at)
unfolding Numbered admits before after
num_text nodes d u at t is can = fresh at (Text t) refl is (omega arith) (omega arith) refl (shaped_text nodes t can) refl refl

num_texts : (nodes : List Node) (d : ℕ) (u : List ℕ) (names : List (List ℕ)) (at m : ℕ) → m ≡ at + length names → AreTexts nodes names (slots_from at names) → All CanBeText names
    → NumberAll (Numbered nodes (suc d) u) (slot_wants (slots_from at names)) at m
unfolding slots_from slot_wants
num_texts nodes d u [] at m e are can = omega (arith, e)
num_texts nodes d u (t ∷ ts) at m e are can =
    (suc at, num_text nodes d u at t (is_text_node (slice_get nodes at) t are.0) (All-head CanBeText t ts can), num_texts nodes d u ts (suc at) m (omega (arith, e)) are.1 (All-tail CanBeText t ts can))

num_own : (names : List (List ℕ)) (d m : ℕ) (u : List ℕ) → length names ≤ 65534 → All CanBeText names → m ≡ 2 + length names → Numbered (N names) (suc (suc (suc d))) u (places.Reference, slots.Node 1) 0 m
unfolding Numbered admits is_desc texts_nodes before after
num_own names d m u few can e = fresh 1 (Array 0 (kinds.Refs (slots_from 2 names))) refl refl (omega arith) (omega arith) refl (shaped_array names few)
    (1, num_class names d _, refl) (num_texts (N names) (suc d) _ names 2 m e (stand names) can)

-- ---- its numbers

text_numbers : (names : List (List ℕ)) → All NodeFits (text_nodes names)
text_numbers [] = All-nil NodeFits
text_numbers (t ∷ ts) = All-cons NodeFits (Text t) (text_nodes ts) tt (text_numbers ts)

numbers_fit : (names : List (List ℕ)) → All NodeFits (N names)
unfolding texts_nodes
numbers_fit names = All-append NodeFits (array_first names) (text_nodes names) (all_of NodeFits (array_first names) ((read_sfits w64 0xADD256E7E91D7B47, no_note), (tt, tt))) (text_numbers names)

text_units : (names : List (List ℕ)) → All CanBeText names → All UnitsFitIn (text_nodes names)
text_units [] can = All-nil UnitsFitIn
text_units (t ∷ ts) can = All-cons UnitsFitIn (Text t) (text_nodes ts) (All-head CanBeText t ts can).0 (text_units ts (All-tail CanBeText t ts can))

units_fit : (names : List (List ℕ)) → All CanBeText names → All UnitsFitIn (N names)
unfolding texts_nodes
units_fit names can = All-append UnitsFitIn (array_first names) (text_nodes names)
    (all_of UnitsFitIn (array_first names) ((small (codes "[Ljava.lang.String;") refl, All-nil NameFits), (tt, tt))) (text_units names can)

text_parts : (names : List (List ℕ)) → parts_in (text_nodes names) ≡ 0
unfolding parts_in
text_parts [] = refl
text_parts (t ∷ ts) = let h = text_parts ts in omega arith

-- the null of the class's annotation, and the elements
part_count : (names : List (List ℕ)) → parts_in (N names) ≡ length names + 1
unfolding texts_nodes parts_in item_wants
part_count names = let h = text_parts names in let k = slots_many 2 names in omega arith

node_count : (names : List (List ℕ)) → length (N names) ≡ 2 + length names
unfolding texts_nodes
node_count names = length-append (array_first names) (text_nodes names) ∙ ap (λ (n : ℕ). 2 + n) (length-map names (λ name. Text name))

pub is_graph : (names : List (List ℕ)) → length names ≤ 65534 → All CanBeText names → IsGraph (N names) texts_items
unfolding item_wants joined_from
is_graph names few can = record {
  numbered = (2 + length names, num_own names 197 (2 + length names) [] few can refl, node_count names);
  joined = refl;
  few_nodes = omega (arith, node_count names, few);
  few_parts = omega (arith, few, part_count names);
  numbers = numbers_fit names;
  units = units_fit names can;
  bytes = all_of ItemFits texts_items (tt, tt);
}
