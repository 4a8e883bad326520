-- The nodes of a fault are a graph.
use Rattle.std.proofs.Common.{◌≡◌, ◌<◌, ◌^◌, ℕ, zero, suc, Bool, true, false, ◌&&◌, nat_lt, List, [], ◌∷◌, length, slice_get, get_or, codes, Some, refl, arith}
use Rattle.std.specs.Prelude.{All}
use Rattle.std.specs.Int.{w64}
use Rattle.std.proofs.lemmas.List.Elements.{All-nil, All-cons}
use Rattle.std.proofs.lemmas.Bool.{ltb-true}
use Rattle.std.specs.List.{AllByRecursion}
use borrow.Author.Gap.{read_sfits}
use Rattle.mod_utf.specs.Utf.{utf}
use Rattle.class_desc.specs.declared.slot.Slot.{Slot}
use Rattle.class_desc.specs.declared.slot.Slot.TheVariants as slots
use Rattle.class_desc.specs.declared.field.FieldDesc.{FieldDesc}
use Rattle.class_desc.specs.declared.known_class.KnownClass.TheVariants as known
use Rattle.class_desc.specs.KnownClass.{parts_of}
use Rattle.class_desc.specs.TypeText.{element_of, is_array_text, ends_class}
use Rattle.class_desc.specs.ClassDesc.{is_good_desc, fit_flags, are_ordered}
use Rattle.ser_values.specs.declared.value.Value.TheVariants as values
use Rattle.ser_values.specs.declared.node.Node.{Node}
use Rattle.ser_values.specs.declared.node.Node.TheVariants.{Text, Object}
use Rattle.ser_values.specs.declared.node.SlotPlace.TheVariants as places
use Rattle.ser_values.specs.Node.{is_desc, is_text, admits, admits_null, item_wants, value_wants, part_wants, field_wants, before, after}
use Rattle.ser_values.specs.Shape.{joined_from, are_typed, fit_values, fits_chain, is_shaped, sizes_in, notes_in, parts_in}
use Rattle.ser_values.specs.Ranges.{ItemFits, NodeFits, UnitsFitIn, PartFits, ValueFits, NameFits, TextFits}
use Rattle.ser_values.specs.Numbered.{a_null, fresh, Numbered, IsGraph}
use Rattle.java_shapes.specs.Objects.{same_text}
use Rattle.java_shapes.specs.Fault.{FaultAt, class_node, fault_parts, fault_items, fault_nodes, reference, empty_part}
use Rattle.java_shapes.specs.Put.{desc_with, no_codebase}
use Rattle.java_shapes.proofs.Growth.{desc_differs, texts_differ}

-- ---- its shape

shaped_remote : (m : List ℕ) → is_shaped (fault_nodes m) (class_node known.RemoteException (slots.Node 1 ∷ []) (slots.Node 2)) ≡ true
unfolding is_shaped fault_nodes is_good_desc fit_flags are_ordered are_typed joined_from ends_class
shaped_remote m = refl

shaped_io : (m : List ℕ) → is_shaped (fault_nodes m) (class_node known.IoException [] (slots.Node 3)) ≡ true
unfolding is_shaped fault_nodes is_good_desc fit_flags are_ordered are_typed joined_from
shaped_io m = refl

shaped_exception : (m : List ℕ) → is_shaped (fault_nodes m) (class_node known.Exception [] (slots.Node 4)) ≡ true
unfolding is_shaped fault_nodes is_good_desc fit_flags are_ordered are_typed joined_from
shaped_exception m = refl

shaped_throwable : (m : List ℕ) → is_shaped (fault_nodes m) (class_node known.Throwable (slots.Node 5 ∷ []) slots.Null) ≡ true
unfolding is_shaped fault_nodes is_good_desc fit_flags are_ordered are_typed joined_from ends_class
shaped_throwable m = refl

shaped_first : (m : List ℕ) → is_shaped (fault_nodes m) (Text (codes "Ljava/lang/Throwable;")) ≡ true
unfolding is_shaped
shaped_first m = refl

shaped_second : (m : List ℕ) → is_shaped (fault_nodes m) (Text (codes "Ljava/lang/String;")) ≡ true
unfolding is_shaped
shaped_second m = refl

shaped_object : (m : List ℕ) → is_shaped (fault_nodes m) (Object 0 (fault_parts (slots.Node 7))) ≡ true
unfolding is_shaped fault_nodes fits_chain fit_values joined_from element_of is_array_text
shaped_object m = refl

shaped_message : (m : List ℕ) → nat_lt (length (utf m)) (2 ^ 63) ≡ true → is_shaped (fault_nodes m) (Text m) ≡ true
unfolding is_shaped
shaped_message m h = h

-- ---- its numbering

abbrev N : List ℕ → List Node
N m = fault_nodes m

num_null : (m : List ℕ) (d : ℕ) (u : List ℕ) (n : ℕ) → Numbered (N m) (suc d) u (places.Reference, slots.Null) n n
unfolding Numbered admits_null
num_null m d u n = a_null refl refl refl

num_top : (m : List ℕ) (d : ℕ) (u : List ℕ) (n : ℕ) → Numbered (N m) (suc d) u (places.Parent, slots.Null) n n
unfolding Numbered admits_null
num_top m d u n = a_null refl refl refl

num_second : (m : List ℕ) (d : ℕ) (u : List ℕ) → Numbered (N m) (suc d) u (places.Text, slots.Node 5) 5 6
unfolding Numbered admits is_text fault_nodes before after
num_second m d u = fresh 5 (Text (codes "Ljava/lang/String;")) refl refl (omega arith) (omega arith) refl (shaped_second m) refl refl

num_first : (m : List ℕ) (d : ℕ) (u : List ℕ) → Numbered (N m) (suc d) u (places.Text, slots.Node 1) 1 2
unfolding Numbered admits is_text fault_nodes before after
num_first m d u = fresh 1 (Text (codes "Ljava/lang/Throwable;")) refl refl (omega arith) (omega arith) refl (shaped_first m) refl refl

num_message : (m : List ℕ) (d : ℕ) (u : List ℕ) → nat_lt (length (utf m)) (2 ^ 63) ≡ true → Numbered (N m) (suc d) u (places.Reference, slots.Node 7) 7 8
unfolding Numbered admits fault_nodes before after
num_message m d u h = fresh 7 (Text m) refl refl (omega arith) (omega arith) refl (shaped_message m h) refl refl

num_throwable : (m : List ℕ) (d : ℕ) (u : List ℕ) → Numbered (N m) (suc (suc d)) u (places.Parent, slots.Node 4) 4 6
unfolding Numbered admits is_desc fault_nodes before after field_wants item_wants
num_throwable m d u = fresh 4 (class_node known.Throwable (slots.Node 5 ∷ []) slots.Null) refl refl (omega arith) (omega arith) refl (shaped_throwable m) refl
    (6, num_second m d _, (6, num_null m d _ 6, (6, num_top m d _ 6, refl)))

num_exception : (m : List ℕ) (d : ℕ) (u : List ℕ) → Numbered (N m) (suc (suc (suc d))) u (places.Parent, slots.Node 3) 3 6
unfolding Numbered admits is_desc fault_nodes before after field_wants item_wants
num_exception m d u = fresh 3 (class_node known.Exception [] (slots.Node 4)) refl refl (omega arith) (omega arith) refl (shaped_exception m) refl
    (4, num_null m (suc d) _ 4, (6, num_throwable m d _, refl))

num_io : (m : List ℕ) (d : ℕ) (u : List ℕ) → Numbered (N m) (suc (suc (suc (suc d)))) u (places.Parent, slots.Node 2) 2 6
unfolding Numbered admits is_desc fault_nodes before after field_wants item_wants
num_io m d u = fresh 2 (class_node known.IoException [] (slots.Node 3)) refl refl (omega arith) (omega arith) refl (shaped_io m) refl
    (3, num_null m (suc (suc d)) _ 3, (6, num_exception m d _, refl))

num_remote : (m : List ℕ) (d : ℕ) (u : List ℕ) → Numbered (N m) (suc (suc (suc (suc (suc d))))) u (places.Class, slots.Node 0) 0 6
unfolding Numbered admits is_desc fault_nodes before after field_wants item_wants
num_remote m d u = fresh 0 (class_node known.RemoteException (slots.Node 1 ∷ []) (slots.Node 2)) refl refl (omega arith) (omega arith) refl (shaped_remote m) refl
    (2, num_first m (suc (suc (suc d))) _, (2, num_null m (suc (suc (suc d))) _ 2, (6, num_io m d _, refl)))

num_object : (m : List ℕ) (d : ℕ) (u : List ℕ) → nat_lt (length (utf m)) (2 ^ 63) ≡ true → Numbered (N m) (suc (suc (suc (suc (suc (suc d)))))) u (places.Reference, slots.Node 6) 0 8
unfolding Numbered admits is_desc fault_nodes before after part_wants value_wants item_wants
num_object m d u h = fresh 6 (Object 0 (fault_parts (slots.Node 7))) refl refl (omega arith) (omega arith) refl (shaped_object m)
    (6, num_remote m d _, refl) (8, num_message m (suc (suc (suc (suc d)))) _ h, (8, num_null m (suc (suc (suc (suc d)))) _ 8, refl))

-- ---- its numbers

abbrev all_small : List ℕ → Bool
all_small [] = true
all_small (u ∷ us) = nat_lt u 65536 && all_small us

and_true : (a b : Bool) → (a && b) ≡ true → (a ≡ true) × (b ≡ true)
and_true true true h = (refl, refl)
and_true true false h = absurd cc
and_true false true h = absurd cc
and_true false false h = absurd cc

pub small : (us : List ℕ) → all_small us ≡ true → TextFits us
small [] h = All-nil (λ u. u < 2 ^ 16)
small (u ∷ us) h =
    let parts = and_true (nat_lt u 65536) (all_small us) h in
    let first : u < 65536 = ltb-true u 65536 parts.0 in
    All-cons (λ x. x < 2 ^ 16) u us (omega arith) (small us parts.1)

pub all_of : {X : Type 0} (P : X → Type 0) (xs : List X) → AllByRecursion P xs → All P xs
all_of P [] h = All-nil P
all_of P (x ∷ xs) h = All-cons P x xs h.0 (all_of P xs h.1)

pub no_note : All ItemFits no_codebase
no_note = all_of ItemFits no_codebase (tt, tt)

reference_fits : (s : Slot) → PartFits (reference s)
reference_fits s = (all_of ValueFits (values.Ref s ∷ []) (tt, tt), All-nil ItemFits)

numbers_fit : (m : List ℕ) → All NodeFits (fault_nodes m)
unfolding fault_nodes
numbers_fit m =
    let none : PartFits empty_part = (All-nil ValueFits, All-nil ItemFits) in
    let parts : All PartFits (fault_parts (slots.Node 7)) = all_of PartFits (fault_parts (slots.Node 7)) (reference_fits (slots.Node 7), (none, (none, (reference_fits slots.Null, tt)))) in
    all_of NodeFits (fault_nodes m) (
      (read_sfits w64 0xB88C9D4EDEE47A22, no_note),
      (
        tt,
        (
          (read_sfits w64 0x6C8073646525F0AB, no_note),
          (
            (read_sfits w64 0xD0FD1F3E1A3B1CC4, no_note),
            ((read_sfits w64 0xD5C635273977B8CB, no_note), (tt, (parts, (tt, tt)))),
          ),
        ),
      ),
    )

pub named_fits : (f : FieldDesc) (ds : List FieldDesc) → all_small f.name ≡ true → All NameFits ds → All NameFits (f ∷ ds)
named_fits f ds h more = All-cons NameFits f ds (small f.name h) more

units_fit : (m : List ℕ) → TextFits m → All UnitsFitIn (fault_nodes m)
unfolding fault_nodes
units_fit m h =
    let detail : All NameFits (desc_with (parts_of known.RemoteException) (slots.Node 1 ∷ []) (slots.Node 2)).fields = named_fits _ [] refl (All-nil NameFits) in
    let message : All NameFits (desc_with (parts_of known.Throwable) (slots.Node 5 ∷ []) slots.Null).fields = named_fits _ [] refl (All-nil NameFits) in
    all_of UnitsFitIn (fault_nodes m) (
      (small (codes "java.rmi.RemoteException") refl, detail),
      (
        small (codes "Ljava/lang/Throwable;") refl,
        (
          (small (codes "java.io.IOException") refl, All-nil NameFits),
          (
            (small (codes "java.lang.Exception") refl, All-nil NameFits),
            (
              (small (codes "java.lang.Throwable") refl, message),
              (
                small (codes "Ljava/lang/String;") refl,
                (tt, (h, tt)),
              ),
            ),
          ),
        ),
      ),
    )

pub looked : (us : List ℕ) → ((i : ℕ) → get_or us i 0 < 65536) → TextFits us
looked [] h = All-nil (λ u. u < 2 ^ 16)
looked (u ∷ us) h = All-cons (λ x. x < 2 ^ 16) u us (h 0) (looked us (λ i. h (suc i)))

pub is_graph : (m : List ℕ) → nat_lt (length (utf m)) (2 ^ 63) ≡ true → TextFits m → IsGraph (fault_nodes m) fault_items
unfolding fault_nodes item_wants joined_from sizes_in notes_in parts_in
is_graph m h fits = record {
  numbered = (8, num_object m 194 [] h, refl);
  joined = refl;
  few_nodes = omega arith;
  few_parts = omega arith;
  numbers = numbers_fit m;
  units = units_fit m fits;
  bytes = all_of ItemFits fault_items (tt, tt);
}

-- ---- its text

string_differs : same_text (codes "Ljava/lang/Throwable;") (codes "Ljava/lang/String;") ≡ false
unfolding same_text
string_differs = refl

-- No node before the sixth is the type text of a String, and none before the second that of a Throwable.
no_string : (m : List ℕ) (k : ℕ) → k < 5 → slice_get (fault_nodes m) k ≡ Some (Text (codes "Ljava/lang/String;")) → ⊥
unfolding fault_nodes
no_string m zero lt e = desc_differs _ _ e
no_string m (suc zero) lt e = texts_differ _ _ string_differs e
no_string m (suc (suc zero)) lt e = desc_differs _ _ e
no_string m (suc (suc (suc zero))) lt e = desc_differs _ _ e
no_string m (suc (suc (suc (suc zero)))) lt e = desc_differs _ _ e
no_string m (suc (suc (suc (suc (suc k))))) lt e = absurd (omega (arith, lt))

no_throwable : (m : List ℕ) (k : ℕ) → k < 1 → slice_get (fault_nodes m) k ≡ Some (Text (codes "Ljava/lang/Throwable;")) → ⊥
unfolding fault_nodes
no_throwable m zero lt e = desc_differs _ _ e
no_throwable m (suc k) lt e = absurd (omega (arith, lt))

pub fault_at : (m : List ℕ) → FaultAt (fault_nodes m) m (slots.Node 6)
unfolding fault_nodes
fault_at m = record {
  throwable = slots.Node 4;
  exception = slots.Node 3;
  io_exception = slots.Node 2;
  remote_exception = slots.Node 0;
  text = slots.Node 7;
  highest = record { texts = slots.Node 5 ∷ []; typed = ((5, refl, (refl, no_string m)), refl); is = refl };
  second = record { texts = []; typed = refl; is = refl };
  third = record { texts = []; typed = refl; is = refl };
  own = record { texts = slots.Node 1 ∷ []; typed = ((1, refl, (refl, no_throwable m)), refl); is = refl };
  told = refl;
  is = refl;
}
