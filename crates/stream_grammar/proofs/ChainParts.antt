-- An object has as many parts as its class's chain has descriptions.
use Rattle.std.proofs.Common.{◌≡◌, ◌⊎◌, ◌&&◌, ◌||◌, not, ℕ, zero, suc, ◌≤◌, Bool, true, false, List, [], ◌∷◌, length, Option, Some, slice_get, refl, ap, arith, inl, inr}
use Rattle.std.specs.Prelude.{is_some}
use Rattle.std.proofs.lemmas.Bool.{and_parts}
use Rattle.class_desc.specs.declared.slot.Slot.{Slot}
use Rattle.class_desc.specs.declared.slot.Slot.TheVariants as slots
use Rattle.class_desc.specs.declared.slot.Item.{Item}
use Rattle.class_desc.specs.TypeText.{element_of}
use Rattle.class_desc.specs.ClassDesc.{has_flag, lacks_flag}
use Rattle.ser_values.specs.declared.node.Node.{Node}
use Rattle.ser_values.specs.declared.node.Node.TheVariants.{Desc, Proxy, Object}
use Rattle.ser_values.specs.declared.value.Part.{Part}
use Rattle.ser_values.specs.Chain.{up_from, chain_within, chain, is_externalizable}
use Rattle.ser_values.specs.Numbered.{IsGraph}
use Rattle.ser_values.specs.Shape.{fits_part, fits_above, fits_chain, is_external, fits_object, is_shaped}
use Rattle.stream_grammar.proofs.Mirror.{parts_room}
use Rattle.stream_grammar.proofs.Shaped.{graph_shaped}
use Rattle.stream_grammar.proofs.Sizes.{sizes_len}

up_len : (above : Slot → Bool) (up : Slot → List ℕ) (n k : ℕ) → ((s : Slot) → above s ≡ true → length (up s) ≡ n) → (o : Option Part) (i : Option Node) → fits_above above o i ≡ true → length (up_from up k i) ≡ suc n
up_len above up n k f o (Some (Desc d)) h =
    let a = and_parts (has_flag d.flags 2) (fits_part d.fields (has_flag d.flags 1) o && above d.parent) h in
    let b = and_parts (fits_part d.fields (has_flag d.flags 1) o) (above d.parent) a.1 in
    ap suc (f d.parent b.1)
up_len above up n k f o (Some (Proxy q)) h = let b = and_parts (fits_part [] false o) (above q.parent) h in ap suc (f q.parent b.1)
up_len above up n k f o _ h = absurd cc

pub chain_len : (nodes : List Node) (ps : List Part) (n most : ℕ) (s : Slot) → n ≤ most → fits_chain nodes ps n s ≡ true → length (chain_within most nodes s) ≡ n
unfolding chain_within fits_chain
chain_len nodes ps zero zero slots.Null le h = refl
chain_len nodes ps zero (suc most) slots.Null le h = refl
chain_len nodes ps zero most (slots.Node k) le h = absurd cc
chain_len nodes ps (suc n) most slots.Null le h = absurd cc
chain_len nodes ps (suc n) zero (slots.Node k) le h = absurd (omega arith)
chain_len nodes ps (suc n) (suc most) (slots.Node k) le h = up_len (fits_chain nodes ps n) (chain_within most nodes) n k (λ s g. chain_len nodes ps n most s (omega arith) g) (slice_get ps n) (slice_get nodes k) h

one_part : (ps : List Part) → is_external ps ≡ true → length ps ≡ 1
one_part [] h = absurd cc
one_part (p ∷ []) h = refl
one_part (p ∷ q ∷ ps) h = absurd cc

object_is : (i : Option Node) (ps : List Part) (chained : Bool) → fits_object i ps chained ≡ true → (chained ≡ true) ⊎ ((is_externalizable i ≡ true) × (length ps ≡ 1))
object_is i ps true h = inl refl
object_is (Some (Desc d)) ps false h =
    let a = and_parts (lacks_flag d.flags 16 && not (is_some (element_of d.name))) (false || ((has_flag d.flags 4 && has_flag d.flags 8) && is_external ps)) h in
    let b = and_parts (has_flag d.flags 4 && has_flag d.flags 8) (is_external ps) a.1 in
    let c = and_parts (has_flag d.flags 4) (has_flag d.flags 8) b.0 in
    inr (c.0, one_part ps b.1)
object_is (Some (Proxy q)) ps false h = absurd cc
object_is _ ps false h = absurd cc

pub parts_by_chain : (nodes : List Node) (items : List Item) → IsGraph nodes items → (number class : ℕ) (parts : List Part) → slice_get nodes number ≡ Some (Object class parts)
    → (length (chain nodes (slots.Node class)) ≡ length parts) ⊎ ((is_externalizable (slice_get nodes class) ≡ true) × (length parts ≡ 1))
unfolding is_shaped
parts_by_chain nodes items g number class parts is =
    let room = parts_room nodes number (Object class parts) is in
    let all = g.few_parts in
    let lens = sizes_len parts in
    elim (object_is (slice_get nodes class) parts (fits_chain nodes parts (length parts) (slots.Node class)) (graph_shaped nodes items g number (Object class parts) is)) [
      | inl fits ↦ inl (chain_len nodes parts (length parts) 1048576 (slots.Node class) (omega arith) fits)
      | inr other ↦ inr other
    ]
