-- The chain of a class, step by step.
use Rattle.std.proofs.Common.{◌≡◌, ℕ, suc, zero, ◌&&◌, Bool, true, false, List, [], ◌∷◌, ◌++◌, reverse, Some, slice_get, refl, sym, ap, ◌∙◌, append_assoc, ◌-◌, ◌<◌, arith}
use Rattle.std.proofs.lemmas.List.{map_push, reverse-append}
use Rattle.class_desc.specs.declared.slot.Slot.{Slot}
use Rattle.class_desc.specs.declared.slot.Slot.TheVariants as slots
use Rattle.class_desc.specs.declared.desc.ClassDesc.{ClassDesc}
use Rattle.class_desc.specs.declared.desc.ProxyDesc.{ProxyDesc}
use Rattle.class_desc.specs.declared.field.TypeCode.{TypeCode}
use Rattle.class_desc.specs.ClassDesc.{has_flag}
use Rattle.ser_values.specs.declared.node.Node.{Node}
use Rattle.ser_values.specs.declared.node.Node.TheVariants.{Desc, Proxy}
use Rattle.stream_grammar.specs.Reading.{Row, chain_above, chain_of}
use Rattle.ser_read.specs.declared.row.ClassRow.{ClassRow}
use Rattle.ser_read.specs.declared.shape.Climb.{Climb}
use Rattle.ser_read.specs.declared.shape.Climb.TheVariants.{Class}
use Rattle.ser_read.specs.Codes.{codes_of}
use Rattle.ser_read.specs.ObjectRows.{row_of, class_rows}
use Rattle.ser_read.specs.Chains.{shown, climb_by}

and_true : (a : Bool) → a ≡ a && true
and_true true = refl
and_true false = refl

pub desc_link : (above : Slot → List Row × Bool) (d : ClassDesc) (i : Node) (codes : List TypeCode) (note serial : Bool) → i ≡ Desc d → codes ≡ codes_of d.fields → note ≡ has_flag d.flags 1 → serial ≡ has_flag d.flags 2
    → shown (chain_above above (Some i)) ≡ climb_by above (Class (record { codes = codes; note = note }) serial d.parent)
desc_link above d i codes note serial h a b e = rw (h, a, b, e) (ap (λ (rows : List ClassRow). (rows, (above d.parent).1 && has_flag d.flags 2)) (map_push row_of (above d.parent).0 (d.fields, has_flag d.flags 1)))

pub proxy_link : (above : Slot → List Row × Bool) (p : ProxyDesc) (i : Node) (codes : List TypeCode) → i ≡ Proxy p → codes ≡ [] → shown (chain_above above (Some i)) ≡ climb_by above (Class (record { codes = codes; note = false }) true p.parent)
proxy_link above p i codes h a = rw (h, a) (ap (λ (rows : List ClassRow). (rows, (above p.parent).1)) (map_push row_of (above p.parent).0 ([], false)) ∙ ap (λ (b : Bool). (class_rows (above p.parent).0 ++ row_of ([], false) ∷ [], b)) (and_true (above p.parent).1))

and_assoc : (a b c : Bool) → (a && b) && c ≡ a && (b && c)
and_assoc true b c = refl
and_assoc false b c = refl

-- one step of the walk up
pub rows_more : (above : List ClassRow) (row : ClassRow) (up : List ClassRow) → (above ++ row ∷ []) ++ reverse up ≡ above ++ reverse (up ++ row ∷ [])
rows_more above row up = append_assoc above (row ∷ []) (reverse up) ∙ ap (λ (r : List ClassRow). above ++ r) (sym (reverse-append up (row ∷ [])))

abbrev pub Up : Type 0
Up = List ClassRow × Bool

pub up_rows : (nodes : List Node) (n : ℕ) (s : Slot) (row : ClassRow) (serial : Bool) (parent : Slot) (up : List ClassRow) → 0 < n → ((n : ℕ) → shown (chain_of (suc n) nodes s) ≡ climb_by (chain_of n nodes) (Class row serial parent))
    → (shown (chain_of n nodes s)).0 ++ reverse up ≡ (shown (chain_of (n - 1) nodes parent)).0 ++ reverse (up ++ row ∷ [])
up_rows nodes n s row serial parent up lt h =
    let e : n ≡ suc (n - 1) = omega arith in
    ap (λ m. (shown (chain_of m nodes s)).0 ++ reverse up) e ∙ ap (λ (x : Up). x.0 ++ reverse up) (h (n - 1)) ∙ rows_more (shown (chain_of (n - 1) nodes parent)).0 row up

pub up_serial : (nodes : List Node) (n : ℕ) (s : Slot) (row : ClassRow) (serial : Bool) (parent : Slot) (acc : Bool) → 0 < n → ((n : ℕ) → shown (chain_of (suc n) nodes s) ≡ climb_by (chain_of n nodes) (Class row serial parent))
    → (chain_of n nodes s).1 && acc ≡ (chain_of (n - 1) nodes parent).1 && (serial && acc)
up_serial nodes n s row serial parent acc lt h =
    let e : n ≡ suc (n - 1) = omega arith in
    ap (λ m. (shown (chain_of m nodes s)).1 && acc) e ∙ ap (λ (x : Up). x.1 && acc) (h (n - 1)) ∙ and_assoc (chain_of (n - 1) nodes parent).1 serial acc

pub up_end : (nodes : List Node) (n : ℕ) (s : Slot) (c : Climb) (rows : List ClassRow) (serial : Bool) → 0 < n → ((n : ℕ) → shown (chain_of (suc n) nodes s) ≡ climb_by (chain_of n nodes) c) → ((above : Slot → List Row × Bool) → climb_by above c ≡ (rows, serial))
    → shown (chain_of n nodes s) ≡ (rows, serial)
up_end nodes n s c rows serial lt h g = let e : n ≡ suc (n - 1) = omega arith in ap (λ m. shown (chain_of m nodes s)) e ∙ h (n - 1) ∙ g (chain_of (n - 1) nodes)

pub null_end : (nodes : List Node) (n : ℕ) (s : Slot) → s ≡ slots.Null → shown (chain_of n nodes s) ≡ ([], true)
unfolding chain_of
null_end nodes zero s h = rw h refl
null_end nodes (suc n) s h = rw h refl

pub node_end : (nodes : List Node) (n : ℕ) (s : Slot) (k : ℕ) → n ≡ 0 → s ≡ slots.Node k → shown (chain_of n nodes s) ≡ ([], false)
unfolding chain_of
node_end nodes n s k z h = rw (z, h) refl

one_link : (nodes : List Node) (n k : ℕ) (d : ClassDesc) → slice_get nodes k ≡ Some (Desc d) → d.parent ≡ slots.Null → chain_of (suc n) nodes (slots.Node k) ≡ ((d.fields, has_flag d.flags 1) ∷ [], has_flag d.flags 2)
unfolding chain_of
one_link nodes n k d is top = rw (is, top) refl

-- a class without a superclass
pub one_chain : (nodes : List Node) (k : ℕ) (d : ClassDesc) → slice_get nodes k ≡ Some (Desc d) → d.parent ≡ slots.Null → chain_of 1048576 nodes (slots.Node k) ≡ ((d.fields, has_flag d.flags 1) ∷ [], has_flag d.flags 2)
one_chain nodes k d is top = one_link nodes 1048575 k d is top
