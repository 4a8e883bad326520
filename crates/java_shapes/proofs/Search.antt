-- The search for a class of an object, one class further up.
use Rattle.std.proofs.Common.{◌≡◌, ◌∙◌, ◌<◌, ◌≤◌, ◌-◌, ℕ, zero, suc, List, [], ◌∷◌, length, Option, Some, None, slice_get, refl, sym, arith}
use Rattle.class_desc.specs.declared.slot.Slot.{Slot}
use Rattle.class_desc.specs.declared.desc.ClassDesc.{ClassDesc}
use Rattle.ser_values.specs.declared.value.Part.{Part}
use Rattle.ser_values.specs.declared.node.Node.{Node}
use Rattle.java_shapes.specs.Objects.{Held, node_at, named_in, parent_in, held_here, held_within}

has_item : {A : Type 0} (xs : List A) (i : ℕ) → i < length xs → (x : A) × slice_get xs i ≡ Some x
has_item [] i h = absurd (omega arith)
has_item (x ∷ xs) zero h = (x, refl)
has_item (x ∷ xs) (suc i) h = has_item xs i (omega arith)

held_step : (nodes : List Node) (name : List ℕ) (ps : List Part) (left : ℕ) (s : Slot) → 0 < left
    → held_within nodes name ps left s ≡ held_here (held_within nodes name ps (left - 1)) (slice_get ps (left - 1)) (named_in name (node_at nodes s)) (parent_in (node_at nodes s))
unfolding held_within
held_step nodes name ps zero s h = absurd (omega arith)
held_step nodes name ps (suc n) s h = let e : (suc n) - 1 ≡ n = omega arith in rw e refl

nowhere_in : (above : Slot → Option Held) (o : Option Part) → held_here above o None None ≡ None
nowhere_in above None = refl
nowhere_in above (Some p) = refl

pub held_found : (nodes : List Node) (name : List ℕ) (ps : List Part) (left : ℕ) (s : Slot) (whole : Option Held) (d : ClassDesc) (p : Part)
    → held_within nodes name ps left s ≡ whole → 0 < left → Some d ≡ named_in name (node_at nodes s) → slice_get ps (left - 1) ≡ Some p → Some (d, p) ≡ whole
held_found nodes name ps left s whole d p e lt n g =
    let h = held_step nodes name ps left s lt in
    let k : held_within nodes name ps left s ≡ Some (d, p) = h ∙ rw (g, ← n) refl in
    sym k ∙ e

pub held_above : (nodes : List Node) (name : List ℕ) (ps : List Part) (left : ℕ) (s up : Slot) (whole : Option Held)
    → held_within nodes name ps left s ≡ whole → 0 < left → left ≤ length ps → None ≡ named_in name (node_at nodes s) → Some up ≡ parent_in (node_at nodes s)
    → held_within nodes name ps (left - 1) up ≡ whole
held_above nodes name ps left s up whole e lt le n u =
    let h = held_step nodes name ps left s lt in
    let p = has_item ps (left - 1) (omega arith) in
    let k : held_within nodes name ps left s ≡ held_within nodes name ps (left - 1) up = h ∙ rw (p.1, ← n, ← u) refl in
    sym k ∙ e

pub held_nowhere : (nodes : List Node) (name : List ℕ) (ps : List Part) (left : ℕ) (s : Slot) (whole : Option Held)
    → held_within nodes name ps left s ≡ whole → 0 < left → None ≡ named_in name (node_at nodes s) → None ≡ parent_in (node_at nodes s) → None ≡ whole
held_nowhere nodes name ps left s whole e lt n u =
    let h = held_step nodes name ps left s lt in
    let k : held_within nodes name ps left s ≡ None = h ∙ rw (← n, ← u) (nowhere_in (held_within nodes name ps (left - 1)) (slice_get ps (left - 1))) in
    sym k ∙ e

pub held_ends : (nodes : List Node) (name : List ℕ) (ps : List Part) (left : ℕ) (s : Slot) (whole : Option Held) → held_within nodes name ps left s ≡ whole → left ≡ 0 → None ≡ whole
unfolding held_within
held_ends nodes name ps left s whole e z = (rw z at e)
