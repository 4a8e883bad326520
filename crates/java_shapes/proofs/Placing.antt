-- The search for the place of a class, one class further up.
use Rattle.std.proofs.Common.{◌≡◌, ◌∙◌, ◌<◌, ◌-◌, ℕ, zero, suc, List, Option, Some, None, refl, sym, arith}
use Rattle.class_desc.specs.declared.slot.Slot.{Slot}
use Rattle.class_desc.specs.declared.desc.ClassDesc.{ClassDesc}
use Rattle.ser_values.specs.declared.node.Node.{Node}
use Rattle.java_shapes.specs.Objects.{node_at, named_in, parent_in}
use Rattle.java_shapes.specs.Flags.{place_here, place_within}

place_step : (nodes : List Node) (name : List ℕ) (left : ℕ) (s : Slot) → 0 < left
    → place_within nodes name left s ≡ place_here (place_within nodes name (left - 1)) (left - 1) (named_in name (node_at nodes s)) (parent_in (node_at nodes s))
unfolding place_within
place_step nodes name zero s h = absurd (omega arith)
place_step nodes name (suc n) s h = let e : (suc n) - 1 ≡ n = omega arith in rw e refl

pub place_found : (nodes : List Node) (name : List ℕ) (left : ℕ) (s : Slot) (whole : Option ℕ) (d : ClassDesc) → place_within nodes name left s ≡ whole → 0 < left → Some d ≡ named_in name (node_at nodes s) → Some (left - 1) ≡ whole
place_found nodes name left s whole d e lt n =
    let h = place_step nodes name left s lt in
    let k : place_within nodes name left s ≡ Some (left - 1) = h ∙ rw (← n) refl in
    sym k ∙ e

pub place_above : (nodes : List Node) (name : List ℕ) (left : ℕ) (s up : Slot) (whole : Option ℕ) → place_within nodes name left s ≡ whole → 0 < left → None ≡ named_in name (node_at nodes s) → Some up ≡ parent_in (node_at nodes s)
    → place_within nodes name (left - 1) up ≡ whole
place_above nodes name left s up whole e lt n u =
    let h = place_step nodes name left s lt in
    let k : place_within nodes name left s ≡ place_within nodes name (left - 1) up = h ∙ rw (← n, ← u) refl in
    sym k ∙ e

pub place_nowhere : (nodes : List Node) (name : List ℕ) (left : ℕ) (s : Slot) (whole : Option ℕ) → place_within nodes name left s ≡ whole → 0 < left → None ≡ named_in name (node_at nodes s) → None ≡ parent_in (node_at nodes s) → None ≡ whole
place_nowhere nodes name left s whole e lt n u =
    let h = place_step nodes name left s lt in
    let k : place_within nodes name left s ≡ None = h ∙ rw (← n, ← u) refl in
    sym k ∙ e

pub place_ends : (nodes : List Node) (name : List ℕ) (left : ℕ) (s : Slot) (whole : Option ℕ) → place_within nodes name left s ≡ whole → left ≡ 0 → None ≡ whole
unfolding place_within
place_ends nodes name left s whole e z = (rw z at e)
