-- Fields and their values, and a chain, one description further up.
use Rattle.std.proofs.Common.{◌≡◌, ◌≢◌, ℕ, suc, ◌-◌, ◌<◌, Bool, false, List, [], ◌∷◌, length, Option, Some, slice_get, refl, ap, ◌∙◌, arith}
use Rattle.std.proofs.lemmas.Bool.{and_right}
use Rattle.class_desc.specs.declared.slot.Slot.{Slot}
use Rattle.class_desc.specs.declared.slot.Slot.TheVariants as slots
use Rattle.class_desc.specs.declared.field.FieldDesc.{FieldDesc}
use Rattle.ser_values.specs.declared.value.Value.{Value}
use Rattle.ser_values.specs.declared.value.Part.{Part}
use Rattle.ser_values.specs.declared.node.Node.{Node}
use Rattle.ser_values.specs.Shape.{fits_value, fit_values, fits_chain, fits_next, or_above}

pub fit_len : (fs : List FieldDesc) (vs : List Value) → length fs ≢ length vs → fit_values fs vs ≡ false
unfolding fit_values
fit_len [] [] h = absurd (h refl)
fit_len [] (v ∷ vs) h = refl
fit_len (f ∷ fs) [] h = refl
fit_len (f ∷ fs) (v ∷ vs) h = and_right (fits_value f.code v) _ (fit_len fs vs (λ e. h (ap suc e)))

at_next : (nodes : List Node) (ps : List Part) (n : ℕ) (s : Slot) → fits_chain nodes ps (suc n) s ≡ fits_next nodes (fits_chain nodes ps n) (slice_get ps n) s
unfolding fits_chain
at_next nodes ps n slots.Null = refl
at_next nodes ps n (slots.Node k) = refl

pub chain_next : (nodes : List Node) (ps : List Part) (i : ℕ) (part : Part) (s : Slot) (r : Option Slot) → 0 < i → slice_get ps (i - 1) ≡ Some part → ((above : Slot → Bool) → fits_next nodes above (Some part) s ≡ or_above above r)
    → fits_chain nodes ps i s ≡ or_above (fits_chain nodes ps (i - 1)) r
chain_next nodes ps i part s r some is h =
    let e : i ≡ suc (i - 1) = omega arith in
    ap (λ n. fits_chain nodes ps n s) e ∙ at_next nodes ps (i - 1) s ∙ ap (λ p. fits_next nodes (fits_chain nodes ps (i - 1)) p s) is ∙ h (fits_chain nodes ps (i - 1))
