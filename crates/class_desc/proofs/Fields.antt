-- The tests of a description's flags and fields are exact.
use Rattle.std.proofs.Common.{◌≡◌, ℕ, ℤ, pos, ◌≤◌, ◌||◌, ◌&&◌, true, ltb, eqb, List, [], ◌∷◌, length, refl, ap, arith, inl, inr, bit_and}
use Rattle.std.specs.Prelude.{◌⊎◌}
use Rattle.std.proofs.lemmas.Bool.{eqb-true, ltb-true, lt-ltb, and_parts, or_cases, or_right}
use Rattle.class_desc.specs.declared.field.FieldDesc.{FieldDesc}
use Rattle.class_desc.specs.declared.desc.ClassDesc.{ClassDesc}
use Rattle.class_desc.specs.TypeText.{is_nil}
use Rattle.class_desc.specs.ClassDesc.{HasFlag, LacksFlag, HasGoodFlags, are_ordered, has_flag, lacks_flag, is_zero, fit_flags}
use Rattle.class_desc.proofs.TypeTexts.{eq_true, nil_is}

pub ordered_end : (fs : List FieldDesc) → length fs ≤ 1 → are_ordered fs ≡ true
unfolding are_ordered
ordered_end [] h = refl
ordered_end (f ∷ []) h = refl
ordered_end (f ∷ g ∷ fs) h = absurd (omega arith)

two : (n f m g : ℕ) → (eqb (bit_and n f) 0 || eqb (bit_and m g) g) ≡ true → LacksFlag n f ⊎ HasFlag m g
two n f m g h = elim (or_cases (eqb (bit_and n f) 0) _ h) [
  | inl e ↦ inl (eqb-true _ _ e)
  | inr e ↦ inr (eqb-true _ _ e)
]

two_of : (n f m g : ℕ) → LacksFlag n f ⊎ HasFlag m g → (eqb (bit_and n f) 0 || eqb (bit_and m g) g) ≡ true
two_of n f m g h = elim h [
  | inl e ↦ rw (eq_true _ _ e) refl
  | inr e ↦ or_right (eqb (bit_and n f) 0) _ (eq_true _ _ e)
]

lacks_two : (n f g : ℕ) → (eqb (bit_and n f) 0 || eqb (bit_and n g) 0) ≡ true → LacksFlag n f ⊎ LacksFlag n g
lacks_two n f g h = elim (or_cases (eqb (bit_and n f) 0) _ h) [
  | inl e ↦ inl (eqb-true _ _ e)
  | inr e ↦ inr (eqb-true _ _ e)
]

lacks_two_of : (n f g : ℕ) → LacksFlag n f ⊎ LacksFlag n g → (eqb (bit_and n f) 0 || eqb (bit_and n g) 0) ≡ true
lacks_two_of n f g h = elim h [
  | inl e ↦ rw (eq_true _ _ e) refl
  | inr e ↦ or_right (eqb (bit_and n f) 0) _ (eq_true _ _ e)
]

zero_is : (z : ℤ) → is_zero z ≡ true → z ≡ pos 0
zero_is (pos n) h = ap pos (eqb-true n 0 h)
zero_is _ h = absurd cc

zero_of : (z : ℤ) → z ≡ pos 0 → is_zero z ≡ true
zero_of z e = ap is_zero e

enum_is : (n : ℕ) (z : ℤ) (fs : List FieldDesc) → (((has_flag n 2 && lacks_flag n 1) && is_nil fs) && is_zero z) ≡ true → HasFlag n 2 × LacksFlag n 1 × (fs ≡ []) × (z ≡ pos 0)
enum_is n z fs h =
    let p = and_parts ((has_flag n 2 && lacks_flag n 1) && is_nil fs) (is_zero z) h in
    let q = and_parts (has_flag n 2 && lacks_flag n 1) (is_nil fs) p.0 in
    let r = and_parts (has_flag n 2) (lacks_flag n 1) q.0 in
    (eqb-true _ _ r.0, eqb-true _ _ r.1, nil_is fs q.1, zero_is z p.1)

enum_of : (n : ℕ) (z : ℤ) (fs : List FieldDesc) → HasFlag n 2 × LacksFlag n 1 × (fs ≡ []) × (z ≡ pos 0) → (((has_flag n 2 && lacks_flag n 1) && is_nil fs) && is_zero z) ≡ true
enum_of n z fs h = rw (eq_true _ _ h.0, eq_true _ _ h.1) (rw (h.2, zero_of z h.3) refl)

enums_is : (n : ℕ) (z : ℤ) (fs : List FieldDesc) → (lacks_flag n 16 || (((has_flag n 2 && lacks_flag n 1) && is_nil fs) && is_zero z)) ≡ true → LacksFlag n 16 ⊎ (HasFlag n 2 × LacksFlag n 1 × (fs ≡ []) × (z ≡ pos 0))
enums_is n z fs h = elim (or_cases (lacks_flag n 16) _ h) [
  | inl e ↦ inl (eqb-true _ _ e)
  | inr e ↦ inr (enum_is n z fs e)
]

enums_of : (n : ℕ) (z : ℤ) (fs : List FieldDesc) → LacksFlag n 16 ⊎ (HasFlag n 2 × LacksFlag n 1 × (fs ≡ []) × (z ≡ pos 0)) → (lacks_flag n 16 || (((has_flag n 2 && lacks_flag n 1) && is_nil fs) && is_zero z)) ≡ true
enums_of n z fs h = elim h [
  | inl e ↦ rw (eq_true _ _ e) refl
  | inr e ↦ or_right (lacks_flag n 16) _ (enum_of n z fs e)
]

pub flags_are : (d : ClassDesc) → fit_flags d ≡ true → HasGoodFlags d
unfolding fit_flags
flags_are d h =
    let n = d.flags in
    let p = and_parts (((ltb n 32 && (lacks_flag n 2 || lacks_flag n 4)) && (lacks_flag n 8 || has_flag n 4)) && (lacks_flag n 1 || has_flag n 2)) _ h in
    let q = and_parts ((ltb n 32 && (lacks_flag n 2 || lacks_flag n 4)) && (lacks_flag n 8 || has_flag n 4)) (lacks_flag n 1 || has_flag n 2) p.0 in
    let r = and_parts (ltb n 32 && (lacks_flag n 2 || lacks_flag n 4)) (lacks_flag n 8 || has_flag n 4) q.0 in
    let s = and_parts (ltb n 32) (lacks_flag n 2 || lacks_flag n 4) r.0 in
    record {
      known = ltb-true n 32 s.0;
      one_kind = lacks_two n 2 4 s.1;
      block_data = two n 8 n 4 r.1;
      write_method = two n 1 n 2 q.1;
      enums = enums_is n d.suid d.fields p.1;
    }

pub flags_of : (d : ClassDesc) → HasGoodFlags d → fit_flags d ≡ true
unfolding fit_flags
flags_of d g =
    let n = d.flags in
    rw (lt-ltb n 32 g.known, lacks_two_of n 2 4 g.one_kind, two_of n 8 n 4 g.block_data, two_of n 1 n 2 g.write_method) (enums_of n d.suid d.fields g.enums)
