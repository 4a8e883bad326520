-- The codes of constructs.
use Rattle.std.proofs.Common.{◌≡◌, ◌≤◌, ℕ, Bool, true, false, ◌&&◌, ◌||◌, eqb, leb, refl, sym, subst, arith, inl, inr}
use Rattle.std.proofs.lemmas.Bool.{and_parts, eqb-false, eqb-true, leb-true, or_cases}
use Rattle.ser_values.specs.declared.node.SlotPlace.{SlotPlace}
use Rattle.ser_values.specs.declared.node.SlotPlace.TheVariants as places
use Rattle.stream_grammar.specs.Reading.{admits_code, gives_handle}

-- A code that gives a handle is one of eight.
pub code_known : (code : ℕ) → gives_handle code ≡ true → eqb code 0x72 ≡ false → eqb code 0x73 ≡ false → eqb code 0x74 ≡ false → eqb code 0x75 ≡ false → eqb code 0x76 ≡ false → eqb code 0x7C ≡ false → eqb code 0x7D ≡ false → eqb code 0x7E ≡ false → ⊥
code_known code h e1 e2 e3 e4 e5 e6 e7 e8 = elim (or_cases (leb 0x72 code && leb code 0x76) (eqb code 0x7C || (eqb code 0x7D || eqb code 0x7E)) h) [
  | inl p ↦
      let b = and_parts (leb 0x72 code) (leb code 0x76) p in
      let low : 0x72 ≤ code = leb-true 0x72 code b.0 in
      let high : code ≤ 0x76 = leb-true code 0x76 b.1 in
      let n1 = eqb-false code 0x72 e1 in
      let n2 = eqb-false code 0x73 e2 in
      let n3 = eqb-false code 0x74 e3 in
      let n4 = eqb-false code 0x75 e4 in
      let n5 = eqb-false code 0x76 e5 in
      omega (arith, n1, n2, n3, n4, n5, low, high)
  | inr p ↦ absurd (let q : false ≡ true = rw (e6, e7, e8) at p in cc)
]

-- A code that a place admits gives a handle.
pub admitted_gives : (p : SlotPlace) (c : ℕ) → admits_code p c ≡ true → gives_handle c ≡ true
admitted_gives places.Reference c h = h
admitted_gives places.Class c h = elim (or_cases (eqb c 0x72) (eqb c 0x7D) h) [
  | inl e ↦ subst (λ k. gives_handle k ≡ true) (sym (eqb-true c 0x72 e)) refl
  | inr e ↦ subst (λ k. gives_handle k ≡ true) (sym (eqb-true c 0x7D e)) refl
]
admitted_gives places.Parent c h = elim (or_cases (eqb c 0x72) (eqb c 0x7D) h) [
  | inl e ↦ subst (λ k. gives_handle k ≡ true) (sym (eqb-true c 0x72 e)) refl
  | inr e ↦ subst (λ k. gives_handle k ≡ true) (sym (eqb-true c 0x7D e)) refl
]
admitted_gives places.Text c h = elim (or_cases (eqb c 0x74) (eqb c 0x7C) h) [
  | inl e ↦ subst (λ k. gives_handle k ≡ true) (sym (eqb-true c 0x74 e)) refl
  | inr e ↦ subst (λ k. gives_handle k ≡ true) (sym (eqb-true c 0x7C e)) refl
]
