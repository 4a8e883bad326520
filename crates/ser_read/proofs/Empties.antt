-- Heads of blocks as they are spelled.
use Rattle.std.proofs.Common.{◌≡◌, ◌≢◌, ◌⊎◌, ℕ, zero, suc, ◌-◌, ◌^◌, ◌<◌, true, eqb, List, [], ◌∷◌, ◌++◌, length, Ok, refl, ap, subst, ◌∙◌, inl, inr}
use Rattle.std.proofs.lemmas.Bool.{eqb-true, eqb-false}
use Rattle.std.specs.Int.{w32, to_be_bytes}
use Rattle.stream_grammar.specs.Reading.{byte_at, size_at}
use Rattle.stream_grammar.proofs.PlainSound.{AreBytes, bind_ok, chosen, ok_is, byte_sound, size_sound, number_sound_32}
use Rattle.ser_read.specs.declared.block.Head.{Head}
use Rattle.ser_read.specs.declared.block.Head.TheVariants.{Block, Code}
use Rattle.ser_read.specs.Heads.{one_head, any_head, is_empty, head_within}

-- a block's code and length, in either form
abbrev pub Header : ℕ → List ℕ → List ℕ → Type 0
Header k bs rest = ((k < 256) × (bs ≡ 0x77 ∷ k ∷ rest)) ⊎ ((k < 2 ^ 31) × (bs ≡ 0x7A ∷ (to_be_bytes w32 k ++ rest)))

-- so many empty blocks
abbrev pub Empties : ℕ → List ℕ → List ℕ → Type 0
Empties zero bs rest = bs ≡ rest
Empties (suc e) bs rest = (b : List ℕ) × Header 0 bs b × Empties e b rest

abbrev pub IsHead : ℕ → List ℕ → Head × List ℕ → Type 0
IsHead end bs (Block k, rest) = Header k bs rest
IsHead end bs (Code code at, rest) = (bs ≡ code ∷ rest) × (code ≢ 0x77) × (code ≢ 0x7A) × (at ≡ end - length bs)

pub record Sounds (end : ℕ) (bs : List ℕ) (y : Head × List ℕ) : Type 0 where
  pub is : IsHead end bs y
  pub left : AreBytes y.1

pub any_sound : (end : ℕ) (bs : List ℕ) (y : Head × List ℕ) → any_head end bs ≡ Ok y → AreBytes bs → Sounds end bs y
unfolding any_head one_head
any_sound end [] y e bytes = absurd cc
any_sound end (c ∷ bs) y e bytes = elim (chosen (eqb c 0x77) _ _ _ e) [
  | inl p ↦ (
      let a = bind_ok (byte_at bs) _ y p.1 in
      let n = byte_sound bs a.0 a.1 in
      let left = subst AreBytes n bytes.1 in
      subst (λ (y : Head × List ℕ). Sounds end (c ∷ bs) y) (ok_is (Block a.0.0, a.0.1) y a.2)
      (record { is = inl (left.0, ap (λ k. k ∷ bs) (eqb-true c 0x77 p.0) ∙ ap (λ (l : List ℕ). 0x77 ∷ l) n); left = left.1 }))
  | inr p ↦ elim (chosen (eqb c 0x7A) _ _ _ p.1) [
    | inl q ↦ (
        let a = bind_ok (size_at end w32 (2 ^ 31) bs) _ y q.1 in
        let n = size_sound end w32 (2 ^ 31) (2 ^ 32) number_sound_32 bs a.0 a.1 bytes.1 in
        subst (λ (y : Head × List ℕ). Sounds end (c ∷ bs) y) (ok_is (Block a.0.0, a.0.1) y a.2)
        (record { is = inr (n.below, ap (λ k. k ∷ bs) (eqb-true c 0x7A q.0) ∙ ap (λ (l : List ℕ). 0x7A ∷ l) n.parts); left = n.left }))
    | inr q ↦
        subst (λ (y : Head × List ℕ). Sounds end (c ∷ bs) y) (ok_is (Code c (end - length (c ∷ bs)), bs) y q.1)
        (record { is = (refl, eqb-false c 0x77 p.0, eqb-false c 0x7A q.0, refl); left = bytes.1 })
  ]
]

-- empty blocks, and what stands behind them
pub record Found (end : ℕ) (bs : List ℕ) (y : Head × List ℕ) : Type 0 where
  pub count : ℕ
  pub mid : List ℕ
  pub empties : Empties count bs mid
  pub whole : AreBytes mid
  pub is : IsHead end mid y
  pub left : AreBytes y.1

pub found : (end most : ℕ) (bs : List ℕ) (y : Head × List ℕ) → head_within end most bs ≡ Ok y → AreBytes bs → Found end bs y
unfolding head_within
found end zero bs y e bytes = absurd cc
found end (suc most) bs y e bytes =
    let a = bind_ok (any_head end bs) _ y e in
    let s = any_sound end bs a.0 a.1 bytes in
    elim (chosen (is_empty a.0.0) _ _ _ a.2) [
      | inl p ↦ (let f = found end most a.0.1 y p.1 s.left in
          record { count = suc f.count; mid = f.mid; empties = (a.0.1, empty a.0.0 a.0.1 p.0 s.is, f.empties); whole = f.whole; is = f.is; left = f.left })
      | inr p ↦ subst (λ (y : Head × List ℕ). Found end bs y) (ok_is a.0 y p.1) (record { count = 0; mid = bs; empties = refl; whole = bytes; is = s.is; left = s.left })
    ]
  where
    empty : (h : Head) (rest : List ℕ) → is_empty h ≡ true → IsHead end bs (h, rest) → Header 0 bs rest
    empty (Block zero) rest none is = is
    empty (Block (suc k)) rest none is = absurd cc
    empty (Code code at) rest none is = absurd cc
