-- Bytes of numbers and texts, of which one thing alone can be read.
use Rattle.std.proofs.Common.{◌≡◌, ℕ, ◌+◌, ◌/◌, ◌%◌, ◌^◌, ◌<◌, ◌≤◌, ◌⊎◌, ℤ, FitsSigned, List, [], ◌∷◌, ◌++◌, length, refl, sym, ap, ◌∙◌, arith, inl, inr}
use Rattle.std.specs.Int.{Width, w16, w32, w64, to_be_bytes, from_be_bytes, cast_unsigned, cast_signed}
use Rattle.std.proofs.lemmas.Grind.{common_steps}
use Rattle.std.proofs.lemmas.Nat.{from_be_bytes-to_be_bytes_2, from_be_bytes-to_be_bytes_4, from_be_bytes-to_be_bytes_8}
use Rattle.std.proofs.lemmas.Int.{to_z-of_z}
use Rattle.std.proofs.Math.Facts.{Fits-of_z, Fits-lt-pow}
use Rattle.std.proofs.str.Laws.{order}
use Rattle.mod_utf.specs.Utf.{unit_bytes, utf}

-- ---- fronts of one length

pub front_same : {A : Type 0} (r q x y : List A) → length r ≡ length q → r ++ x ≡ q ++ y → (r ≡ q) × (x ≡ y)
front_same [] [] x y len e = (refl, e)
front_same [] (b ∷ q) x y len e = absurd (omega arith)
front_same (a ∷ r) [] x y len e = absurd (omega arith)
front_same (a ∷ r) (b ∷ q) x y len e =
    let first : a ≡ b = cc in
    let others : r ++ x ≡ q ++ y = cc in
    let more = front_same r q x y (omega arith) others in
    let same : r ≡ q = more.0 in
    (cc, more.1)

-- ---- numbers

pub same_16 : (a b : ℕ) → a < 2 ^ 16 → b < 2 ^ 16 → to_be_bytes w16 a ≡ to_be_bytes w16 b → a ≡ b
same_16 a b p q e = sym (from_be_bytes-to_be_bytes_2 a p) ∙ (ap (from_be_bytes w16) e ∙ from_be_bytes-to_be_bytes_2 b q)

pub same_32 : (a b : ℕ) → a < 2 ^ 32 → b < 2 ^ 32 → to_be_bytes w32 a ≡ to_be_bytes w32 b → a ≡ b
same_32 a b p q e = sym (from_be_bytes-to_be_bytes_4 a p) ∙ (ap (from_be_bytes w32) e ∙ from_be_bytes-to_be_bytes_4 b q)

pub same_64 : (a b : ℕ) → a < 2 ^ 64 → b < 2 ^ 64 → to_be_bytes w64 a ≡ to_be_bytes w64 b → a ≡ b
same_64 a b p q e = sym (from_be_bytes-to_be_bytes_8 a p) ∙ (ap (from_be_bytes w64) e ∙ from_be_bytes-to_be_bytes_8 b q)

pub same_signed : (w : Width) (y z : ℤ) → FitsSigned w y → FitsSigned w z → cast_unsigned w y ≡ cast_unsigned w z → y ≡ z
same_signed w y z p q e = sym (to_z-of_z w y p) ∙ (ap (cast_signed w) e ∙ to_z-of_z w z q)

pub below_16 : (z : ℤ) → FitsSigned w16 z → cast_unsigned w16 z < 2 ^ 16
below_16 z p = Fits-lt-pow (Fits-of_z p)

pub below_32 : (z : ℤ) → FitsSigned w32 z → cast_unsigned w32 z < 2 ^ 32
below_32 z p = Fits-lt-pow (Fits-of_z p)

pub below_64 : (z : ℤ) → FitsSigned w64 z → cast_unsigned w64 z < 2 ^ 64
below_64 z p = Fits-lt-pow (Fits-of_z p)

-- ---- texts

-- which of the three forms a unit has
data Form (u : ℕ) : Type 0 where
  one : 0 < u → u < 128 → unit_bytes u ≡ u ∷ [] → Form u
  two : u < 2048 → unit_bytes u ≡ (192 + u / 64) ∷ (128 + u % 64) ∷ [] → Form u
  three : unit_bytes u ≡ (224 + u / 4096) ∷ (128 + u / 64 % 64) ∷ (128 + u % 64) ∷ [] → Form u

form_of : (u : ℕ) → Form u
form_of u = go (order 0 u) (order u 128) (order u 2048)
  where
    go : (0 < u) ⊎ (u ≤ 0) → (u < 128) ⊎ (128 ≤ u) → (u < 2048) ⊎ (2048 ≤ u) → Form u
    go (inl a) (inl b) c = one a b (grind (arith, common_steps))
    go (inl a) (inr b) (inl c) = two c (grind (arith, common_steps))
    go (inl a) (inr b) (inr c) = three (grind (arith, common_steps))
    go (inr a) b c = two (omega arith) (grind (arith, common_steps))

pub heads : {A : Type 0} (a b : A) (x y : List A) → a ∷ x ≡ b ∷ y → (a ≡ b) × (x ≡ y)
heads a b x y e = let p : a ≡ b = cc in let q : x ≡ y = cc in (p, q)

two_same : (u v : ℕ) → 192 + u / 64 ≡ 192 + v / 64 → 128 + u % 64 ≡ 128 + v % 64 → u ≡ v
two_same u v a b = omega arith

three_same : (u v : ℕ) → 224 + u / 4096 ≡ 224 + v / 4096 → 128 + u / 64 % 64 ≡ 128 + v / 64 % 64 → 128 + u % 64 ≡ 128 + v % 64 → u ≡ v
three_same u v a b c = omega arith

units_same : (u v : ℕ) (x y bs : List ℕ) → Form u → Form v → bs ≡ unit_bytes u ++ x → bs ≡ unit_bytes v ++ y → (u ≡ v) × (x ≡ y)
units_same u v x y bs (one a b e) (one c d f) l r =
    let s : u ∷ x ≡ v ∷ y = sym (rw e at l) ∙ rw f at r in
    heads u v x y s
units_same u v x y bs (one a b e) (two c f) l r =
    let s : u ∷ x ≡ (192 + v / 64) ∷ ((128 + v % 64) ∷ y) = sym (rw e at l) ∙ rw f at r in
    let h = (heads _ _ _ _ s).0 in absurd (omega arith)
units_same u v x y bs (one a b e) (three f) l r =
    let s : u ∷ x ≡ (224 + v / 4096) ∷ ((128 + v / 64 % 64) ∷ ((128 + v % 64) ∷ y)) = sym (rw e at l) ∙ rw f at r in
    let h = (heads _ _ _ _ s).0 in absurd (omega arith)
units_same u v x y bs (two a e) (one c d f) l r =
    let s : (192 + u / 64) ∷ ((128 + u % 64) ∷ x) ≡ v ∷ y = sym (rw e at l) ∙ rw f at r in
    let h = (heads _ _ _ _ s).0 in absurd (omega arith)
units_same u v x y bs (two a e) (two c f) l r =
    let s : (192 + u / 64) ∷ ((128 + u % 64) ∷ x) ≡ (192 + v / 64) ∷ ((128 + v % 64) ∷ y) = sym (rw e at l) ∙ rw f at r in
    let h = heads _ _ _ _ s in
    let g = heads _ _ _ _ h.1 in
    (two_same u v h.0 g.0, g.1)
units_same u v x y bs (two a e) (three f) l r =
    let s : (192 + u / 64) ∷ ((128 + u % 64) ∷ x) ≡ (224 + v / 4096) ∷ ((128 + v / 64 % 64) ∷ ((128 + v % 64) ∷ y)) = sym (rw e at l) ∙ rw f at r in
    let h = (heads _ _ _ _ s).0 in absurd (omega arith)
units_same u v x y bs (three e) (one c d f) l r =
    let s : (224 + u / 4096) ∷ ((128 + u / 64 % 64) ∷ ((128 + u % 64) ∷ x)) ≡ v ∷ y = sym (rw e at l) ∙ rw f at r in
    let h = (heads _ _ _ _ s).0 in absurd (omega arith)
units_same u v x y bs (three e) (two c f) l r =
    let s : (224 + u / 4096) ∷ ((128 + u / 64 % 64) ∷ ((128 + u % 64) ∷ x)) ≡ (192 + v / 64) ∷ ((128 + v % 64) ∷ y) = sym (rw e at l) ∙ rw f at r in
    let h = (heads _ _ _ _ s).0 in absurd (omega arith)
units_same u v x y bs (three e) (three f) l r =
    let s : (224 + u / 4096) ∷ ((128 + u / 64 % 64) ∷ ((128 + u % 64) ∷ x)) ≡ (224 + v / 4096) ∷ ((128 + v / 64 % 64) ∷ ((128 + v % 64) ∷ y)) = sym (rw e at l) ∙ rw f at r in
    let h = heads _ _ _ _ s in
    let g = heads _ _ _ _ h.1 in
    let k = heads _ _ _ _ g.1 in
    (three_same u v h.0 g.0 k.0, k.1)

no_units : (u : ℕ) (x : List ℕ) → Form u → [] ≡ unit_bytes u ++ x → ⊥
no_units u x (one a b e) l = let s : [] ≡ u ∷ x = rw e at l in cc
no_units u x (two a e) l = let s : [] ≡ (192 + u / 64) ∷ ((128 + u % 64) ∷ x) = rw e at l in cc
no_units u x (three e) l = let s : [] ≡ (224 + u / 4096) ∷ ((128 + u / 64 % 64) ∷ ((128 + u % 64) ∷ x)) = rw e at l in cc

-- Two texts of the same bytes are the same.
pub text_same : (t u : List ℕ) → utf t ≡ utf u → t ≡ u
text_same [] [] e = refl
text_same [] (v ∷ u) e = absurd (no_units v (utf u) (form_of v) e)
text_same (v ∷ t) [] e = absurd (no_units v (utf t) (form_of v) (sym e))
text_same (v ∷ t) (w ∷ u) e =
    let h = units_same v w (utf t) (utf u) (unit_bytes v ++ utf t) (form_of v) (form_of w) refl e in
    let others : t ≡ u = text_same t u h.1 in
    let first : v ≡ w = h.0 in
    cc
