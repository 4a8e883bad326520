-- Numbers and texts that are read are spelled.
use Rattle.std.proofs.Common.{◌≡◌, ℕ, zero, suc, ◌<◌, ◌≤◌, ◌^◌, ◌⊎◌, Bool, true, false, cond, ltb, List, [], ◌∷◌, ◌++◌, length, take, drop, get_or, Option, Some, None, Result, Ok, Err, refl, sym, ap, subst, ◌∙◌, append_assoc, arith, inl, inr}
use Rattle.std.specs.Prelude.{All}
use Rattle.std.specs.List.{AllByRecursion}
use Rattle.std.proofs.lemmas.List.Elements.{All-nil, All-cons}
use Rattle.std.proofs.lemmas.Bool.{ltb-true, ltb-false}
use Rattle.std.proofs.lemmas.List.{take-append-drop, length-take}
use Rattle.std.proofs.lemmas.Nat.{be_bytes_2, be_bytes_4, be_bytes_8}
use Rattle.std.specs.Int.{Width, w16, w32, w64, to_be_bytes, from_be_bytes, byte_len}
use Rattle.mod_utf.specs.Utf.{utf}
use Rattle.mod_utf.specs.Decoding.{decoded_units}
use Rattle.mod_utf.proofs.Decoded.{decoded_sound}
use Rattle.mod_utf.proofs.Fronts.{AreUnits}
use Rattle.stream_grammar.specs.Reading.{Fault, ◌>>=◌, byte_at, take_at, number_at, size_at, units_of, units_at, short_at, long_at, FaultKind, unless}

-- ---- bytes are numbers of 8 bits

abbrev pub AreBytes : List ℕ → Type 0
AreBytes [] = Unit {0}
AreBytes (b ∷ bs) = (b < 256) × AreBytes bs

pub bytes_rest : (t rest : List ℕ) → AreBytes (t ++ rest) → AreBytes rest
bytes_rest [] rest h = h
bytes_rest (b ∷ t) rest h = bytes_rest t rest h.1

-- the same, in the words of the definitions
pub all_bytes : (bs : List ℕ) → AreBytes bs → AllByRecursion (λ b. b < 256) bs
all_bytes [] h = tt
all_bytes (b ∷ bs) h = (h.0, all_bytes bs h.1)

pub from_bytes : (bs : List ℕ) → AllByRecursion (λ b. b < 256) bs → AreBytes bs
from_bytes [] h = tt
from_bytes (b ∷ bs) h = (h.0, from_bytes bs h.1)

pub bytes_fit : (t rest : List ℕ) → AreBytes (t ++ rest) → All (λ x. x < 2 ^ 8) t
bytes_fit [] rest h = All-nil (λ x. x < 2 ^ 8)
bytes_fit (b ∷ t) rest h = All-cons (λ x. x < 2 ^ 8) b t h.0 (bytes_fit t rest h.1)

bytes_front : (t rest : List ℕ) → AreBytes (t ++ rest) → (i : ℕ) → get_or t i 0 < 256
bytes_front [] rest h i = omega arith
bytes_front (b ∷ t) rest h zero = h.0
bytes_front (b ∷ t) rest h (suc i) = bytes_front t rest h.1 i

pub bytes_left : (bs t rest : List ℕ) → bs ≡ t ++ rest → AreBytes bs → AreBytes rest
bytes_left bs t rest e h = bytes_rest t rest (subst AreBytes e h)

-- ---- steps that did not fail

pub bind_ok : {A B : Type 0} (r : Result A Fault) (f : A → Result B Fault) (y : B) → (r >>= f) ≡ Ok y → (x : A) × (r ≡ Ok x) × (f x ≡ Ok y)
bind_ok (Ok x) f y e = (x, refl, e)
bind_ok (Err d) f y e = absurd cc

pub chosen : {A : Type 0} (b : Bool) (x y z : A) → cond b x y ≡ z → ((b ≡ true) × (x ≡ z)) ⊎ ((b ≡ false) × (y ≡ z))
chosen true x y z e = inl (refl, e)
chosen false x y z e = inr (refl, e)

-- a test without which there is a fault
pub passed : {A : Type 0} (b : Bool) (r : Result A Fault) (d : Fault) (y : A) → cond b r (Err d) ≡ Ok y → (b ≡ true) × (r ≡ Ok y)
passed true r d y e = (refl, e)
passed false r d y e = absurd cc

pub guarded : {A : Type 0} (b : Bool) (d : Fault) (r : Result A Fault) (y : A) → cond b (Err d) r ≡ Ok y → (b ≡ false) × (r ≡ Ok y)
guarded true d r y e = absurd cc
guarded false d r y e = (refl, e)

pub unless_ok : {A : Type 0} (o : Option FaultKind) (at : ℕ) (r : Result A Fault) (y : A) → unless o at r ≡ Ok y → (o ≡ None) × (r ≡ Ok y)
unless_ok None at r y e = (refl, e)
unless_ok (Some kind) at r y e = absurd cc

abbrev pub done : {A : Type 0} → A → Result A Fault
done x = Ok x

pub ok_is : {A : Type 0} (x y : A) → done x ≡ done y → x ≡ y
ok_is x y e = cc

-- ---- bytes

pub byte_sound : (bs : List ℕ) (y : ℕ × List ℕ) → byte_at bs ≡ Ok y → bs ≡ y.0 ∷ y.1
byte_sound [] y e = absurd cc
byte_sound (b ∷ bs) y e = cc

pub take_sound : (n : ℕ) (bs : List ℕ) (y : List ℕ × List ℕ) → take_at n bs ≡ Ok y → (bs ≡ y.0 ++ y.1) × (length y.0 ≡ n)
take_sound n bs y e =
    let g = guarded (ltb (length bs) n) _ (Ok (take n bs, drop n bs)) y e in
    let long : n ≤ length bs = ltb-false (length bs) n g.0 in
    let len : length (take n bs) ≡ n = simp length-take (omega arith) in
    subst (λ (y : List ℕ × List ℕ). (bs ≡ y.0 ++ y.1) × (length y.0 ≡ n)) (ok_is (take n bs, drop n bs) y g.1) (sym (take-append-drop n bs), len)

-- ---- numbers

pub record IsNumber (w : Width) (bound : ℕ) (bs : List ℕ) (y : ℕ × List ℕ) : Type 0 where
  pub parts : bs ≡ to_be_bytes w y.0 ++ y.1
  pub below : y.0 < bound
  pub left : AreBytes y.1

below_16 : (t : List ℕ) → length t ≡ 2 → ((i : ℕ) → get_or t i 0 < 256) → from_be_bytes w16 t < 2 ^ 16
below_16 (a ∷ b ∷ []) len h = let p : a < 256 = h 0 in let q : b < 256 = h 1 in omega arith
below_16 [] len h = absurd (omega arith)
below_16 (a ∷ []) len h = absurd (omega arith)
below_16 (a ∷ b ∷ c ∷ t) len h = absurd (omega arith)

below_32 : (t : List ℕ) → length t ≡ 4 → ((i : ℕ) → get_or t i 0 < 256) → from_be_bytes w32 t < 2 ^ 32
below_32 (a ∷ b ∷ c ∷ d ∷ []) len h = let p : a < 256 = h 0 in let q : b < 256 = h 1 in let r : c < 256 = h 2 in let s : d < 256 = h 3 in omega arith
below_32 [] len h = absurd (omega arith)
below_32 (a ∷ []) len h = absurd (omega arith)
below_32 (a ∷ b ∷ []) len h = absurd (omega arith)
below_32 (a ∷ b ∷ c ∷ []) len h = absurd (omega arith)
below_32 (a ∷ b ∷ c ∷ d ∷ e ∷ t) len h = absurd (omega arith)

below_64 : (t : List ℕ) → length t ≡ 8 → ((i : ℕ) → get_or t i 0 < 256) → from_be_bytes w64 t < 2 ^ 64
below_64 (a ∷ b ∷ c ∷ d ∷ e ∷ f ∷ g ∷ k ∷ []) len h =
    let p : a < 256 = h 0 in let q : b < 256 = h 1 in let r : c < 256 = h 2 in let s : d < 256 = h 3 in
    let p2 : e < 256 = h 4 in let q2 : f < 256 = h 5 in let r2 : g < 256 = h 6 in let s2 : k < 256 = h 7 in omega arith
below_64 [] len h = absurd (omega arith)
below_64 (a ∷ []) len h = absurd (omega arith)
below_64 (a ∷ b ∷ []) len h = absurd (omega arith)
below_64 (a ∷ b ∷ c ∷ []) len h = absurd (omega arith)
below_64 (a ∷ b ∷ c ∷ d ∷ []) len h = absurd (omega arith)
below_64 (a ∷ b ∷ c ∷ d ∷ e ∷ []) len h = absurd (omega arith)
below_64 (a ∷ b ∷ c ∷ d ∷ e ∷ f ∷ []) len h = absurd (omega arith)
below_64 (a ∷ b ∷ c ∷ d ∷ e ∷ f ∷ g ∷ []) len h = absurd (omega arith)
below_64 (a ∷ b ∷ c ∷ d ∷ e ∷ f ∷ g ∷ k ∷ m ∷ t) len h = absurd (omega arith)

number_is : (w : Width) (bound : ℕ) → ((t : List ℕ) → length t ≡ byte_len w → ((i : ℕ) → get_or t i 0 < 256) → (from_be_bytes w t < bound) × (to_be_bytes w (from_be_bytes w t) ≡ t))
    → (bs : List ℕ) (y : ℕ × List ℕ) → number_at w bs ≡ Ok y → AreBytes bs → IsNumber w bound bs y
number_is w bound law bs y e bytes =
    let a = bind_ok (take_at (byte_len w) bs) (λ t. Ok (from_be_bytes w t.0, t.1)) y e in
    let t = a.0.0 in
    let s = take_sound (byte_len w) bs a.0 a.1 in
    let l = law t s.1 (bytes_front t a.0.1 (subst AreBytes s.0 bytes)) in
    subst (λ (y : ℕ × List ℕ). IsNumber w bound bs y) (ok_is (from_be_bytes w t, a.0.1) y a.2) (record {
      parts = s.0 ∙ ap (λ (l : List ℕ). l ++ a.0.1) (sym l.1);
      below = l.0;
      left = bytes_left bs t a.0.1 s.0 bytes;
    })

pub number_sound_16 : (bs : List ℕ) (y : ℕ × List ℕ) → number_at w16 bs ≡ Ok y → AreBytes bs → IsNumber w16 (2 ^ 16) bs y
number_sound_16 = number_is w16 (2 ^ 16) (λ t len h. (below_16 t len h, be_bytes_2 t (from_be_bytes w16 t) len h refl))

pub number_sound_32 : (bs : List ℕ) (y : ℕ × List ℕ) → number_at w32 bs ≡ Ok y → AreBytes bs → IsNumber w32 (2 ^ 32) bs y
number_sound_32 = number_is w32 (2 ^ 32) (λ t len h. (below_32 t len h, be_bytes_4 t (from_be_bytes w32 t) len h refl))

pub number_sound_64 : (bs : List ℕ) (y : ℕ × List ℕ) → number_at w64 bs ≡ Ok y → AreBytes bs → IsNumber w64 (2 ^ 64) bs y
number_sound_64 = number_is w64 (2 ^ 64) (λ t len h. (below_64 t len h, be_bytes_8 t (from_be_bytes w64 t) len h refl))

pub size_sound : (end : ℕ) (w : Width) (bound most : ℕ) → ((bs : List ℕ) (y : ℕ × List ℕ) → number_at w bs ≡ Ok y → AreBytes bs → IsNumber w most bs y) → (bs : List ℕ) (y : ℕ × List ℕ) → size_at end w bound bs ≡ Ok y → AreBytes bs → IsNumber w bound bs y
unfolding size_at
size_sound end w bound most sound bs y e bytes =
    let a = bind_ok (number_at w bs) (λ n. cond (ltb n.0 bound) (Ok n) _) y e in
    let p = passed (ltb a.0.0 bound) (Ok a.0) _ y a.2 in
    let n = sound bs a.0 a.1 bytes in
    subst (λ (y : ℕ × List ℕ). IsNumber w bound bs y) (ok_is a.0 y p.1) (record { parts = n.parts; below = ltb-true a.0.0 bound p.0; left = n.left })

-- ---- texts

pub units_ok : (start : ℕ) (r : Result (List ℕ) ℕ) (us : List ℕ) → units_of start r ≡ Ok us → r ≡ Ok us
units_ok start (Ok vs) us e = let same : vs ≡ us = ok_is vs us e in ap (λ (l : List ℕ). Ok l) same
units_ok start (Err at) us e = absurd cc

pub record IsUnits (n : ℕ) (bs : List ℕ) (y : List ℕ × List ℕ) : Type 0 where
  pub parts : bs ≡ utf y.0 ++ y.1
  pub len : length (utf y.0) ≡ n
  pub units : AreUnits y.0
  pub left : AreBytes y.1

units_sound : (end n : ℕ) (bs : List ℕ) (y : List ℕ × List ℕ) → units_at end n bs ≡ Ok y → AreBytes bs → IsUnits n bs y
unfolding units_at
units_sound end n bs y e bytes =
    let a = bind_ok (take_at n bs) (λ t. units_of _ (decoded_units t.0) >>= λ units. Ok (units, t.1)) y e in
    let b = bind_ok (units_of _ (decoded_units a.0.0)) (λ units. Ok (units, a.0.1)) y a.2 in
    let s = take_sound n bs a.0 a.1 in
    let d = decoded_sound a.0.0 b.0 (units_ok _ (decoded_units a.0.0) b.0 b.1) in
    subst (λ (y : List ℕ × List ℕ). IsUnits n bs y) (ok_is (b.0, a.0.1) y b.2) (record {
      parts = s.0 ∙ ap (λ (l : List ℕ). l ++ a.0.1) d.1;
      len = ap (λ (l : List ℕ). length l) (sym d.1) ∙ s.1;
      units = d.0;
      left = bytes_left bs a.0.0 a.0.1 s.0 bytes;
    })

pub record IsText (w : Width) (bound : ℕ) (bs : List ℕ) (y : List ℕ × List ℕ) : Type 0 where
  pub parts : bs ≡ (to_be_bytes w (length (utf y.0)) ++ utf y.0) ++ y.1
  pub below : length (utf y.0) < bound
  pub units : AreUnits y.0
  pub left : AreBytes y.1

text_is : (end : ℕ) (w : Width) (bound : ℕ) (bs : List ℕ) (n : ℕ × List ℕ) (y : List ℕ × List ℕ) → IsNumber w bound bs n → units_at end n.0 n.1 ≡ Ok y → IsText w bound bs y
text_is end w bound bs n y number e =
    let u = units_sound end n.0 n.1 y e number.left in
    let below = number.below in
    let len = u.len in
    record {
      parts = number.parts ∙ (ap (λ (l : List ℕ). to_be_bytes w n.0 ++ l) u.parts ∙ (sym (append_assoc (to_be_bytes w n.0) (utf y.0) y.1) ∙ ap (λ k. (to_be_bytes w k ++ utf y.0) ++ y.1) (sym u.len)));
      below = subst (λ k. k < bound) (sym u.len) below;
      units = u.units;
      left = u.left;
    }

pub short_sound : (end : ℕ) (bs : List ℕ) (y : List ℕ × List ℕ) → short_at end bs ≡ Ok y → AreBytes bs → IsText w16 (2 ^ 16) bs y
unfolding short_at
short_sound end bs y e bytes = let a = bind_ok (number_at w16 bs) (λ n. units_at end n.0 n.1) y e in text_is end w16 (2 ^ 16) bs a.0 y (number_sound_16 bs a.0 a.1 bytes) a.2

pub long_sound : (end : ℕ) (bs : List ℕ) (y : List ℕ × List ℕ) → long_at end bs ≡ Ok y → AreBytes bs → IsText w64 (2 ^ 63) bs y
unfolding long_at
long_sound end bs y e bytes = let a = bind_ok (size_at end w64 (2 ^ 63) bs) (λ n. units_at end n.0 n.1) y e in text_is end w64 (2 ^ 63) bs a.0 y (size_sound end w64 (2 ^ 63) (2 ^ 64) number_sound_64 bs a.0 a.1 bytes) a.2
