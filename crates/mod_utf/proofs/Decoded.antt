-- What decoding answers: the text that is spelled, or the place from where on none is.
use Rattle.std.proofs.Common.{◌≡◌, ◌≢◌, ℕ, zero, suc, ◌+◌, ◌≤◌, ◌<◌, List, [], ◌∷◌, ◌++◌, length, drop, Option, Some, None, Result, Ok, Err, refl, sym, ap, subst, ◌∙◌, arith, append_assoc}
use Rattle.std.proofs.lemmas.List.{append-nil, length-append}
use Rattle.std.proofs.Common.{inl, inr, length-drop}
use Rattle.std.proofs.lemmas.List.{nil_from_length}
use Rattle.mod_utf.specs.Utf.{unit_bytes, utf, SpellsUnit, Utf}
use Rattle.mod_utf.proofs.Spelling.{unit_spelled_once, unit_spelled, spelled_once}
use Rattle.mod_utf.specs.Decoding.{front, then_unit, put_unit, decoded_at, decoded_units, IsBadAt, IsUnread, NoUnit, GivesMore}
use Rattle.mod_utf.specs.declared.decode.UtfFault.{UtfFault}
use Rattle.mod_utf.specs.declared.decode.UtfFault.TheVariants.{BadUtf, OutOfMemory}
use Rattle.mod_utf.proofs.Fronts.{AreUnits, NoFront, AreOf, IsBad, front_sound, front_back, front_none, unit_some, not_both, one_place, one_units}

-- what decoding from an offset on answers
abbrev pub Told : ℕ → List ℕ → Result (List ℕ) ℕ → Type 0
Told at bs (Ok us) = AreUnits us × (bs ≡ utf us)
Told at bs (Err off) = (us : List ℕ) × (rest : List ℕ) × (bs ≡ utf us ++ rest) × AreUnits us × (rest ≢ []) × NoFront rest × (off ≡ at + length (utf us))

abbrev some : ℕ × ℕ → Option (ℕ × ℕ)
some x = Some x

some_is : (x y : ℕ × ℕ) → some x ≡ some y → x ≡ y
some_is x y e = cc

front_len : (bs : List ℕ) (u n : ℕ) → front bs ≡ Some (u, n) → n ≡ length (unit_bytes u)
front_len bs u n is =
    let s = front_sound bs (u, n) is in
    let e : some (u, n) ≡ some (u, length (unit_bytes u)) = sym is ∙ ap front s.1 ∙ front_back u (drop n bs) s.0 in
    ap (λ (x : ℕ × ℕ). x.1) (some_is (u, n) (u, length (unit_bytes u)) e)

told : (f at : ℕ) (bs : List ℕ) → length bs ≤ f → Told at bs (decoded_at f at bs)
unfolding decoded_at
told f at [] le = (tt, refl)
told zero at (b ∷ bs) le = absurd (omega arith)
told (suc f) at (b ∷ bs) le = go (front (b ∷ bs)) refl (λ at bs le. told f at bs le)
  where
    more : (u n : ℕ) → (u < 65536) × (b ∷ bs ≡ unit_bytes u ++ drop n (b ∷ bs)) → n ≡ length (unit_bytes u) → (r : Result (List ℕ) ℕ) → Told (at + n) (drop n (b ∷ bs)) r → Told at (b ∷ bs) (put_unit u r)
    more u n s len (Ok us) h = ((s.0, h.0), s.1 ∙ ap (λ bs. unit_bytes u ++ bs) h.1)
    more u n s len (Err off) h = (
      u ∷ h.0,
      h.1,
      s.1 ∙ ap (λ bs. unit_bytes u ++ bs) h.2 ∙ sym (append_assoc (unit_bytes u) (utf h.0) h.1),
      (s.0, h.3),
      h.4,
      h.5,
      omega (arith, h.6, len, length-append (unit_bytes u) (utf h.0)),
    )

    go : (r : Option (ℕ × ℕ)) → front (b ∷ bs) ≡ r → ((at : ℕ) (bs : List ℕ) → length bs ≤ f → Told at bs (decoded_at f at bs)) → Told at (b ∷ bs) (then_unit (decoded_at f) at (b ∷ bs) r)
    go None is rec = ([], b ∷ bs, refl, tt, (λ e. cc), front_none (b ∷ bs) is, omega arith)
    go (Some (u, n)) is rec =
        let s = front_sound (b ∷ bs) (u, n) is in
        let len : n ≡ length (unit_bytes u) = front_len (b ∷ bs) u n is in
        let less : length (drop n (b ∷ bs)) ≤ f = omega (arith, le, ap length s.1, length-append (unit_bytes u) (drop n (b ∷ bs)), unit_some u) in
        more u n s len (decoded_at f (at + n) (drop n (b ∷ bs))) (rec (at + n) (drop n (b ∷ bs)) less)

pub decoded_told : (bs : List ℕ) → Told 0 bs (decoded_units bs)
decoded_told bs = told (length bs) 0 bs (omega arith)

abbrev worse : ℕ → Result (List ℕ) ℕ
worse at = Err at

abbrev good : List ℕ → Result (List ℕ) ℕ
good us = Ok us

pub decoded_sound : (bs us : List ℕ) → decoded_units bs ≡ Ok us → AreOf us bs
decoded_sound bs us e = subst (Told 0 bs) e (decoded_told bs)

pub decoded_bad : (bs : List ℕ) (at : ℕ) → decoded_units bs ≡ Err at → IsBad bs at
decoded_bad bs at e = let h = subst (Told 0 bs) e (decoded_told bs) in (h.0, h.1, h.2, h.3, h.4, h.5, omega (arith, h.6))

pub decoded_back : (bs us : List ℕ) → AreOf us bs → decoded_units bs ≡ Ok us
decoded_back bs us h = go (decoded_units bs) refl
  where
    go : (r : Result (List ℕ) ℕ) → decoded_units bs ≡ r → decoded_units bs ≡ Ok us
    go (Ok vs) e = let v = decoded_sound bs vs e in e ∙ ap good (one_units bs vs us v h)
    go (Err at) e = absurd (not_both us bs at h (decoded_bad bs at e))

pub bad_back : (bs : List ℕ) (at : ℕ) → IsBad bs at → decoded_units bs ≡ Err at
bad_back bs at h = go (decoded_units bs) refl
  where
    go : (r : Result (List ℕ) ℕ) → decoded_units bs ≡ r → decoded_units bs ≡ Err at
    go (Ok vs) e = absurd (not_both vs bs at (decoded_sound bs vs e) h)
    go (Err at2) e = e ∙ ap worse (one_place bs at2 at (decoded_bad bs at2 e) h)

-- ---- the relations of texts

in_range : (u : ℕ) (first : List ℕ) → SpellsUnit u first → u < 65536
in_range u first (inl one) = omega (arith, one.below)
in_range u first (inr (inl two)) = omega (arith, two.is, two.high_bits, two.low_bits)
in_range u first (inr (inr three)) = omega (arith, three.is, three.high_bits, three.middle_bits, three.low_bits)

units_in : (us bs : List ℕ) → Utf us bs → AreUnits us
units_in [] bs h = tt
units_in (u ∷ us) bs (first, rest, one, more, is) = (in_range u first one, units_in us rest more)

pub are_of : (us bs : List ℕ) → Utf us bs → AreOf us bs
are_of us bs h = (units_in us bs h, spelled_once us bs h)

utf_spelled : (us : List ℕ) → AreUnits us → Utf us (utf us)
utf_spelled [] h = refl
utf_spelled (u ∷ us) h = (unit_bytes u, utf us, unit_spelled u (omega (arith, h.0)), utf_spelled us h.1, refl)

pub is_text : (us bs : List ℕ) → AreOf us bs → Utf us bs
is_text us bs h = rw (h.1) (utf_spelled us h.0)

no_unit : (bs : List ℕ) → NoFront bs → NoUnit bs
no_unit bs none u first rest spells is = none u rest (in_range u first spells) (is ∙ ap (λ xs. xs ++ rest) (unit_spelled_once u first spells))

pub is_bad : (bs : List ℕ) (at : ℕ) → IsBad bs at → IsBadAt bs at
is_bad bs at (us, rest, is, units, some, none, here) = record {
  units = us;
  front = utf us;
  rest = rest;
  spelled = utf_spelled us units;
  parts = is;
  here = here;
  some = some;
  none = no_unit rest none;
  no_text = λ others h. not_both others bs at (are_of others bs h) (us, rest, is, units, some, none, here);
}

bad_of : (bs : List ℕ) (at : ℕ) → IsBadAt bs at → IsBad bs at
bad_of bs at h = (
  h.units,
  h.rest,
  h.parts ∙ ap (λ xs. xs ++ h.rest) (spelled_once h.units h.front h.spelled),
  units_in h.units h.front h.spelled,
  h.some,
  (λ u rest low is. h.none u (unit_bytes u) rest (unit_spelled u (omega (arith, low))) is),
  h.here ∙ ap length (spelled_once h.units h.front h.spelled),
)

-- ---- the end of a loop

pub all_read : (bs text : List ℕ) (i : ℕ) → length bs ≤ i → bs ≡ utf text ++ drop i bs → AreUnits text → Utf text bs
all_read bs text i past is units =
    let none : drop i bs ≡ [] = nil_from_length (drop i bs) (omega (arith, past, length-drop i bs)) in
    is_text text bs (units, is ∙ ap (λ xs. utf text ++ xs) none ∙ append-nil (utf text))

-- The others are this text.
pub only_text : (bs text : List ℕ) → Utf text bs → (others : List ℕ) → Utf others bs → others ≡ text
only_text bs text h others o = one_units bs others text (are_of others bs o) (are_of text bs h)

-- ---- as a function

pub gives_text : (bs text : List ℕ) → Utf text bs → decoded_units bs ≡ Ok text
gives_text bs text h = decoded_back bs text (are_of text bs h)

pub gives_bad : (bs : List ℕ) (at : ℕ) → IsBadAt bs at → decoded_units bs ≡ Err at
gives_bad bs at h = go (decoded_units bs) refl
  where
    go : (r : Result (List ℕ) ℕ) → decoded_units bs ≡ r → decoded_units bs ≡ Err at
    go (Ok vs) e = absurd (h.no_text vs (is_text vs bs (decoded_sound bs vs e)))
    go (Err at2) e = e ∙ ap worse (one_place bs at2 at (decoded_bad bs at2 e) (bad_of bs at h))

pub gives_unread : (bs old new : List ℕ) (fault : UtfFault) → IsUnread bs fault → GivesMore old new (Err fault) (decoded_units bs)
gives_unread bs old new (BadUtf at) h = gives_bad bs at h
gives_unread bs old new OutOfMemory h = tt
