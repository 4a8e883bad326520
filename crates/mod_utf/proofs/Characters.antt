-- The units of a text, character by character.
use Rattle.std.proofs.Common.{◌≡◌, ◌∙◌, ◌++◌, ◌∷◌, [], ℕ, List, length, IsUtf8, chars, encode_utf8, refl, ap, sym}
use Rattle.std.specs.List.{flat_map}
use Rattle.std.specs.Char.Escape.{encode_utf16}
use Rattle.std.proofs.lemmas.Str.{chars-nil, chars_past_char}
use Rattle.std.proofs.lemmas.List.{append_assoc, append-nil}

-- One more character is appended.
pub one_more : (units units2 all rest left : List ℕ) (c : ℕ) → IsUtf8 rest → rest ≡ encode_utf8 c ++ left → units2 ≡ units ++ encode_utf16 c
    → units ++ flat_map encode_utf16 (chars rest) ≡ all → units2 ++ flat_map encode_utf16 (chars left) ≡ all
one_more units units2 all rest left c utf8 parts pushed held =
    ap (λ us. us ++ flat_map encode_utf16 (chars left)) pushed
    ∙ append_assoc units (encode_utf16 c) (flat_map encode_utf16 (chars left))
    ∙ ap (λ cs. units ++ flat_map encode_utf16 cs) (sym (chars_past_char rest left c utf8 parts))
    ∙ held

empty : (rest : List ℕ) → length rest ≡ 0 → rest ≡ []
empty [] e = refl
empty (x ∷ xs) e = cc

-- None is left.
pub no_more : (units all rest : List ℕ) → length rest ≡ 0 → units ++ flat_map encode_utf16 (chars rest) ≡ all → units ≡ all
no_more units all rest none held =
    let done : flat_map encode_utf16 (chars rest) ≡ [] = ap (λ r. flat_map encode_utf16 (chars r)) (empty rest none) ∙ ap (λ cs. flat_map encode_utf16 cs) chars-nil in
    sym (append-nil units) ∙ ap (λ us. units ++ us) (sym done) ∙ held
