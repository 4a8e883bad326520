-- Numbers and texts that are spelled are read.
use Rattle.std.proofs.Common.{◌≡◌, ℕ, zero, suc, ◌<◌, ◌^◌, false, true, ltb, List, [], ◌∷◌, ◌++◌, length, take, drop, All, Ok, refl, ap, ◌∙◌, arith}
use Rattle.std.proofs.lemmas.Bool.{le-ltb, lt-ltb}
use Rattle.std.proofs.lemmas.List.{length-append}
use Rattle.std.proofs.lemmas.Nat.{from_be_bytes-to_be_bytes_2, from_be_bytes-to_be_bytes_4, from_be_bytes-to_be_bytes_8}
use Rattle.std.specs.Int.{Width, w16, w32, w64, to_be_bytes, from_be_bytes}
use Rattle.mod_utf.specs.Utf.{utf}
use Rattle.mod_utf.specs.Decoding.{decoded_units}
use Rattle.mod_utf.proofs.Fronts.{AreUnits}
use Rattle.mod_utf.proofs.Decoded.{decoded_back}
use Rattle.stream_grammar.specs.Reading.{◌>>=◌, Plain, take_at, number_at, size_at, units_at, short_at, long_at}

take_front : (t rest : List ℕ) → take (length t) (t ++ rest) ≡ t
take_front [] rest = refl
take_front (x ∷ t) rest = ap (λ (l : List ℕ). x ∷ l) (take_front t rest)

drop_front : (t rest : List ℕ) → drop (length t) (t ++ rest) ≡ rest
drop_front [] rest = refl
drop_front (x ∷ t) rest = drop_front t rest

abbrev read_of : {A : Type 0} → A → List ℕ → Plain A
read_of x rest = Ok (x, rest)

pub take_back : (t rest : List ℕ) → take_at (length t) (t ++ rest) ≡ read_of t rest
take_back t rest =
    let long : ltb (length (t ++ rest)) (length t) ≡ false = le-ltb _ _ (simp length-append (omega arith)) in
    rw long (rw (take_front t rest, drop_front t rest) refl)

pub number_back_16 : (n : ℕ) (bs rest : List ℕ) → n < 2 ^ 16 → bs ≡ to_be_bytes w16 n ++ rest → number_at w16 bs ≡ read_of n rest
number_back_16 n bs rest fits e =
    let t : take_at 2 (to_be_bytes w16 n ++ rest) ≡ read_of (to_be_bytes w16 n) rest = take_back (to_be_bytes w16 n) rest in
    ap (number_at w16) e ∙ (ap (λ (r : Plain (List ℕ)). r >>= λ t. read_of (from_be_bytes w16 t.0) t.1) t ∙ ap (λ k. read_of k rest) (from_be_bytes-to_be_bytes_2 n fits))

pub number_back_32 : (n : ℕ) (bs rest : List ℕ) → n < 2 ^ 32 → bs ≡ to_be_bytes w32 n ++ rest → number_at w32 bs ≡ read_of n rest
number_back_32 n bs rest fits e =
    let t : take_at 4 (to_be_bytes w32 n ++ rest) ≡ read_of (to_be_bytes w32 n) rest = take_back (to_be_bytes w32 n) rest in
    ap (number_at w32) e ∙ (ap (λ (r : Plain (List ℕ)). r >>= λ t. read_of (from_be_bytes w32 t.0) t.1) t ∙ ap (λ k. read_of k rest) (from_be_bytes-to_be_bytes_4 n fits))

pub number_back_64 : (n : ℕ) (bs rest : List ℕ) → n < 2 ^ 64 → bs ≡ to_be_bytes w64 n ++ rest → number_at w64 bs ≡ read_of n rest
number_back_64 n bs rest fits e =
    let t : take_at 8 (to_be_bytes w64 n ++ rest) ≡ read_of (to_be_bytes w64 n) rest = take_back (to_be_bytes w64 n) rest in
    ap (number_at w64) e ∙ (ap (λ (r : Plain (List ℕ)). r >>= λ t. read_of (from_be_bytes w64 t.0) t.1) t ∙ ap (λ k. read_of k rest) (from_be_bytes-to_be_bytes_8 n fits))

pub size_back : (end : ℕ) (w : Width) (bound n : ℕ) (bs rest : List ℕ) → number_at w bs ≡ read_of n rest → n < bound → size_at end w bound bs ≡ read_of n rest
unfolding size_at
size_back end w bound n bs rest h lt = let few : ltb n bound ≡ true = lt-ltb n bound lt in rw h (rw few refl)

pub units_are : (t : List ℕ) → All (λ u. u < 2 ^ 16) t → AreUnits t
units_are [] h = tt
units_are (u ∷ t) h = (h zero u (omega arith), units_are t (λ k d lt. h (suc k) d (omega arith)))

pub units_back : (end : ℕ) (t bs rest : List ℕ) → AreUnits t → bs ≡ utf t ++ rest → units_at end (length (utf t)) bs ≡ read_of t rest
unfolding units_at
units_back end t bs rest units e =
    let read : take_at (length (utf t)) bs ≡ read_of (utf t) rest = ap (take_at (length (utf t))) e ∙ take_back (utf t) rest in
    let text : decoded_units (utf t) ≡ Ok t = decoded_back (utf t) t (units, refl) in
    rw read (rw text refl)

pub short_back : (end : ℕ) (t bs rest : List ℕ) → length (utf t) < 2 ^ 16 → AreUnits t → bs ≡ (to_be_bytes w16 (length (utf t)) ++ utf t) ++ rest → short_at end bs ≡ read_of t rest
unfolding short_at
short_back end t bs rest fits units e =
    let count : number_at w16 bs ≡ read_of (length (utf t)) (utf t ++ rest) = number_back_16 (length (utf t)) bs (utf t ++ rest) fits e in
    rw count (units_back end t (utf t ++ rest) rest units refl)

pub long_back : (end : ℕ) (t bs rest : List ℕ) → length (utf t) < 2 ^ 63 → AreUnits t → bs ≡ (to_be_bytes w64 (length (utf t)) ++ utf t) ++ rest → long_at end bs ≡ read_of t rest
unfolding long_at
long_back end t bs rest fits units e =
    let count : number_at w64 bs ≡ read_of (length (utf t)) (utf t ++ rest) = number_back_64 (length (utf t)) bs (utf t ++ rest) (omega arith) e in
    let size = size_back end w64 (2 ^ 63) (length (utf t)) bs (utf t ++ rest) count fits in
    rw size (units_back end t (utf t ++ rest) rest units refl)
