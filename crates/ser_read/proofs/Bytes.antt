-- Bytes, and those that are left.
use Rattle.std.proofs.Common.{◌≡◌, ◌-◌, ◌++◌, inl, inr, sym, ◌∙◌, append_assoc, length-append, ℕ, [], ◌∷◌, ◌+◌, ◌<◌, ◌≤◌, ap, List, length, take, drop, true, false, nat_lt, Result, Ok, Err, refl, arith}
use Rattle.std.proofs.lemmas.Bool.{lt-ltb, le-ltb, cases_lt}
use Rattle.std.proofs.lemmas.List.{length-take, take-append-drop, append-nil}
use Rattle.std.proofs.lemmas.List as lists
use Rattle.std.proofs.Math.Seq.{take-append-add, drop-append-add, drop-append_seam}
use Rattle.ser_read.specs.declared.fault.StreamFault.TheVariants as faults
use Rattle.ser_read.specs.declared.fault.Large.TheVariants as larges
use Rattle.ser_read.specs.declared.fault.StreamFault.{StreamFault}
use Rattle.ser_read.specs.Here.{Fails}
use Rattle.std.specs.Int.{w16, from_be_bytes}
use Rattle.stream_grammar.specs.Reading.{◌>>=◌, Fault, byte_at, take_at, number_at, short}

pub takes_all : (n : ℕ) (bs : List ℕ) → n ≤ length bs → take_at n bs ≡ Ok (take n bs, drop n bs)
takes_all n bs le = let k : nat_lt (length bs) n ≡ false = le-ltb _ _ le in rw k refl

pub takes_short : (n : ℕ) (bs : List ℕ) → length bs < n → take_at n bs ≡ Err short
takes_short n bs lt = let k : nat_lt (length bs) n ≡ true = lt-ltb _ _ lt in rw k refl

-- ---- bytes, piece by piece

-- what was read before, and what is still read
abbrev pub onto : {A S : Type 0} → List A → Result (List A × S) Fault → Result (List A × S) Fault
onto front read = read >>= λ t. Ok (front ++ t.0, t.1)

-- What gives a value doesn't fail, unless the outside does.
pub none : {A B : Type 0} (after e : StreamFault) (given : Result A Fault) (x : A) (r : Result B Fault) → given ≡ Ok x → Fails after e given → Fails after e r
none after faults.OutOfMemory given x r is h = tt
none after faults.ReadFault given x r is h = tt
none after (faults.Bad kind at) given x r is h = absurd (let e = h.0 in cc)
none after (faults.TooLarge larges.Bytes at) given x r is h = absurd (let e = h.0 in cc)
none after (faults.TooLarge larges.Nodes at) given x r is h = absurd cc
none after (faults.TooLarge larges.Depth at) given x r is h = absurd cc
none after (faults.Truncated at) given x r is h = absurd (let e = h.0 in cc)

take_front : (piece rest : List ℕ) → take (length piece) (piece ++ rest) ≡ piece
take_front piece rest = lists.take_at piece rest (length piece) refl

pub ok_is : {A : Type 0} (x y : A) (r : Result A Fault) → r ≡ Ok x → r ≡ Ok y → x ≡ y
ok_is x y r a b = cc

pub taken_is : (n : ℕ) (bs piece rest : List ℕ) → take_at n bs ≡ Ok (piece, rest) → (bs ≡ piece ++ rest) × (length piece ≡ n)
taken_is n bs piece rest h = elim (cases_lt (length bs) n) [
  | inl lt ↦ absurd (let e = takes_short n bs lt in cc)
  | inr le ↦ (let e : (take n bs, drop n bs) ≡ (piece, rest) = ok_is _ _ (take_at n bs) (takes_all n bs le) h in
      let a : take n bs ≡ piece = ap (λ (x : List ℕ × List ℕ). x.0) e in
      let b : drop n bs ≡ rest = ap (λ (x : List ℕ × List ℕ). x.1) e in
      (sym (take-append-drop n bs) ∙ ap (λ xs. xs ++ drop n bs) a ∙ ap (λ xs. piece ++ xs) b, omega (arith, ap (λ (xs : List ℕ). length xs) a, length-take n bs)))
]

pub take_back : (piece rest : List ℕ) → take_at (length piece) (piece ++ rest) ≡ Ok (piece, rest)
take_back piece rest = takes_all (length piece) (piece ++ rest) (omega (arith, length-append piece rest)) ∙ rw (take_front piece rest, drop-append_seam piece rest) refl

split : (piece rest front : List ℕ) (n : ℕ) → onto front (take_at (length piece + n) (piece ++ rest)) ≡ onto (front ++ piece) (take_at n rest)
split piece rest front n = elim (cases_lt (length rest) n) [
  | inl lt ↦ rw (takes_short n rest lt, takes_short (length piece + n) (piece ++ rest) (omega (arith, length-append piece rest))) refl
  | inr le ↦ rw (takes_all n rest le, takes_all (length piece + n) (piece ++ rest) (omega (arith, length-append piece rest))) (rw (take-append-add piece rest n, drop-append-add piece rest n, append_assoc front piece (take n rest)) refl)
]

pub take_more : (front : List ℕ) (left more : ℕ) (bs piece rest : List ℕ) → more ≤ left → take_at more bs ≡ Ok (piece, rest) → onto front (take_at left bs) ≡ onto (front ++ piece) (take_at (left - more) rest)
take_more front left more bs piece rest le h =
    let s = taken_is more bs piece rest h in
    let e : left ≡ length piece + (left - more) = omega (arith, s.1) in
    ap (λ bs. onto front (take_at left bs)) s.0 ∙ ap (λ n. onto front (take_at n (piece ++ rest))) e ∙ split piece rest front (left - more)

pub take_end : (front bs : List ℕ) → onto front (take_at 0 bs) ≡ Ok (front, bs)
take_end front bs = rw (takes_all 0 bs (omega arith)) (ap (λ (xs : List ℕ). Ok (xs, bs)) (append-nil front))

-- ---- two bytes

pub two_is : (bs : List ℕ) → number_at w16 bs ≡ (byte_at bs >>= λ a. byte_at a.1 >>= λ b. Ok (from_be_bytes w16 (a.0 ∷ b.0 ∷ []), b.1))
two_is [] = refl
two_is (a ∷ []) = refl
two_is (a ∷ b ∷ rest) =
    let both : take_at 2 (a ∷ b ∷ rest) ≡ Ok (a ∷ b ∷ [], rest) = takes_all 2 (a ∷ b ∷ rest) (omega arith) in
    rw both refl
