-- What comes where block data or a reference is wanted, by cases that other crates may name.
use Rattle.std.proofs.Common.{◌≡◌, ◌≢◌, ◌⊎◌, ◌<◌, ◌≤◌, ◌+◌, ◌-◌, ◌^◌, ℕ, zero, suc, Bool, true, false, cond, eqb, List, [], ◌∷◌, ◌++◌, length, Result, Ok, Err, refl, sym, ap, subst, ◌∙◌, append_assoc, arith, inl, inr}
use Rattle.std.proofs.lemmas.Bool.{cases_Bool, eqb-true, eqb-false, ne_eqb}
use Rattle.std.proofs.lemmas.List.{length-append}
use Rattle.std.specs.Int.{w32, to_be_bytes}
use Rattle.class_desc.specs.declared.slot.Slot.{Slot}
use Rattle.stream_grammar.specs.Reading.{Fault, short, ◌>>=◌, Plain, Progress, byte_at, size_at}
use Rattle.stream_grammar.proofs.PlainSound as plain
use Rattle.stream_grammar.proofs.PlainSound.{bind_ok, chosen, ok_is, byte_sound, size_sound, number_sound_32}
use Rattle.stream_grammar.proofs.Plains.{size_back, number_back_32}
use Rattle.ser_read.specs.Heads.{one_head, any_head, head_within}
use Rattle.ser_read.specs.Wants.{WantFault, block_left, ◌▸◌, lift_fault, no_block, only_block, counted_at, only_slot}
use Rattle.ser_read.specs.Heading.{IsBlockHeader}
use Rattle.ser_read.specs.WantLaws.{AreEmptyBlocks}
use Rattle.ser_read.proofs.Empties.{Header, Empties}
use Rattle.stream_laws.proofs.Reading.{ok_first}
use Rattle.stream_laws.proofs.Failing.{err_is, bind_err, err_first, byte_firm, firmly}

-- a block of so many bytes, or a code at a position
pub data Ahead : Type 0 where
  of_block : ℕ → Ahead
  of_code : ℕ → ℕ → Ahead

unfoldable pub any_ahead : ℕ → List ℕ → Plain Ahead
any_ahead end bs = byte_at bs >>= λ c.
    cond (eqb c.0 0x77) (byte_at c.1 >>= λ n. Ok (of_block n.0, n.1))
    (cond (eqb c.0 0x7A) (size_at end w32 (2 ^ 31) c.1 >>= λ n. Ok (of_block n.0, n.1)) (Ok (of_code c.0 (end - length bs), c.1)))

abbrev pub is_none : Ahead → Bool
is_none (of_block zero) = true
is_none (of_block (suc n)) = false
is_none (of_code c at) = false

unfoldable pub within_ahead : ℕ → ℕ → List ℕ → Plain Ahead
within_ahead end zero bs = Err short
within_ahead end (suc most) bs = any_ahead end bs >>= λ h. cond (is_none h.0) (within_ahead end most h.1) (Ok h)

abbrev pub ahead_at : ℕ → List ℕ → Plain Ahead
ahead_at end bs = within_ahead end (suc (length bs)) bs

abbrev pub as_block : Ahead × List ℕ → Result (ℕ × List ℕ) WantFault
as_block (of_block n, bs) = Ok (n, bs)
as_block (of_code code at, bs) = Err (no_block code at)

abbrev pub as_slot : ℕ → Progress → Ahead × List ℕ → Result (Slot × Progress × List ℕ) WantFault
as_slot end now (of_block n, bs) = Err (block_left (end - length bs))
as_slot end now (of_code code at, bs) = lift_fault (counted_at end at code now bs)

number_cases : (n : ℕ) → (n ≡ 0) ⊎ ((k : ℕ) × (n ≡ suc k))
number_cases zero = inl refl
number_cases (suc n) = inr (n, refl)

plain_cases : (r : Plain ℕ) → ((f : Fault) × (r ≡ Err f)) ⊎ ((n : ℕ) × (b : List ℕ) × (r ≡ Ok (n, b)))
plain_cases (Err f) = inl (f, refl)
plain_cases (Ok (n, b)) = inr (n, b, refl)

-- ---- they are the reader's own

pub same_block : (end most : ℕ) (bs : List ℕ) → (lift_fault (head_within end most bs) ▸ only_block) ≡ (lift_fault (within_ahead end most bs) ▸ as_block)
unfolding head_within any_head one_head within_ahead any_ahead
same_block end zero bs = refl
same_block end (suc most) [] = refl
same_block end (suc most) (c ∷ bs) = elim (cases_Bool (eqb c 0x77)) [
  | inl p ↦ rw p (elim (plain_cases (byte_at bs)) [
    | inl e ↦ rw e.1 refl
    | inr x ↦ rw x.2 (elim (number_cases x.0) [
      | inl z ↦ rw z (same_block end most x.1)
      | inr k ↦ rw k.1 refl
    ])
  ])
  | inr p ↦ rw p (elim (cases_Bool (eqb c 0x7A)) [
    | inr q ↦ rw q refl
    | inl q ↦ rw q (elim (plain_cases (size_at end w32 (2 ^ 31) bs)) [
      | inl e ↦ rw e.1 refl
      | inr x ↦ rw x.2 (elim (number_cases x.0) [
        | inl z ↦ rw z (same_block end most x.1)
        | inr k ↦ rw k.1 refl
      ])
    ])
  ])
]

pub same_slot : (end most : ℕ) (now : Progress) (bs : List ℕ) → (lift_fault (head_within end most bs) ▸ only_slot end now) ≡ (lift_fault (within_ahead end most bs) ▸ as_slot end now)
unfolding head_within any_head one_head within_ahead any_ahead
same_slot end zero now bs = refl
same_slot end (suc most) now [] = refl
same_slot end (suc most) now (c ∷ bs) = elim (cases_Bool (eqb c 0x77)) [
  | inl p ↦ rw p (elim (plain_cases (byte_at bs)) [
    | inl e ↦ rw e.1 refl
    | inr x ↦ rw x.2 (elim (number_cases x.0) [
      | inl z ↦ rw z (same_slot end most now x.1)
      | inr k ↦ rw k.1 refl
    ])
  ])
  | inr p ↦ rw p (elim (cases_Bool (eqb c 0x7A)) [
    | inr q ↦ rw q refl
    | inl q ↦ rw q (elim (plain_cases (size_at end w32 (2 ^ 31) bs)) [
      | inl e ↦ rw e.1 refl
      | inr x ↦ rw x.2 (elim (number_cases x.0) [
        | inl z ↦ rw z (same_slot end most now x.1)
        | inr k ↦ rw k.1 refl
      ])
    ])
  ])
]

-- ---- what was found

abbrev pub IsAhead : ℕ → List ℕ → Ahead × List ℕ → Type 0
IsAhead end bs (of_block k, rest) = Header k bs rest
IsAhead end bs (of_code code at, rest) = (bs ≡ code ∷ rest) × (code ≢ 0x77) × (code ≢ 0x7A) × (at ≡ end - length bs)

pub record Sounds (end : ℕ) (bs : List ℕ) (y : Ahead × List ℕ) : Type 0 where
  pub is : IsAhead end bs y
  pub left : plain.AreBytes y.1

any_sound : (end : ℕ) (bs : List ℕ) (y : Ahead × List ℕ) → any_ahead end bs ≡ Ok y → plain.AreBytes bs → Sounds end bs y
unfolding any_ahead
any_sound end [] y e bytes = absurd cc
any_sound end (c ∷ bs) y e bytes = elim (chosen (eqb c 0x77) _ _ _ e) [
  | inl p ↦ (
      let a = bind_ok (byte_at bs) _ y p.1 in
      let n = byte_sound bs a.0 a.1 in
      let left = subst plain.AreBytes n bytes.1 in
      subst (λ (y : Ahead × List ℕ). Sounds end (c ∷ bs) y) (ok_is (of_block a.0.0, a.0.1) y a.2)
      (record { is = inl (left.0, ap (λ k. k ∷ bs) (eqb-true c 0x77 p.0) ∙ ap (λ (l : List ℕ). 0x77 ∷ l) n); left = left.1 }))
  | inr p ↦ elim (chosen (eqb c 0x7A) _ _ _ p.1) [
    | inl q ↦ (
        let a = bind_ok (size_at end w32 (2 ^ 31) bs) _ y q.1 in
        let n = size_sound end w32 (2 ^ 31) (2 ^ 32) number_sound_32 bs a.0 a.1 bytes.1 in
        subst (λ (y : Ahead × List ℕ). Sounds end (c ∷ bs) y) (ok_is (of_block a.0.0, a.0.1) y a.2)
        (record { is = inr (n.below, ap (λ k. k ∷ bs) (eqb-true c 0x7A q.0) ∙ ap (λ (l : List ℕ). 0x7A ∷ l) n.parts); left = n.left }))
    | inr q ↦
        subst (λ (y : Ahead × List ℕ). Sounds end (c ∷ bs) y) (ok_is (of_code c (end - length (c ∷ bs)), bs) y q.1)
        (record { is = (refl, eqb-false c 0x77 p.0, eqb-false c 0x7A q.0, refl); left = bytes.1 })
  ]
]

-- empty blocks, and what stands behind them
pub record Found (end : ℕ) (bs : List ℕ) (y : Ahead × List ℕ) : Type 0 where
  pub count : ℕ
  pub mid : List ℕ
  pub empties : Empties count bs mid
  pub is : IsAhead end mid y
  pub some : is_none y.0 ≡ false
  pub left : plain.AreBytes y.1

empty_header : (end : ℕ) (bs : List ℕ) (h : Ahead) (rest : List ℕ) → is_none h ≡ true → IsAhead end bs (h, rest) → Header 0 bs rest
empty_header end bs (of_block zero) rest none is = is
empty_header end bs (of_block (suc k)) rest none is = absurd cc
empty_header end bs (of_code code at) rest none is = absurd cc

pub found : (end most : ℕ) (bs : List ℕ) (y : Ahead × List ℕ) → within_ahead end most bs ≡ Ok y → plain.AreBytes bs → Found end bs y
unfolding within_ahead
found end zero bs y e bytes = absurd cc
found end (suc most) bs y e bytes =
    let a = bind_ok (any_ahead end bs) _ y e in
    let s = any_sound end bs a.0 a.1 bytes in
    elim (chosen (is_none a.0.0) _ _ _ a.2) [
      | inl p ↦ (let f = found end most a.0.1 y p.1 s.left in record { count = suc f.count; mid = f.mid; empties = (a.0.1, empty_header end bs a.0.0 a.0.1 p.0 s.is, f.empties); is = f.is; some = f.some; left = f.left })
      | inr p ↦ subst (λ (y : Ahead × List ℕ). Found end bs y) (ok_is a.0 y p.1) (record { count = 0; mid = bs; empties = refl; is = s.is; some = p.0; left = s.left })
    ]

-- behind empty blocks the length of a block is negative
pub record LongHere (end : ℕ) (f : Fault) (bs : List ℕ) : Type 0 where
  pub count : ℕ
  pub mid : List ℕ
  pub empties : Empties count bs mid
  pub rest : List ℕ
  pub begins : mid ≡ 0x7A ∷ rest
  pub fails : size_at end w32 (2 ^ 31) rest ≡ Err f

any_fault : (end : ℕ) (bs : List ℕ) (f : Fault) → f ≢ short → any_ahead end bs ≡ Err f → (rest : List ℕ) × (bs ≡ 0x7A ∷ rest) × (size_at end w32 (2 ^ 31) rest ≡ Err f)
unfolding any_ahead
any_fault end [] f firm e = absurd (firm (sym (err_is short f e)))
any_fault end (c ∷ bs) f firm e = elim (chosen (eqb c 0x77) _ _ _ e) [
  | inl p ↦ absurd (let b = firmly end f firm (byte_at bs) _ (byte_firm end f firm bs) p.1 in let q = b.2 in cc)
  | inr p ↦ elim (chosen (eqb c 0x7A) _ _ _ p.1) [
    | inr q ↦ absurd (let r = q.1 in cc)
    | inl q ↦ elim (bind_err (size_at end w32 (2 ^ 31) bs) _ f q.1) [
      | inl h ↦ (bs, ap (λ k. k ∷ bs) (eqb-true c 0x7A q.0), h)
      | inr n ↦ absurd (let r = n.2 in cc)
    ]
  ]
]

pub ahead_fault : (end most : ℕ) (bs : List ℕ) (f : Fault) → f ≢ short → within_ahead end most bs ≡ Err f → plain.AreBytes bs → LongHere end f bs
unfolding within_ahead
ahead_fault end zero bs f firm e bytes = absurd (firm (sym (err_is short f e)))
ahead_fault end (suc most) bs f firm e bytes = elim (bind_err (any_ahead end bs) _ f e) [
  | inl h ↦ (let a = any_fault end bs f firm h in record { count = 0; mid = bs; empties = refl; rest = a.0; begins = a.1; fails = a.2 })
  | inr h ↦ (
      let s = any_sound end bs h.0 h.1 bytes in
      elim (chosen (is_none h.0.0) _ _ _ h.2) [
        | inr p ↦ absurd (let q = p.1 in cc)
        | inl p ↦ (let g = ahead_fault end most h.0.1 f firm p.1 s.left in
            record { count = suc g.count; mid = g.mid; empties = (h.0.1, empty_header end bs h.0.0 h.0.1 p.0 s.is, g.empties); rest = g.rest; begins = g.begins; fails = g.fails })
      ])
]

-- ---- what is there, is found

block_back : (end k : ℕ) (bs rest : List ℕ) → Header k bs rest → any_ahead end bs ≡ Ok (of_block k, rest)
unfolding any_ahead
block_back end k bs rest (inl h) = rw h.1 refl
block_back end k bs rest (inr h) = let few = h.0 in rw h.1 (rw (size_back end w32 (2 ^ 31) k (to_be_bytes w32 k ++ rest) rest (number_back_32 k (to_be_bytes w32 k ++ rest) rest (omega arith) refl) h.0) refl)

header_of : (n : ℕ) (header rest : List ℕ) → IsBlockHeader n header → Header n (header ++ rest) rest
header_of n header rest (inl h) = inl (h.0, ap (λ (l : List ℕ). l ++ rest) h.1)
header_of n header rest (inr h) = inr (h.0, ap (λ (l : List ℕ). l ++ rest) h.1)

-- an empty block takes a byte at least
header_long : (n : ℕ) (header : List ℕ) → IsBlockHeader n header → 0 < length header
header_long n header (inl h) = let l : length header ≡ 2 = ap (λ (l : List ℕ). length l) h.1 in omega arith
header_long n header (inr h) = let l : length header ≡ suc (length (to_be_bytes w32 n)) = ap (λ (l : List ℕ). length l) h.1 in omega arith

empties_few : (count : ℕ) (blocks : List ℕ) → AreEmptyBlocks count blocks → count ≤ length blocks
empties_few zero blocks h = omega arith
empties_few (suc n) blocks (header, others, is, parts, more) =
    let one = header_long 0 header is in
    let few = empties_few n others more in
    let l : length blocks ≡ length header + length others = ap (λ (l : List ℕ). length l) parts ∙ length-append header others in
    omega arith

-- behind so many empty blocks, with room for them
passed : (end count most : ℕ) (blocks there : List ℕ) → AreEmptyBlocks count blocks → within_ahead end (count + suc most) (blocks ++ there) ≡ within_ahead end (suc most) there
unfolding within_ahead
passed end zero most blocks there h = let k : 0 + suc most ≡ suc most = omega arith in ap (λ m. within_ahead end m (blocks ++ there)) k ∙ ap (λ (l : List ℕ). within_ahead end (suc most) (l ++ there)) h
passed end (suc n) most blocks there (header, others, is, parts, more) =
    let k : suc n + suc most ≡ suc (n + suc most) = omega arith in
    let cut : blocks ++ there ≡ header ++ (others ++ there) = ap (λ (l : List ℕ). l ++ there) parts ∙ append_assoc header others there in
    ap (λ m. within_ahead end m (blocks ++ there)) k
    ∙ ok_first (any_ahead end (blocks ++ there)) _ (of_block 0, others ++ there) _ (ap (any_ahead end) cut ∙ block_back end 0 (header ++ (others ++ there)) (others ++ there) (header_of 0 header (others ++ there) is)) (passed end n most others there more)

-- what comes behind empty blocks is found
pub ahead_passed : (end count : ℕ) (blocks there : List ℕ) (y : Plain Ahead) → AreEmptyBlocks count blocks → ((most : ℕ) → within_ahead end (suc most) there ≡ y) → ahead_at end (blocks ++ there) ≡ y
ahead_passed end count blocks there y h g =
    let few = empties_few count blocks h in
    let l = length-append blocks there in
    let most = length (blocks ++ there) - count in
    let k : suc (length (blocks ++ there)) ≡ count + suc most = omega arith in
    ap (λ m. within_ahead end m (blocks ++ there)) k ∙ (passed end count most blocks there h ∙ g most)

pub full_here : (end n most : ℕ) (header there : List ℕ) → 0 < n → IsBlockHeader n header → within_ahead end (suc most) (header ++ there) ≡ Ok (of_block n, there)
unfolding within_ahead
full_here end zero most header there some h = absurd (omega arith)
full_here end (suc n) most header there some h = ok_first (any_ahead end (header ++ there)) _ (of_block (suc n), there) _ (block_back end (suc n) (header ++ there) there (header_of (suc n) header there h)) refl

pub code_here : (end code most : ℕ) (there : List ℕ) → code ≢ 0x77 → code ≢ 0x7A → within_ahead end (suc most) (code ∷ there) ≡ Ok (of_code code (end - length (code ∷ there)), there)
unfolding within_ahead any_ahead
code_here end code most there a b = rw (ne_eqb code 0x77 a, ne_eqb code 0x7A b) refl

pub long_here : (end most : ℕ) (there : List ℕ) (f : Fault) → size_at end w32 (2 ^ 31) there ≡ Err f → within_ahead end (suc most) (0x7A ∷ there) ≡ Err f
unfolding within_ahead any_ahead
long_here end most there f h = err_first (size_at end w32 (2 ^ 31) there >>= λ n. Ok (of_block n.0, n.1)) _ f (err_first (size_at end w32 (2 ^ 31) there) _ f h)
