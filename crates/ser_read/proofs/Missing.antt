-- Where a block is missing.
use Rattle.std.proofs.Common.{◌≡◌, ◌≢◌, inl, inr, ℕ, zero, suc, ◌-◌, ◌≤◌, ◌&&◌, List, [], ◌∷◌, ◌++◌, length, Result, Ok, Err, refl, ap, sym, subst, ◌∙◌, arith, leb, leb-true, eqb, append_assoc}
use Rattle.std.proofs.lemmas.Bool.{and_parts, eqb-false}
use Rattle.stream_grammar.specs.Reading.{Fault, byte_at}
use Rattle.stream_grammar.proofs.PlainSound.{AreBytes, chosen, byte_sound}
use Rattle.ser_read.specs.declared.block.Head.{Head}
use Rattle.ser_read.specs.declared.block.Head.TheVariants.{Block, Code}
use Rattle.ser_read.specs.Heads.{head_at}
use Rattle.ser_read.specs.Wants.{WantFault, inside, missing_block, ◌▸◌, lift_fault, no_block, only_block, opened_at, run_at}
use Rattle.ser_read.specs.WantLaws.{AreEmptyBlocks, MissesBlock}
use Rattle.ser_read.proofs.Empties.{Empties, found}
use Rattle.ser_read.proofs.SpelledWants.{more_of}
use Rattle.ser_read.proofs.Heading.{header_is}
use Rattle.ser_read.proofs.Runs.{opened_here}

-- ---- faults

pub lifted_err : {A B : Type 0} (r : Result A Fault) (f : A → Result B WantFault) (fault : WantFault) → ((d : Fault) → inside d ≢ fault) → (lift_fault r ▸ f) ≡ Err fault → (x : A) × (r ≡ Ok x) × (f x ≡ Err fault)
lifted_err (Ok x) f fault outer e = (x, refl, e)
lifted_err (Err d) f fault outer e = absurd (outer d (let same = e in cc))

pub want_err : {A B : Type 0} (r : Result A WantFault) (g : A → B) (fault : WantFault) → (r ▸ λ x. Ok (g x)) ≡ Err fault → r ≡ Err fault
want_err (Ok x) g fault e = absurd cc
want_err (Err d) g fault e = cc

-- ---- the code

-- The position is told, and the code begins no block.
abbrev pub Misses : ℕ → ℕ → ℕ → Type 0
Misses code p at = (p ≡ at) × (0x70 ≤ code) × (code ≤ 0x7E) × (code ≢ 0x79) × (code ≢ 0x7B)

missed : (code p at : ℕ) → no_block code p ≡ missing_block at → Misses code p at
unfolding no_block
missed code p at e = elim (chosen (eqb code 0x79) _ _ _ e) [
  | inl a ↦ (let no = a.1 in absurd cc)
  | inr a ↦ elim (chosen (eqb code 0x7B) _ _ _ a.1) [
    | inl b ↦ (let no = b.1 in absurd cc)
    | inr b ↦ elim (chosen (leb 0x70 code && leb code 0x7E) _ _ _ b.1) [
      | inl c ↦ (let parts = and_parts (leb 0x70 code) (leb code 0x7E) c.0 in
          let same = c.1 in
          (cc, leb-true 0x70 code parts.0, leb-true code 0x7E parts.1, eqb-false code 0x79 a.0, eqb-false code 0x7B b.0))
      | inr c ↦ (let no = c.1 in absurd cc)
    ]
  ]
]

-- ---- empty blocks

pub empties_are : (e : ℕ) (bs rest : List ℕ) → Empties e bs rest → (blocks : List ℕ) × AreEmptyBlocks e blocks × (bs ≡ blocks ++ rest)
empties_are zero bs rest e = ([], refl, e)
empties_are (suc n) bs rest (b, head, more) =
    let one = header_is 0 bs b head in
    let others = empties_are n b rest more in
    (one.0 ++ others.0, (one.0, others.0, one.1, refl, others.1), one.2 ∙ ap (λ xs. one.0 ++ xs) others.2 ∙ sym (append_assoc one.0 others.0 rest))

-- ---- runs

-- One byte more was there.
one_more : (end n block at : ℕ) (bytes : List ℕ) (o : ℕ × List ℕ) (b : ℕ × List ℕ) → opened_at end block bytes ≡ Ok o → byte_at o.1 ≡ Ok b → MissesBlock end n (o.0 - 1) at b.1 → MissesBlock end (suc n) block at bytes
unfolding run_at
one_more end n block at bytes o b opened read m = record {
  count = suc m.count;
  fewer = omega (arith, m.fewer);
  given = b.0 ∷ m.given;
  rest = m.rest;
  read = ap (λ x. x ▸ more_of end m.count) opened ∙ ap (λ x. lift_fault x ▸ λ b. run_at end m.count (o.0 - 1) b.1 ▸ λ r. Ok (b.0 ∷ r.0, r.1, r.2)) read ∙ ap (λ x. x ▸ λ r. Ok (b.0 ∷ r.0, r.1, r.2)) m.read;
  code = m.code;
  more = m.more;
  next = m.next;
  begins = m.begins;
  front = m.front;
  rest_is = m.rest_is;
  at_is = m.at_is;
}

-- None was there.
none : (end n at : ℕ) (bytes : List ℕ) (code p : ℕ) (more : List ℕ) → AreBytes bytes → head_at end bytes ≡ Ok (Code code p, more) → Misses code p at → MissesBlock end (suc n) 0 at bytes
unfolding run_at
none end n at bytes code p more whole is m =
    let f = found end (suc (length bytes)) bytes (Code code p, more) is whole in
    let front = empties_are f.count bytes f.mid f.empties in
    record {
      count = 0;
      fewer = omega arith;
      given = [];
      rest = bytes;
      read = refl;
      code = code;
      more = more;
      next = subst (λ q. head_at end bytes ≡ Ok (Code code q, more)) m.0 is;
      begins = (m.1, m.2, f.is.1, m.3, f.is.2, m.4);
      front = front.0;
      rest_is = front.2 ∙ ap (λ xs. front.0 ++ xs) f.is.0;
      at_is = sym m.0 ∙ f.is.3 ∙ ap (λ xs. end - length xs) f.is.0;
    }

pub misses_block : (end n block at : ℕ) (bytes : List ℕ) → AreBytes bytes → run_at end n block bytes ≡ Err (missing_block at) → MissesBlock end n block at bytes
unfolding run_at opened_at
misses_block end zero block at bytes whole e = absurd cc
misses_block end (suc n) block at bytes whole e = go (λ k bs w i. misses_block end n k at bs w i) block refl e
  where
    after : ((k : ℕ) (bs : List ℕ) → AreBytes bs → run_at end n k bs ≡ Err (missing_block at) → MissesBlock end n k at bs) → (block : ℕ) (o : ℕ × List ℕ) → opened_at end block bytes ≡ Ok o → AreBytes o.1 → more_of end n o ≡ Err (missing_block at) → MissesBlock end (suc n) block at bytes
    after rec block o opened left e =
        let b = lifted_err (byte_at o.1) (λ b. run_at end n (o.0 - 1) b.1 ▸ λ r. Ok (b.0 ∷ r.0, r.1, r.2)) (missing_block at) (λ d same. cc) e in
        let inner = want_err (run_at end n (o.0 - 1) b.0.1) (λ r. (b.0.0 ∷ r.0, r.1, r.2)) (missing_block at) b.2 in
        let bytes_left = subst AreBytes (byte_sound o.1 b.0 b.1) left in
        one_more end n block at bytes o b.0 opened b.1 (rec (o.0 - 1) b.0.1 bytes_left.1 inner)

    heads : ((k : ℕ) (bs : List ℕ) → AreBytes bs → run_at end n k bs ≡ Err (missing_block at) → MissesBlock end n k at bs) → (h : Result (Head × List ℕ) Fault) → head_at end bytes ≡ h → ((lift_fault h ▸ only_block) ▸ more_of end n) ≡ Err (missing_block at) → MissesBlock end (suc n) 0 at bytes
    heads rec (Err d) is e = absurd cc
    heads rec (Ok (Block m, bs)) is e =
        let f = found end (suc (length bytes)) bytes (Block m, bs) is whole in
        after rec 0 (m, bs) (ap (λ h. lift_fault h ▸ only_block) is) f.left e
    heads rec (Ok (Code code p, more)) is e = none end n at bytes code p more whole is (missed code p at (let same = e in cc))

    go : ((k : ℕ) (bs : List ℕ) → AreBytes bs → run_at end n k bs ≡ Err (missing_block at) → MissesBlock end n k at bs) → (k : ℕ) → k ≡ block → run_at end (suc n) k bytes ≡ Err (missing_block at) → MissesBlock end (suc n) block at bytes
    go rec zero is e = subst (λ k. MissesBlock end (suc n) k at bytes) is (heads rec (head_at end bytes) refl e)
    go rec (suc k) is e =
        let here = opened_here end (suc k) bytes (omega arith) in
        subst (λ k. MissesBlock end (suc n) k at bytes) is (after rec (suc k) (suc k, bytes) here whole (sym (ap (λ x. x ▸ more_of end n) here) ∙ e))
