-- Block data, piece by piece.
use Rattle.std.proofs.Common.{◌≡◌, ℕ, zero, suc, ◌+◌, ◌-◌, ◌≤◌, ◌<◌, List, [], ◌∷◌, ◌++◌, length, take, drop, Result, Ok, Err, refl, sym, ap, ◌∙◌, append_assoc, arith, inl, inr}
use Rattle.std.proofs.Math.Dec.{eqb-suc-zero}
use Rattle.std.proofs.lemmas.Bool.{cases_lt}
use Rattle.std.proofs.lemmas.List.{length-take, take-append-drop, append-nil}
use Rattle.stream_grammar.specs.Reading.{Fault, take_at, short}
use Rattle.ser_read.specs.declared.block.Head.{Head}
use Rattle.ser_read.specs.declared.block.Head.TheVariants.{Block, Code}
use Rattle.ser_read.specs.Heads.{head_at}
use Rattle.ser_read.specs.Wants.{WantFault, inside, ◌▸◌, lift_fault, only_block, opened_at, run_at}
use Rattle.ser_read.proofs.Heads.{head_full}
use Rattle.ser_read.proofs.Bytes.{takes_all, takes_short}

abbrev pub Run : Type 0
Run = Result (List ℕ × ℕ × List ℕ) WantFault

-- what was read before, and what is still read
abbrev pub behind : List ℕ → Run → Run
behind front read = read ▸ λ x. Ok (front ++ x.0, x.1, x.2)

pub behind_none : (read : Run) → behind [] read ≡ read
behind_none (Ok x) = refl
behind_none (Err f) = refl

pub behind_two : (a b : List ℕ) (read : Run) → behind a (behind b read) ≡ behind (a ++ b) read
behind_two a b (Ok x) = ap (λ (xs : List ℕ). Ok (xs, x.1, x.2)) (sym (append_assoc a b x.0))
behind_two a b (Err f) = refl

-- ---- the present block

pub opened_here : (end k : ℕ) (bs : List ℕ) → 0 < k → opened_at end k bs ≡ Ok (k, bs)
unfolding opened_at
opened_here end zero bs lt = absurd (omega arith)
opened_here end (suc k) bs lt = rw eqb-suc-zero refl

abbrev opened_is : ℕ × List ℕ → Result (ℕ × List ℕ) WantFault
opened_is x = Ok x

kept : (a b : ℕ × List ℕ) → opened_is a ≡ opened_is b → a.0 ≡ b.0
kept a b e = let s : a ≡ b = cc in ap (λ (x : ℕ × List ℕ). x.0) s

pub opened_some : (end block : ℕ) (bs : List ℕ) (k : ℕ) (rest : List ℕ) → opened_at end block bs ≡ Ok (k, rest) → 0 < k
unfolding opened_at
opened_some end (suc block) bs k rest e = let s = kept (suc block, bs) (k, rest) (sym (opened_here end (suc block) bs (omega arith)) ∙ e) in omega (arith, s)
opened_some end zero bs k rest e = go (head_at end bs) refl e
  where
    go : (r : Result (Head × List ℕ) Fault) → head_at end bs ≡ r → (lift_fault r ▸ only_block) ≡ Ok (k, rest) → 0 < k
    go (Err f) is e = absurd cc
    go (Ok (Code code at, b)) is e = absurd cc
    go (Ok (Block zero, b)) is e = absurd (let h = head_full end (suc (length bs)) bs (Block zero, b) is in cc)
    go (Ok (Block (suc n), b)) is e = let s = kept (suc n, b) (k, rest) e in omega (arith, s)

-- a block is opened first
pub run_opens : (end n block : ℕ) (bs : List ℕ) (k : ℕ) (rest : List ℕ) → 0 < n → opened_at end block bs ≡ Ok (k, rest) → run_at end n block bs ≡ run_at end n k rest
unfolding run_at
run_opens end zero block bs k rest lt e = absurd (omega arith)
run_opens end (suc n) block bs k rest lt e = rw (e, opened_here end k rest (opened_some end block bs k rest e)) refl

pub run_unopened : (front : List ℕ) (end n block : ℕ) (bs : List ℕ) (f : WantFault) → 0 < n → opened_at end block bs ≡ Err f → behind front (run_at end n block bs) ≡ Err f
unfolding run_at
run_unopened front end zero block bs f lt h = absurd (omega arith)
run_unopened front end (suc n) block bs f lt h = rw h refl

pub opened_none : (end block : ℕ) (bs : List ℕ) → block ≡ 0 → opened_at end block bs ≡ (lift_fault (head_at end bs) ▸ only_block)
unfolding opened_at
opened_none end block bs h = rw h refl

-- ---- a piece of it

abbrev nil : List ℕ
nil = []

pub run_piece : (end : ℕ) (piece rest : List ℕ) (n k : ℕ) → run_at end (length piece + n) (length piece + k) (piece ++ rest) ≡ behind piece (run_at end n k rest)
unfolding run_at
run_piece end [] rest n k =
    let a : length (nil) + n ≡ n = omega arith in
    let b : length (nil) + k ≡ k = omega arith in
    rw (a, b) (sym (behind_none (run_at end n k rest)))
run_piece end (b ∷ piece) rest n k =
    let one : suc (length piece) + k - 1 ≡ length piece + k = omega arith in
    let more : suc (length piece) + n ≡ suc (length piece + n) = omega arith in
    rw (more, opened_here end (suc (length piece) + k) (b ∷ (piece ++ rest)) (omega arith)) (rw (one, run_piece end piece rest n k) (cons_behind (run_at end n k rest)))
  where
    cons_behind : (r : Run) → (behind piece r ▸ λ r. Ok (b ∷ r.0, r.1, r.2)) ≡ behind (b ∷ piece) r
    cons_behind (Ok x) = refl
    cons_behind (Err f) = refl

run_short : (end more n k : ℕ) (bs : List ℕ) → length bs < more → more ≤ n → more ≤ k → run_at end n k bs ≡ Err (inside short)
unfolding run_at
run_short end zero n k bs few a b = absurd (omega arith)
run_short end (suc more) zero k bs few a b = absurd (omega arith)
run_short end (suc more) (suc n) k [] few a b = rw (opened_here end k [] (omega arith)) refl
run_short end (suc more) (suc n) k (c ∷ bs) few a b = rw (opened_here end k (c ∷ bs) (omega arith)) (rw (run_short end more n (k - 1) bs (omega arith) (omega arith) (omega arith)) refl)

pub run_split : (end more n k : ℕ) (bs : List ℕ) → more ≤ n → more ≤ k → run_at end n k bs ≡ (lift_fault (take_at more bs) ▸ λ t. behind t.0 (run_at end (n - more) (k - more) t.1))
run_split end more n k bs a b = elim (cases_lt (length bs) more) [
  | inl lt ↦ rw (takes_short more bs lt) (run_short end more n k bs lt a b)
  | inr le ↦ rw (takes_all more bs le) (
      let len : length (take more bs) ≡ more = omega (arith, length-take more bs) in
      let en : n ≡ length (take more bs) + (n - more) = omega (arith, len) in
      let ek : k ≡ length (take more bs) + (k - more) = omega (arith, len) in
      ap (λ bs. run_at end n k bs) (sym (take-append-drop more bs)) ∙ ap (λ n. run_at end n k (take more bs ++ drop more bs)) en
      ∙ ap (λ k. run_at end (length (take more bs) + (n - more)) k (take more bs ++ drop more bs)) ek ∙ run_piece end (take more bs) (drop more bs) (n - more) (k - more))
]

-- ---- what the loop does

pub piece_next : (front : List ℕ) (end more n k : ℕ) (bs piece rest : List ℕ) → more ≤ n → more ≤ k → take_at more bs ≡ Ok (piece, rest)
    → behind front (run_at end n k bs) ≡ behind (front ++ piece) (run_at end (n - more) (k - more) rest)
piece_next front end more n k bs piece rest a b h = ap (behind front) (run_split end more n k bs a b ∙ rw h refl) ∙ behind_two front piece (run_at end (n - more) (k - more) rest)

pub piece_err : (front : List ℕ) (end more n k : ℕ) (bs : List ℕ) (f : Fault) → more ≤ n → more ≤ k → take_at more bs ≡ Err f → behind front (run_at end n k bs) ≡ Err (inside f)
piece_err front end more n k bs f a b h = let e : run_at end n k bs ≡ Err (inside f) = run_split end more n k bs a b ∙ rw h refl in ap (behind front) e

pub run_end : (front : List ℕ) (end k : ℕ) (bs : List ℕ) → behind front (run_at end 0 k bs) ≡ Ok (front, k, bs)
unfolding run_at
run_end front end k bs = ap (λ (xs : List ℕ). Ok (xs, k, bs)) (append-nil front)
