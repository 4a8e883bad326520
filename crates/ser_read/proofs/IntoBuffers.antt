-- Block data that is read into a part of a buffer.
use Rattle.std.proofs.Common.{◌≡◌, ℕ, ◌+◌, ◌-◌, ◌≤◌, List, [], ◌++◌, length, take, drop, Ok, Err, sym, ap, subst, ◌∙◌, arith, length-drop}
use Rattle.std.proofs.lemmas.List.{length-take-le, append-nil}
use Rattle.std.proofs.lemmas.List as lists
use Rattle.wire_io.proofs.Pulling.{front_put, part_length}
use Rattle.stream_grammar.specs.Reading.{Fault, take_at}
use Rattle.ser_read.specs.Wants.{run_at, inside}
use Rattle.ser_read.proofs.Runs.{behind, piece_next, piece_err}

-- a buffer over whose part from `done` on a piece was written
abbrev pub put_in : List ℕ → ℕ → ℕ → List ℕ → List ℕ
put_in buf done n piece = take done buf ++ (piece ++ drop n (drop done buf))

pub part_is : (buf : List ℕ) (done n : ℕ) → done + n ≤ length buf → length (take n (drop done buf)) ≡ n
part_is buf done n within = length-take-le n (drop done buf) (omega (arith, length-drop done buf))

-- A front that is as long as the whole is the whole.
pub whole_front : (buf : List ℕ) (n : ℕ) → n ≡ length buf → take n buf ≡ buf
whole_front buf n all = ap (λ (b : List ℕ). take n b) (sym (append-nil buf)) ∙ lists.take_at buf [] n (sym all)

-- A piece more was read, into the next part.
pub into_next : (buf : List ℕ) (end done n k : ℕ) (bs piece rest : List ℕ) → done + n ≤ length buf → n ≤ k → length piece ≡ n → take_at n bs ≡ Ok (piece, rest)
    → behind (take done buf) (run_at end (length buf - done) k bs) ≡ behind (take (done + n) (put_in buf done n piece)) (run_at end (length (put_in buf done n piece) - (done + n)) (k - n) rest)
into_next buf end done n k bs piece rest within few long h =
    let same : length piece ≡ length (take n (drop done buf)) = long ∙ sym (part_is buf done n within) in
    let all : length (put_in buf done n piece) ≡ length buf = (part_length buf piece done n within same).1 in
    let front : take (done + n) (put_in buf done n piece) ≡ take done buf ++ take n piece = front_put buf piece (drop n (drop done buf)) done n (omega (arith, within)) (omega (arith, long)) in
    let whole : take n piece ≡ piece = whole_front piece n (sym long) in
    let left : length buf - done - n ≡ length (put_in buf done n piece) - (done + n) = omega (arith, all, within) in
    piece_next (take done buf) end n (length buf - done) k bs piece rest (omega (arith, within)) few h
    ∙ ap (λ m. behind (take done buf ++ piece) (run_at end m (k - n) rest)) left
    ∙ ap (λ (f : List ℕ). behind f (run_at end (length (put_in buf done n piece) - (done + n)) (k - n) rest)) (sym (front ∙ ap (λ (p : List ℕ). take done buf ++ p) whole))

-- The same, where the next part's length is said otherwise.
pub into_next_by : (buf : List ℕ) (end done n m k : ℕ) (bs piece rest : List ℕ) → n ≡ m → done + n ≤ length buf → n ≤ k → length piece ≡ n → take_at n bs ≡ Ok (piece, rest)
    → behind (take done buf) (run_at end (length buf - done) k bs) ≡ behind (take (done + m) (put_in buf done n piece)) (run_at end (length (put_in buf done n piece) - (done + m)) (k - m) rest)
into_next_by buf end done n m k bs piece rest same within few long h =
    subst (λ x. behind (take done buf) (run_at end (length buf - done) k bs) ≡ behind (take (done + x) (put_in buf done n piece)) (run_at end (length (put_in buf done n piece) - (done + x)) (k - x) rest)) same
    (into_next buf end done n k bs piece rest within few long h)

pub into_err : (buf : List ℕ) (end done n k : ℕ) (bs : List ℕ) (f : Fault) → done + n ≤ length buf → n ≤ k → take_at n bs ≡ Err f → behind (take done buf) (run_at end (length buf - done) k bs) ≡ Err (inside f)
into_err buf end done n k bs f within few h = piece_err (take done buf) end n (length buf - done) k bs f (omega (arith, within)) few h
