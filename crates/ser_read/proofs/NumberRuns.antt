-- Runs of numbers, each of so many bytes.
use Rattle.std.proofs.Common.{◌≡◌, ℕ, ℤ, zero, suc, inl, inr, ◌+◌, ◌-◌, ◌*◌, ◌<◌, ◌≤◌, List, [], ◌∷◌, ◌++◌, length, take, drop, Result, Ok, Err, refl, sym, ap, ◌∙◌, append_assoc, arith, length-drop, length-append}
use Rattle.std.proofs.lemmas.Bool.{cases_lt}
use Rattle.std.proofs.lemmas.List.{append-nil, nil_from_length, take-append-le, drop-append-le, drop-drop}
use Rattle.stream_grammar.specs.Reading.{Fault, Progress, Step, many_at, take_at, short}
use Rattle.wire_io.specs.Pulled.{PullState}
use Rattle.ser_read.specs.Here.{Reads}
use Rattle.lane_kernels.specs.Kernels.{signed_words}
use Rattle.std.specs.Int.{Width, byte_len}
use Rattle.ser_read.specs.NumberRuns.{of_front, run_of, signed_of}
use Rattle.ser_read.proofs.Loop.{front_of, regroup}
use Rattle.ser_read.proofs.Bytes.{takes_all, takes_short, taken_is}

-- Reading takes so many bytes, and is what they spell.
abbrev pub Fixed : {A : Type 0} → Step A → ℕ → (List ℕ → A) → Type 0
Fixed step width value = (now : Progress) (bs : List ℕ) → step now bs ≡ of_front width value now bs

suc_times : (n width : ℕ) → suc n * width ≡ width + n * width
suc_times n width = omega arith

one_short : {A : Type 0} (step : Step A) (width : ℕ) (value : List ℕ → A) → Fixed step width value → (now : Progress) (bs : List ℕ) → length bs < width → step now bs ≡ Err short
unfolding of_front
one_short step width value is now bs lt = is now bs ∙ rw (takes_short width bs lt) refl

one_there : {A : Type 0} (step : Step A) (width : ℕ) (value : List ℕ → A) → Fixed step width value → (now : Progress) (bs : List ℕ) → width ≤ length bs → step now bs ≡ Ok (value (take width bs), now, drop width bs)
unfolding of_front
one_there step width value is now bs le = is now bs ∙ rw (takes_all width bs le) refl

-- ---- too few bytes for some of them

many_short : {A : Type 0} (step : Step A) (width : ℕ) (value : List ℕ → A) → Fixed step width value → (more left : ℕ) (now : Progress) (bs : List ℕ) → more ≤ left → length bs < more * width → many_at step left now bs ≡ Err short
unfolding many_at
many_short step width value is zero left now bs le few = absurd (omega arith)
many_short step width value is (suc more) zero now bs le few = absurd (omega arith)
many_short step width value is (suc more) (suc left) now bs le few = elim (cases_lt (length bs) width) [
  | inl lt ↦ rw (one_short step width value is now bs lt) refl
  | inr there ↦ rw (one_there step width value is now bs there) (rw (many_short step width value is more left now (drop width bs) (omega arith) (omega (arith, suc_times more width, length-drop width bs))) refl)
]

pub run_err : {A : Type 0} (step : Step A) (width : ℕ) (value : List ℕ → A) → Fixed step width value → (front : List A) (left more : ℕ) (now : Progress) (bs : List ℕ) (f : Fault) → more ≤ left
    → take_at (more * width) bs ≡ Err f → front_of front (many_at step left now bs) ≡ Err f
run_err step width value is front left more now bs f le h = elim (cases_lt (length bs) (more * width)) [
  | inl lt ↦ rw (many_short step width value is more left now bs le lt) (let same : short ≡ f = (let e = sym (takes_short (more * width) bs lt) ∙ h in cc) in ap (λ (x : Fault). Err x) same)
  | inr there ↦ absurd (let e = sym (takes_all (more * width) bs there) ∙ h in cc)
]

-- ---- the bytes of some of them

run_front : {A : Type 0} (step : Step A) (width : ℕ) (value : List ℕ → A) → Fixed step width value → (front : List A) (more left : ℕ) (now : Progress) (block rest : List ℕ) → length block ≡ more * width
    → front_of front (many_at step (more + left) now (block ++ rest)) ≡ front_of (front ++ run_of width value more block) (many_at step left now rest)
unfolding many_at run_of
run_front step width value is front zero left now block rest len =
    let empty : block ≡ [] = nil_from_length block (omega arith) in
    let k : zero + left ≡ left = omega arith in
    rw (empty, k, append-nil front) refl
run_front {A} step width value is front (suc more) left now block rest len =
    let k : suc more + left ≡ suc (more + left) = omega arith in
    let long : width ≤ length block = omega (arith, suc_times more width) in
    let there : width ≤ length (block ++ rest) = omega (arith, length-append block rest) in
    let x = value (take width block) in
    let one : step now (block ++ rest) ≡ Ok (x, now, drop width block ++ rest) = one_there step width value is now (block ++ rest) there ∙ rw (take-append-le width block rest long, drop-append-le width block rest long) refl in
    rw (k, one) (regroup front x (many_at step (more + left) now (drop width block ++ rest))
    ∙ run_front step width value is (front ++ x ∷ []) more left now (drop width block) rest (omega (arith, suc_times more width, length-drop width block))
    ∙ ap (λ (xs : List A). front_of xs (many_at step left now rest)) (append_assoc front (x ∷ []) (run_of width value more (drop width block))))

pub run_next : {A : Type 0} (step : Step A) (width : ℕ) (value : List ℕ → A) → Fixed step width value → (front : List A) (left more : ℕ) (now : Progress) (bs block rest : List ℕ) → more ≤ left → take_at (more * width) bs ≡ Ok (block, rest)
    → front_of front (many_at step left now bs) ≡ front_of (front ++ run_of width value more block) (many_at step (left - more) now rest)
run_next step width value is front left more now bs block rest le h =
    let s = taken_is (more * width) bs block rest h in
    let k : left ≡ more + (left - more) = omega arith in
    ap (λ bs. front_of front (many_at step left now bs)) s.0 ∙ ap (λ n. front_of front (many_at step n now (block ++ rest))) k ∙ run_front step width value is front more (left - more) now block rest s.1

-- ---- one more of them

run_more : {A : Type 0} (width : ℕ) (value : List ℕ → A) (n : ℕ) (bs : List ℕ) → run_of width value (n + 1) bs ≡ run_of width value n bs ++ value (take width (drop (n * width) bs)) ∷ []
unfolding run_of
run_more width value zero bs = let k : zero * width ≡ 0 = omega arith in rw k refl
run_more width value (suc n) bs =
    let k : suc n + 1 ≡ suc (n + 1) = omega arith in
    rw (k, suc_times n width, ← drop-drop (n * width) width bs) (ap (λ xs. value (take width bs) ∷ xs) (run_more width value n (drop width bs)))

-- One more was appended.
pub run_push : {A : Type 0} (width : ℕ) (value : List ℕ → A) (front old new : List A) (n : ℕ) (bs : List ℕ) (x : A) → old ≡ front ++ run_of width value n bs → new ≡ old ++ x ∷ [] → x ≡ value (take width (drop (n * width) bs))
    → new ≡ front ++ run_of width value (n + 1) bs
run_push {A} width value front old new n bs x so_far pushed is =
    let next = value (take width (drop (n * width) bs)) in
    pushed ∙ ap (λ (x : A). old ++ x ∷ []) is ∙ ap (λ (xs : List A). xs ++ next ∷ []) so_far ∙ append_assoc front (run_of width value n bs) (next ∷ []) ∙ ap (λ (xs : List A). front ++ xs) (sym (run_more width value n bs))

pub times_more : (n width : ℕ) → n * width + width ≡ (n + 1) * width
times_more n width = omega arith

-- ---- blocks of them

pub block_long : {p q : PullState} (n : ℕ) (block : List ℕ) → Reads short p q (λ end. take_at n) (λ rest. (block, rest)) → length block ≡ n
block_long {p} {q} n block h = (taken_is n (h.taken ++ []) block [] (h.is [])).1

pub run_start : {A : Type 0} (step : Step A) (n : ℕ) (now : Progress) (bs : List ℕ) → many_at step n now bs ≡ front_of [] (many_at step n now bs)
run_start step n now bs = same (many_at step n now bs)
  where
    same : {A : Type 0} (r : Result (List A × Progress × List ℕ) Fault) → r ≡ front_of [] r
    same (Ok x) = refl
    same (Err f) = refl

pub run_end : {A : Type 0} (step : Step A) (front : List A) (left : ℕ) (now : Progress) (bs : List ℕ) → left ≡ 0 → front_of front (many_at step left now bs) ≡ Ok (front, now, bs)
unfolding many_at
run_end {A} step front left now bs no_more = rw no_more (ap (λ (xs : List A). Ok (xs, now, bs)) (append-nil front))

-- ---- signed numbers by vectors

pub words_are : (w : Width) (n : ℕ) (bs : List ℕ) → signed_words w n bs ≡ run_of (byte_len w) (signed_of w) n bs
unfolding signed_words run_of
words_are w zero bs = refl
words_are w (suc n) bs = ap (λ xs. signed_of w (take (byte_len w) bs) ∷ xs) (words_are w n (drop (byte_len w) bs))

-- Signed numbers that were read into the whole of a list, and appended.
pub words_put : (w : Width) (n : ℕ) (bs : List ℕ) (old xs new out : List ℤ) → xs ≡ signed_words w (length out) bs → new ≡ old ++ xs → length out ≡ n
    → new ≡ old ++ run_of (byte_len w) (signed_of w) n bs
words_put w n bs old xs new out is so long = so ∙ ap (λ (l : List ℤ). old ++ l) (is ∙ ap (λ k. signed_words w k bs) long ∙ words_are w n bs)
