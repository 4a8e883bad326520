-- Loops that read one thing after the other.
use Rattle.std.proofs.Common.{◌≡◌, ℕ, zero, suc, inl, inr, ◌+◌, ◌-◌, ◌<◌, ◌≤◌, List, [], ◌∷◌, ◌++◌, length, drop, get_or, Result, Ok, Err, refl, sym, ap, subst, append_assoc, arith, drop-cons, add-one, length-drop}
use Rattle.std.proofs.lemmas.List.{append-nil, nil_from_length}
use Rattle.stream_grammar.specs.Reading.{◌>>=◌, Fault, Progress, Step, many_at, plain, byte_at, take_at}
use Rattle.ser_read.specs.Lists.{all_at}
use Rattle.ser_read.proofs.Bytes.{takes_all, takes_short}
use Rattle.std.proofs.lemmas.Bool.{cases_lt}

abbrev pub Read : Type 0 → Type 0
Read A = Result (List A × Progress × List ℕ) Fault

-- what was read before, and what is still read
abbrev pub front_of : {A : Type 0} → List A → Read A → Read A
front_of front read = read >>= λ x. Ok (front ++ x.0, x.1, x.2)

pub regroup : {A : Type 0} (front : List A) (x : A) (read : Read A) → front_of front (read >>= λ xs. Ok (x ∷ xs.0, xs.1, xs.2)) ≡ front_of (front ++ x ∷ []) read
regroup {A} front x (Ok y) = ap (λ (xs : List A). Ok (xs, y.1, y.2)) (sym (append_assoc front (x ∷ []) y.0))
regroup front x (Err f) = refl

-- ---- so many

pub many_next : {A : Type 0} (step : Step A) (front : List A) (n i : ℕ) (now : Progress) (bs : List ℕ) (x : A) (later : Progress) (rest : List ℕ) → i < n → step now bs ≡ Ok (x, later, rest)
    → front_of front (many_at step (n - i) now bs) ≡ front_of (front ++ x ∷ []) (many_at step (n - (i + 1)) later rest)
unfolding many_at
many_next step front n i now bs x later rest lt h =
    let k : n - i ≡ suc (n - (i + 1)) = omega arith in
    rw (k, h) (regroup front x (many_at step (n - (i + 1)) later rest))

pub many_end : {A : Type 0} (step : Step A) (front : List A) (n i : ℕ) (now : Progress) (bs : List ℕ) → n ≤ i → front_of front (many_at step (n - i) now bs) ≡ Ok (front, now, bs)
unfolding many_at
many_end {A} step front n i now bs le = let k : n - i ≡ 0 = omega arith in rw k (ap (λ (xs : List A). Ok (xs, now, bs)) (append-nil front))

pub many_start : {A : Type 0} (step : Step A) (n : ℕ) (now : Progress) (bs : List ℕ) → many_at step n now bs ≡ front_of [] (many_at step (n - 0) now bs)
many_start step n now bs = let k : n - 0 ≡ n = omega arith in rw k (same (many_at step n now bs))
  where
    same : {A : Type 0} (r : Read A) → r ≡ front_of [] r
    same (Ok x) = refl
    same (Err f) = refl

-- ---- one for each of a list

pub all_next : {A B : Type 0} (step : B → Step A) (front : List A) (cs : List B) (i : ℕ) (d : B) (now : Progress) (bs : List ℕ) (x : A) (later : Progress) (rest : List ℕ) → i < length cs → step (get_or cs i d) now bs ≡ Ok (x, later, rest)
    → front_of front (all_at step (drop i cs) now bs) ≡ front_of (front ++ x ∷ []) (all_at step (drop (i + 1) cs) later rest)
unfolding all_at
all_next step front cs i d now bs x later rest lt h =
    let k : drop i cs ≡ get_or cs i d ∷ drop (i + 1) cs = rw (add-one, drop-cons cs i d) refl in
    rw (k, h) (regroup front x (all_at step (drop (i + 1) cs) later rest))

pub all_end : {A B : Type 0} (step : B → Step A) (front : List A) (cs : List B) (i : ℕ) (now : Progress) (bs : List ℕ) → length cs ≤ i → front_of front (all_at step (drop i cs) now bs) ≡ Ok (front, now, bs)
unfolding all_at
all_end {A} step front cs i now bs le = let k : drop i cs ≡ [] = nil_from_length (drop i cs) (omega (arith, length-drop i cs)) in rw k (ap (λ (xs : List A). Ok (xs, now, bs)) (append-nil front))

pub all_start : {A B : Type 0} (step : B → Step A) (cs : List B) (now : Progress) (bs : List ℕ) → all_at step cs now bs ≡ front_of [] (all_at step (drop 0 cs) now bs)
all_start step cs now bs = same (all_at step cs now bs)
  where
    same : {A : Type 0} (r : Read A) → r ≡ front_of [] r
    same (Ok x) = refl
    same (Err f) = refl

-- ---- bytes as elements

pub many_bytes : (n : ℕ) (now : Progress) (bs : List ℕ) → many_at (plain byte_at) n now bs ≡ plain (take_at n) now bs
unfolding many_at
many_bytes zero now bs = rw (takes_all 0 bs (omega arith)) refl
many_bytes (suc n) now [] = rw (takes_short (suc n) [] (omega arith)) refl
many_bytes (suc n) now (b ∷ bs) = rw (many_bytes n now bs) (elim (cases_lt (length bs) n) [
  | inl lt ↦ rw (takes_short n bs lt, takes_short (suc n) (b ∷ bs) (omega arith)) refl
  | inr le ↦ rw (takes_all n bs le, takes_all (suc n) (b ∷ bs) (omega arith)) refl
])

-- ---- the same, where the thing of the list has a name

pub all_next_item : {A B : Type 0} (step : B → Step A) (front : List A) (cs : List B) (i : ℕ) (c : B) (now : Progress) (bs : List ℕ) (x : A) (later : Progress) (rest : List ℕ) → i < length cs → c ≡ get_or cs i c → step c now bs ≡ Ok (x, later, rest)
    → front_of front (all_at step (drop i cs) now bs) ≡ front_of (front ++ x ∷ []) (all_at step (drop (i + 1) cs) later rest)
all_next_item {A} step front cs i c now bs x later rest lt is h = all_next step front cs i c now bs x later rest lt (subst (λ c. step c now bs ≡ Ok (x, later, rest)) is h)
