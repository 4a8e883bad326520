-- How many items at the front of a list pass a test, found a chunk at a time.
use Rattle.std.proofs.Common.{◌≡◌, ℕ, zero, suc, ◌+◌, ◌<◌, ◌≤◌, cond, Bool, true, false, List, [], ◌∷◌, ◌++◌, length, drop, get_or, refl, ap, ◌∙◌, arith, sym}
use Rattle.std.proofs.lemmas.Bool.{eq-eqb, ne_eqb, cond-true, cond-false}
use Rattle.std.proofs.lemmas.Simd.{length-chunk, chunk-drop}
use Rattle.std.proofs.lemmas.List.Folds.{prefix_len-append}
use Rattle.std.proofs.lemmas.List.Sums.{prefix_len-le-length, prefix_len-drop_yes, prefix_len-drop_no}
use Rattle.std.specs.List.{prefix_len}
use lib.Lanes.{Each1, chunk}

-- Where the items before an index pass, the run goes on from there.
goes_on : (p : ℕ → Bool) (xs : List ℕ) (i : ℕ) → i ≤ prefix_len p xs → prefix_len p xs ≡ i + prefix_len p (drop i xs)
goes_on p xs zero le = omega arith
goes_on p [] (suc i) le = absurd (omega arith)
goes_on p (x ∷ xs) (suc i) le = go (p x) (goes_on p xs i) le
  where
    go : (b : Bool) → (i ≤ prefix_len p xs → prefix_len p xs ≡ i + prefix_len p (drop i xs)) → suc i ≤ cond b (1 + prefix_len p xs) 0 → cond b (1 + prefix_len p xs) 0 ≡ suc i + prefix_len p (drop i xs)
    go true rest h = omega (arith, rest (omega arith))
    go false rest h = absurd (omega arith)

split : (p : ℕ → Bool) (xs : List ℕ) (i n : ℕ) → prefix_len p (drop i xs) ≡ prefix_len p (chunk i n xs ++ drop (i + n) xs)
split p xs i n = ap (prefix_len p) (chunk-drop i n xs)

-- The run covers a chunk.
pub whole_chunk : (p : ℕ → Bool) (xs : List ℕ) (i n r : ℕ) → i ≤ prefix_len p xs → i + n ≤ length xs → r ≡ prefix_len p (chunk i n xs) → n ≤ r → i + n ≤ prefix_len p xs
whole_chunk p xs i n r on room is all =
    let c = chunk i n xs in
    let long : length c ≡ n = length-chunk i n xs room in
    let full : prefix_len p c ≡ length c = omega (arith, prefix_len-le-length p c) in
    let e : prefix_len p (drop i xs) ≡ n + prefix_len p (drop (i + n) xs) = split p xs i n ∙ prefix_len-append p c (drop (i + n) xs) ∙ cond-true _ _ _ (eq-eqb _ _ full) ∙ ap (λ k. k + prefix_len p (drop (i + n) xs)) long in
    omega (arith, e, goes_on p xs i on)

-- The run ends in a chunk.
pub stopped_chunk : (p : ℕ → Bool) (xs : List ℕ) (i n r : ℕ) → i ≤ prefix_len p xs → i + n ≤ length xs → r ≡ prefix_len p (chunk i n xs) → r < n → i + r ≡ prefix_len p xs
stopped_chunk p xs i n r on room is less =
    let c = chunk i n xs in
    let long : length c ≡ n = length-chunk i n xs room in
    let short : prefix_len p c ≡ length c → ⊥ = λ e. omega arith in
    let e : prefix_len p (drop i xs) ≡ r = split p xs i n ∙ prefix_len-append p c (drop (i + n) xs) ∙ cond-false _ _ _ (ne_eqb _ _ short) ∙ sym is in
    omega (arith, e, goes_on p xs i on)

-- The run covers one item more, ends at one, or covers all.
pub passed_one : (p : ℕ → Bool) (xs : List ℕ) (i : ℕ) → i ≤ prefix_len p xs → i < length xs → p (get_or xs i 0) ≡ true → i + 1 ≤ prefix_len p xs
passed_one p xs i on here passes = omega (arith, goes_on p xs i on, prefix_len-drop_yes p xs i 0 here passes)

pub stopped_at : (p : ℕ → Bool) (xs : List ℕ) (i : ℕ) → i ≤ prefix_len p xs → i < length xs → p (get_or xs i 0) ≡ false → i ≡ prefix_len p xs
stopped_at p xs i on here fails = omega (arith, goes_on p xs i on, prefix_len-drop_no p xs i 0 here fails)

pub passed_all : (p : ℕ → Bool) (xs : List ℕ) (i : ℕ) → i ≤ prefix_len p xs → length xs ≤ i → length xs ≡ prefix_len p xs
passed_all p xs i on over = omega (arith, prefix_len-le-length p xs)

-- Two tests that agree on each item find the same run.
pub same_run : (p q : ℕ → Bool) (xs : List ℕ) → Each1 (λ x. p x ≡ q x) xs → prefix_len p xs ≡ prefix_len q xs
same_run p q [] h = refl
same_run p q (x ∷ xs) h = ap (λ b. cond b (1 + prefix_len p xs) 0) h.0 ∙ ap (λ n. cond (q x) (1 + n) 0) (same_run p q xs h.1)
