-- Bytes that are split at a separator, and parts that are joined by one.
use Rattle.std.proofs.Common.{◌≡◌, ℕ, ◌+◌, ◌<◌, ◌≤◌, Bool, true, false, List, [], ◌∷◌, ◌++◌, length, take, drop, get_or, Some, None, refl, ap, sym, ◌∙◌, arith, All, cond, eqb, eq-eqb, ltb, length-take, get_or-take}
use Rattle.std.specs.List.{AllByRecursion, position, position_or_len, slice_split, onto_first, join_with_byte}
use Rattle.std.proofs.lemmas.List.Elements.{All-from_recursion, recursion_from_All, All-from_get_or}
use Rattle.std.proofs.lemmas.List.Sums.{fails_before_first}
use Rattle.std.proofs.lemmas.List.Splits.{slice_split_first, slice_split_none, slice_split_at, join_with_byte-slice_split}
use Rattle.std.proofs.lemmas.Option.{cond_some}
use Rattle.std.proofs.lemmas.Bool.{ltb-true, eqb-true, eqb-false}
use Rattle.std.proofs.lemmas.List.{take-append-drop, drop_more}
use Rattle.memchr.specs.Find.{Nowhere, NoneBefore, Passes, is_byte}
use Rattle.journal.specs.Parts.{parts, Lacks}

-- what `position` finds
pub found : {X : Type 0} (p : X → Bool) (xs : List X) (i : ℕ) → position p xs ≡ Some i → (i < length xs) × (position_or_len p xs ≡ i)
found p xs i is =
    let both = cond_some (ltb (position_or_len p xs) (length xs)) (position_or_len p xs) i is in
    let inside = ltb-true (position_or_len p xs) (length xs) both.0 in
    (omega (arith, both.1), both.1)

found_none : {X : Type 0} (p : X → Bool) (xs : List X) → position p xs ≡ None → length xs ≤ position_or_len p xs
found_none p xs is = by_test (ltb (position_or_len p xs) (length xs)) refl
  where
    by_test : (b : Bool) → ltb (position_or_len p xs) (length xs) ≡ b → length xs ≤ position_or_len p xs
    by_test true e = absurd (grind arith)
    by_test false e = grind arith

-- where `position` finds nothing, no item passes
pub none_passes : (p : ℕ → Bool) (xs : List ℕ) → position p xs ≡ None → All (λ x. p x ≡ false) xs
none_passes p xs is =
    let past = found_none p xs is in
    All-from_get_or (λ x. p x ≡ false) xs 0 (λ i inside. fails_before_first p xs i 0 (omega arith))

-- the first part, and those after it
pub parts_at : (c : ℕ) (bytes : List ℕ) (i : ℕ) → position (λ b. eqb b c) bytes ≡ Some i → parts c bytes ≡ take i bytes ∷ parts c (drop (i + 1) bytes)
parts_at c bytes i is =
    let at_first = found (λ b. eqb b c) bytes i is in
    let split = slice_split_first (λ b. eqb b c) bytes 0 (omega (arith, at_first.0, at_first.1)) in
    rw at_first.1 at split

-- the last part
pub parts_last : (c : ℕ) (bytes : List ℕ) → position (λ b. eqb b c) bytes ≡ None → parts c bytes ≡ bytes ∷ []
parts_last c bytes is = slice_split_none (λ b. eqb b c) bytes (none_passes (λ b. eqb b c) bytes is)

-- ---- joined parts

-- Parts without the separator, joined by it, are split into these parts.
pub parts_join : (c : ℕ) (word : List ℕ) (words : List (List ℕ)) → AllByRecursion (Lacks c) (word ∷ words) → parts c (join_with_byte c (word ∷ words)) ≡ word ∷ words
parts_join c word [] lack = slice_split_none (λ b. eqb b c) word (All-from_recursion (λ b. eqb b c ≡ false) word lack.0)
parts_join c word (next ∷ words) lack =
    slice_split_at (λ b. eqb b c) word c (join_with_byte c (next ∷ words)) (All-from_recursion (λ b. eqb b c ≡ false) word lack.0) (eq-eqb c c refl)
    ∙ ap (λ (xs : List (List ℕ)). word ∷ xs) (parts_join c next words lack.1)

-- Bytes are their parts, joined by the separator.
pub join_parts : (c : ℕ) (bytes : List ℕ) → bytes ≡ join_with_byte c (parts c bytes)
join_parts c bytes = sym (join_with_byte-slice_split c bytes)

-- There is at least one part.
pub parts_exist : (c : ℕ) (bytes : List ℕ) → parts c bytes ≡ [] → ⊥
parts_exist c [] none = cc
parts_exist c (b ∷ bytes) none = by_test (eqb b c) (slice_split (λ x. eqb x c) bytes) none
  where
    by_test : (t : Bool) (more : List (List ℕ)) → cond t ([] ∷ more) (onto_first b more) ≡ [] → ⊥
    by_test true more is = cc
    by_test false [] is = cc
    by_test false (part ∷ more) is = cc

-- ---- the first occurrence of a byte

not_true : (t : Bool) → ¬ (t ≡ true) → t ≡ false
not_true true fails = absurd (fails refl)
not_true false fails = refl

-- Bytes where a search finds it nowhere lack it.
pub lacks_nowhere : (c : ℕ) (bytes : List ℕ) → Nowhere (Passes (is_byte c) bytes) 0 (length bytes) → Lacks c bytes
lacks_nowhere c bytes nowhere = recursion_from_All (λ b. eqb b c ≡ false) bytes
    (All-from_get_or (λ b. eqb b c ≡ false) bytes 0 (λ i inside. not_true _ (nowhere i (omega arith) inside)))

-- What stands before and after the place that a search finds.
pub searched_at : (c : ℕ) (bytes : List ℕ) (i : ℕ) → NoneBefore (Passes (is_byte c) bytes) 0 (length bytes) i → Passes (is_byte c) bytes i →
    Lacks c (take i bytes) × (bytes ≡ take i bytes ++ c ∷ drop (i + 1) bytes)
searched_at c bytes i first here = (
  recursion_from_All (λ b. eqb b c ≡ false) (take i bytes) (All-from_get_or (λ b. eqb b c ≡ false) (take i bytes) 0 before),
  sym (take-append-drop i bytes) ∙ ap (λ (l : List ℕ). take i bytes ++ l) (drop_more bytes i 0 first.high ∙ ap (λ (b : ℕ). b ∷ drop (i + 1) bytes) (eqb-true (get_or bytes i 0) c here)),
)
  where
    before : (k : ℕ) → k < length (take i bytes) → eqb (get_or (take i bytes) k 0) c ≡ false
    before k below = let short : k < i = omega (arith, length-take i bytes) in rw (get_or-take) (not_true _ (first.before k (omega arith) short))

-- Bytes are parted in one way alone at their first separator.
pub line_injective : (c : ℕ) (a b x y : List ℕ) → Lacks c a → Lacks c b → a ++ c ∷ x ≡ b ++ c ∷ y → (a ≡ b) × (x ≡ y)
line_injective c [] [] x y of_a of_b same = (refl, ap (drop 1) same)
line_injective c [] (b ∷ bs) x y of_a of_b same = absurd (eqb-false b c of_b.0 (ap (λ (l : List ℕ). get_or l 0 0) (sym same)))
line_injective c (a ∷ more) [] x y of_a of_b same = absurd (eqb-false a c of_a.0 (ap (λ (l : List ℕ). get_or l 0 0) same))
line_injective c (a ∷ more) (b ∷ bs) x y of_a of_b same =
    let tails = line_injective c more bs x y of_a.1 of_b.1 (ap (drop 1) same) in
    (ap (λ (h : ℕ). h ∷ more) (ap (λ (l : List ℕ). get_or l 0 0) same) ∙ ap (λ (l : List ℕ). b ∷ l) tails.0, tails.1)
