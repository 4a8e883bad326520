-- What reading has come to behind one more byte.
use Rattle.std.proofs.Common.{◌≡◌, ℕ, zero, suc, ◌+◌, ◌-◌, ◌*◌, ◌<◌, ◌≤◌, Bool, true, false, cond, eqb, leb, List, [], ◌∷◌, length, get_or, take, drop, Option, Some, None, refl, sym, ap, ◌∙◌, arith, add-one, eq-eqb, ne_eqb, le-leb, lt-ltb}
use Rattle.std.proofs.lemmas.Bool.{lt-leb, and_right, eqb-false}
use Rattle.std.proofs.lemmas.List.{drop_more, drop_all}
use Rattle.std.specs.List.{list_all}
use Rattle.class_desc.specs.TypeText.{is_letter}
use Rattle.method_hash.specs.MethodText.{is_class_byte}
use Rattle.suid_calc.specs.declared.outline.TheConstants.{MAX_MODIFIERS, NAME_BYTES}
use Rattle.suid_calc.specs.Grammar.{is_digit, is_name_byte}
use Rattle.suid_calc.specs.Reading.{split_at, is_name, number_after, after_name, after_class, after_type, after_parameters}

-- ---- a byte sought

pub split_here : (b i : ℕ) (t : List ℕ) → i < length t → ((k : ℕ) → k < i → get_or t k 0 ≡ b → ⊥) → get_or t i 0 ≡ b → split_at b t ≡ Some (take i t, drop (suc i) t)
unfolding split_at
split_here b i [] less none here = absurd (omega arith)
split_here b zero (c ∷ t) less none here = rw (eq-eqb c b here) refl
split_here b (suc i) (c ∷ t) less none here =
    let rest : split_at b t ≡ Some (take i t, drop (suc i) t) = split_here b i t (omega arith) (λ k below. none (suc k) (omega arith)) here in
    let apart : eqb c b ≡ false = ne_eqb c b (none zero (omega arith)) in
    rw (apart, rest) refl

pub split_found : (b i : ℕ) (t : List ℕ) → i < length t → ((k : ℕ) → k < i → get_or t k 0 ≡ b → ⊥) → get_or t i 0 ≡ b → split_at b t ≡ Some (take i t, drop (i + 1) t)
split_found b i t less none here = rw add-one (split_here b i t less none here)

pub split_nowhere : (b : ℕ) (t : List ℕ) → ((k : ℕ) → k < length t → get_or t k 0 ≡ b → ⊥) → split_at b t ≡ None
unfolding split_at
split_nowhere b [] none = refl
split_nowhere b (c ∷ t) none =
    let rest : split_at b t ≡ None = split_nowhere b t (λ k below. none (suc k) (omega arith)) in
    let apart : eqb c b ≡ false = ne_eqb c b (none zero (omega arith)) in
    rw (apart, rest) refl

-- ---- numbers

pub number_stops : (n i : ℕ) (t : List ℕ) → i < length t → is_digit (get_or t i 0) ≡ false → number_after n (drop i t) ≡ None
unfolding number_after
number_stops n i t less other = rw (drop_more t i 0 less) (rw other refl)

pub number_too_high : (n i : ℕ) (t : List ℕ) → i < length t → MAX_MODIFIERS < 10 * n + (get_or t i 0 - 0x30) → number_after n (drop i t) ≡ None
unfolding number_after
number_too_high n i t less high = rw (drop_more t i 0 less) (rw (and_right (is_digit (get_or t i 0)) (leb (10 * n + (get_or t i 0 - 0x30)) MAX_MODIFIERS) (lt-leb _ _ high)) refl)

pub number_goes_on : (n i : ℕ) (t : List ℕ) → i < length t → is_digit (get_or t i 0) ≡ true → 10 * n + (get_or t i 0 - 0x30) ≤ MAX_MODIFIERS → number_after n (drop i t) ≡ number_after (10 * n + (get_or t i 0 - 0x30)) (drop (i + 1) t)
unfolding number_after
number_goes_on n i t less digit small =
    let fits : leb (10 * n + (get_or t i 0 - 0x30)) MAX_MODIFIERS ≡ true = le-leb _ _ small in
    rw (drop_more t i 0 less) (rw (digit, fits) refl)

pub number_ends : (n i : ℕ) (t : List ℕ) → length t ≤ i → number_after n (drop i t) ≡ Some n
unfolding number_after
number_ends n i t all = rw (drop_all i t all) refl

-- ---- types

pub name_ends : (i : ℕ) (t : List ℕ) → i < length t → get_or t i 0 ≡ 0x3B → after_name (drop i t) ≡ Some (drop (i + 1) t)
unfolding after_name
name_ends i t less here = rw (drop_more t i 0 less) (rw (eq-eqb _ _ here) refl)

pub name_goes_on : (i : ℕ) (t : List ℕ) → i < length t → (get_or t i 0 ≡ 0x3B → ⊥) → is_class_byte (get_or t i 0) ≡ true → after_name (drop i t) ≡ after_name (drop (i + 1) t)
unfolding after_name
name_goes_on i t less apart good = rw (drop_more t i 0 less) (rw good (rw (ne_eqb _ _ apart) refl))

pub name_stops : (i : ℕ) (t : List ℕ) → i < length t → (get_or t i 0 ≡ 0x3B → ⊥) → is_class_byte (get_or t i 0) ≡ false → after_name (drop i t) ≡ None
unfolding after_name
name_stops i t less apart bad = rw (drop_more t i 0 less) (rw bad (rw (ne_eqb _ _ apart) refl))

pub name_lacks : (i : ℕ) (t : List ℕ) → length t ≤ i → after_name (drop i t) ≡ None
unfolding after_name
name_lacks i t all = rw (drop_all i t all) refl

pub type_of_class : (i : ℕ) (t : List ℕ) → i < length t → get_or t i 0 ≡ 0x4C → after_type (drop i t) ≡ after_class (drop (i + 1) t)
unfolding after_type
type_of_class i t less here = rw (drop_more t i 0 less) (rw here refl)

pub type_of_elements : (i : ℕ) (t : List ℕ) → i < length t → get_or t i 0 ≡ 0x5B → after_type (drop i t) ≡ after_type (drop (i + 1) t)
unfolding after_type
type_of_elements i t less here = rw (drop_more t i 0 less) (rw here refl)

pub type_of_letter : (i : ℕ) (t : List ℕ) → i < length t → (get_or t i 0 ≡ 0x4C → ⊥) → (get_or t i 0 ≡ 0x5B → ⊥) → is_letter (get_or t i 0) ≡ true → after_type (drop i t) ≡ Some (drop (i + 1) t)
unfolding after_type
type_of_letter i t less class array good = rw (drop_more t i 0 less) (rw (ne_eqb _ _ array, ne_eqb _ _ class) (rw good refl))

pub type_of_nothing : (i : ℕ) (t : List ℕ) → i < length t → (get_or t i 0 ≡ 0x4C → ⊥) → (get_or t i 0 ≡ 0x5B → ⊥) → is_letter (get_or t i 0) ≡ false → after_type (drop i t) ≡ None
unfolding after_type
type_of_nothing i t less class array bad = rw (drop_more t i 0 less) (rw (ne_eqb _ _ array, ne_eqb _ _ class) (rw bad refl))

pub type_lacks : (i : ℕ) (t : List ℕ) → length t ≤ i → after_type (drop i t) ≡ None
unfolding after_type
type_lacks i t all = rw (drop_all i t all) refl

pub parameters_close : (n : ℕ) (t : List ℕ) → 0 < length t → get_or t 0 0 ≡ 0x29 → after_parameters n t ≡ Some (drop 1 t)
unfolding after_parameters
parameters_close n [] some here = absurd (omega arith)
parameters_close zero (c ∷ t) some here = rw (eq-eqb c 0x29 here) refl
parameters_close (suc n) (c ∷ t) some here = rw (eq-eqb c 0x29 here) refl

pub parameters_full : (n : ℕ) (t : List ℕ) → n ≡ 0 → (get_or t 0 0 ≡ 0x29 → ⊥) → after_parameters n t ≡ None
unfolding after_parameters
parameters_full n [] none apart = refl
parameters_full zero (c ∷ t) none apart = rw (ne_eqb c 0x29 apart) refl
parameters_full (suc n) (c ∷ t) none apart = absurd (omega arith)

pub parameters_go_on : (n : ℕ) (t r : List ℕ) → 0 < n → 0 < length t → (get_or t 0 0 ≡ 0x29 → ⊥) → after_type t ≡ Some r → after_parameters n t ≡ after_parameters (n - 1) r
unfolding after_parameters
parameters_go_on n [] r room some apart typed = absurd (omega arith)
parameters_go_on zero (c ∷ t) r room some apart typed = absurd (omega arith)
parameters_go_on (suc n) (c ∷ t) r room some apart typed =
    let less : suc n - 1 ≡ n = omega arith in
    rw (less, ne_eqb c 0x29 apart, typed) refl

pub parameters_stop : (n : ℕ) (t : List ℕ) → (get_or t 0 0 ≡ 0x29 → ⊥) → after_type t ≡ None → after_parameters n t ≡ None
unfolding after_parameters
parameters_stop n [] apart none = refl
parameters_stop zero (c ∷ t) apart none = rw (ne_eqb c 0x29 apart) refl
parameters_stop (suc n) (c ∷ t) apart none = rw (ne_eqb c 0x29 apart, none) refl

pub parameters_lack : (n : ℕ) (t : List ℕ) → t ≡ [] → after_parameters n t ≡ None
unfolding after_parameters
parameters_lack n [] e = refl
parameters_lack n (c ∷ t) e = absurd cc

-- ---- names

pub name_tested : (t : List ℕ) (r : Bool) → eqb (length t) 0 ≡ false → length t ≤ NAME_BYTES → r ≡ list_all is_name_byte t → r ≡ is_name t
name_tested t r some short all =
    let apart : length t ≡ 0 → ⊥ = eqb-false (length t) 0 some in
    let more : 0 < length t = omega arith in
    all ∙ sym (rw (lt-ltb 0 (length t) more, le-leb (length t) NAME_BYTES short) refl)
