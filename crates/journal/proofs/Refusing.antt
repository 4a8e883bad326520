-- Where words spell nothing because the first does not, or because those after it do not.
use Rattle.std.proofs.Common.{◌≡◌, ℕ, List, [], ◌∷◌, refl, ap, subst, sym, Result, Ok, Err, Option, Some, None, IfSome, IsSome, ok_or}
use Rattle.journal.specs.declared.unread.Unread.{Unread}
use Rattle.journal.specs.Reading.{Finds, Reads}
use Rattle.journal.specs.Grammar.{◌▸◌}

-- where no value of the first word is there, no values of all words are
pub first_fails : {X : Type 0} (Spells : X → List ℕ → Type 0) (Others : List (List ℕ) → Type 0) (words : List (List ℕ))
    → ((p : X × List (List ℕ)) → (Spells p.0 ▸ (λ rest. rest ≡ p.1)) words → ⊥) → (x : X) → (Spells x ▸ Others) words → ⊥
first_fails Spells Others [] none x spells = spells
first_fails Spells Others (word ∷ words) none x spells = none (x, words) (spells.0, refl)

-- where the words after the first are not so, all words are not
pub rest_fails : (Was Is : List ℕ → Type 0) (Others : List (List ℕ) → Type 0) (words rest : List (List ℕ))
    → (Was ▸ (λ r. r ≡ rest)) words → (Others rest → ⊥) → (Is ▸ Others) words → ⊥
rest_fails Was Is Others [] rest was none spells = spells
rest_fails Was Is Others (word ∷ words) rest was none spells = none (subst Others was.1 spells.1)

-- the first word, and words after it that are so
pub both_spell : (Is : List ℕ → Type 0) (Others : List (List ℕ) → Type 0) (words rest : List (List ℕ))
    → (Is ▸ (λ r. r ≡ rest)) words → Others rest → (Is ▸ Others) words
both_spell Is Others [] rest was others = was
both_spell Is Others (word ∷ words) rest was others = (was.0, subst Others (sym was.1) others)

-- What is read of one relation is read of another that says the same there.
pub reads_same : {X Y : Type 0} (S T : X → Y → Type 0) (r : Result X Unread) (y : Y) → ((x : X) → S x y → T x y) → ((x : X) → T x y → S x y) → Reads S r y → Reads T r y
reads_same S T (Ok x) y to from reads = to x reads
reads_same S T (Err e) y to from reads = λ is x spells. reads is x (from x spells)

-- `ok_or` of a value that is there gives it.
pub some_is_ok : {X E : Type 0} (o : Option X) (e : E) (x : X) → IfSome o (λ y. y ≡ x) → IsSome o → ok_or o e ≡ Ok x
some_is_ok (Some y) e x is some = ap Ok is
some_is_ok None e x is some = cc

-- What is found of one relation in one text is found of another in another, where they say the same.
pub finds_same : {X Y Z : Type 0} (S : X → Y → Type 0) (T : X → Z → Type 0) (o : Option X) (y : Y) (z : Z)
    → ((x : X) → S x y → T x z) → ((x : X) → T x z → S x y) → Finds S o y → Finds T o z
finds_same S T (Some x) y z to from found = to x found
finds_same S T None y z to from found = λ x spells. found x (from x spells)
