-- What holds of outlines' texts.
use Rattle.std.specs.Prelude.{◌≡◌, ℕ, ℤ, false, nat_eq, List, [], ◌∷◌, ◌++◌}
use Rattle.std.specs.List.{AllByRecursion, flat_map}
use Rattle.std.specs.List.Sorted.{IsPermutation}
use Rattle.suid_calc.specs.declared.outline.Member.{Member}
use Rattle.suid_calc.specs.declared.outline.ClassOutline.{ClassOutline}
use Rattle.suid_calc.specs.Grammar.{IsOutline}
use Rattle.suid_calc.specs.Whole.{Spells, number_of}

-- Lines, each with its LF.
abbrev pub ended : List (List ℕ) → List ℕ
ended lines = flat_map (λ l. l ++ 0x0A ∷ []) lines

-- The line has no LF in it.
abbrev pub IsOneLine : List ℕ → Type 0
IsOneLine line = AllByRecursion (λ b. nat_eq b 0x0A ≡ false) line

-- The other text has the same first line, and the same lines after it in another order.
pub record IsReordered (text other : List ℕ) : Type 0 where
  pub first : List ℕ
  pub lines : List (List ℕ)
  pub others : List (List ℕ)
  pub one : IsOneLine first
  pub each : AllByRecursion IsOneLine lines
  pub text_is : text ≡ first ++ 0x0A ∷ ended lines
  pub other_is : other ≡ first ++ 0x0A ∷ ended others
  pub same : IsPermutation lines others

-- The text is some class's outline.
abbrev pub IsOutlineText : List ℕ → Type 0
IsOutlineText text = (modifiers : ℕ) × ((name : List ℕ) × ((members : List Member) × IsOutline text modifiers name members))

-- The text is the outline of a class with this number.
abbrev pub HasNumber : List ℕ → ℤ → Type 0
HasNumber text number = (outline : ClassOutline) × Spells text outline × (number ≡ number_of outline)
