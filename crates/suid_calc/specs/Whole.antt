-- What is said of a whole outline.
use Rattle.std.specs.Prelude.{ℕ, ℤ, List}
use Rattle.suid_calc.specs.declared.outline.ClassOutline.{ClassOutline}
use Rattle.suid_calc.specs.Grammar.{IsOutline}
use Rattle.suid_calc.specs.Text.{suid_text, suid_of}

-- The text is the outline's, with its members' lines in any order.
abbrev pub Spells : List ℕ → ClassOutline → Type 0
Spells text o = IsOutline text o.modifiers o.name o.members

-- The text that is hashed.
abbrev pub text_of : ClassOutline → List ℕ
text_of o = suid_text o.modifiers o.name o.members

-- The number: the digest of that text, folded.
abbrev pub number_of : ClassOutline → ℤ
number_of o = suid_of o.modifiers o.name o.members
