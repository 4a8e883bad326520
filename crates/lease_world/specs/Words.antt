-- The words of a line, and what the first line of a script says.
use Rattle.std.specs.Prelude.{ℕ, List, [], ◌∷◌}
use Rattle.lease_world.specs.Script.{SpellsWorld, WorldWords}
use Rattle.lease_world.specs.declared.reading.WorldLine.{WorldLine}
use Rattle.lease_world.specs.declared.words.Words.{Words}
use Rattle.lease_world.specs.declared.words.Words.TheVariants.{One, Two, Three, Four}

abbrev pub words_in : Words → List (List ℕ)
words_in (One a) = a.now ∷ []
words_in (Two a b) = a.now ∷ b.now ∷ []
words_in (Three a b c) = a.now ∷ b.now ∷ c.now ∷ []
words_in (Four a b c d) = a.now ∷ b.now ∷ c.now ∷ d.now ∷ []

-- The words spell the first line that says this.
abbrev pub AreWorldWords : WorldLine → List (List ℕ) → Type 0
AreWorldWords first words = WorldWords first.lease_ms first.ack_ms first.clients words

-- The text spells the first line that says this.
abbrev pub IsWorldLine : WorldLine → List ℕ → Type 0
IsWorldLine first text = SpellsWorld first.lease_ms first.ack_ms first.clients text
