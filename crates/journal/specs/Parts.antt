-- The parts of bytes between separators.
use Rattle.std.specs.Prelude.{◌≡◌, ℕ, false, List, [], Option, Some, None, ◌==◌}
use Rattle.std.specs.List.{slice_split, AllByRecursion}
use Rattle.std.specs.Borrow.{Bor}

-- The parts of bytes between separators: one more than there are separators.
abbrev pub parts : ℕ → List ℕ → List (List ℕ)
parts separator bytes = slice_split (λ b. b == separator) bytes

-- Those of what is left, if anything is.
abbrev pub parts_left : ℕ → Option (Bor (List ℕ)) → List (List ℕ)
parts_left separator None = []
parts_left separator (Some rest) = parts separator rest.now

-- The byte is not among these.
abbrev pub Lacks : ℕ → List ℕ → Type 0
Lacks byte bytes = AllByRecursion (λ b. (b == byte) ≡ false) bytes
