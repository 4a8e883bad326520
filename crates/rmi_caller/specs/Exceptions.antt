-- The parts of an exception's text: the full name of its class, and, where it has a message, a colon, a space and that.
use Rattle.std.specs.Prelude.{ℕ, suc, ◌+◌, nat_eq, if◌then◌else◌, List, [], ◌∷◌, take, drop}

-- How many units stand before the first colon; all where there is none.
unfoldable pub colon_at : List ℕ → ℕ
colon_at [] = 0
colon_at (u ∷ us) = if nat_eq u 0x3A then 0 else suc (colon_at us)

-- the class: what stands before the first colon
abbrev pub class_of : List ℕ → List ℕ
class_of text = take (colon_at text) text

-- the message: what stands behind the first colon and a space; nothing where there is none
abbrev pub message_of : List ℕ → List ℕ
message_of text = drop (colon_at text + 2) text
