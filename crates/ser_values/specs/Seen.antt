-- What is kept of a walk: marks say of each node what two lists say, which nodes have handles and which descriptions are unread.
use Rattle.std.specs.Prelude.{◌≡◌, ℕ, ◌<◌, Bool, true, false, List, [], ◌∷◌, length, Some, slice_get, if◌then◌else◌}
use Rattle.ser_values.specs.declared.seen.Mark.{Mark}
use Rattle.ser_values.specs.declared.seen.Mark.TheVariants.{New, Unread, Done}
use Rattle.ser_values.specs.declared.seen.Seen.{Seen}
use Rattle.ser_values.specs.Node.{has}

abbrev pub mark_of : Bool → Bool → Mark
mark_of unread seen = if unread then Unread else (if seen then Done else New)

-- no number stands twice
unfoldable pub Once : List ℕ → Type 0
Once [] = Unit {0}
Once (x ∷ xs) = (has xs x ≡ false) × Once xs

pub record Kept (marks : List Mark) (order unread : List ℕ) : Type 0 where
  pub marked : (j : ℕ) → j < length marks → slice_get marks j ≡ Some (mark_of (has unread j) (has order j))
  pub among : (j : ℕ) → has unread j ≡ true → has order j ≡ true
  pub within : (j : ℕ) → has order j ≡ true → j < length marks
  pub once : Once unread

abbrev pub IsKept : Seen → Type 0
IsKept s = Kept s.marks.items s.order.items s.unread.items
