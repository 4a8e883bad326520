-- What a lock that keeps recent events hands out.
use Rattle.std.specs.Prelude.{◌≡◌, ◌≤◌, ℕ, ◌++◌, length, take}
use Rattle.turn_lock.specs.Rule.{Events}

-- These are the events of a history from a place on.
abbrev pub IsRest : ℕ → Events → Events → Type 0
IsRest from h part = (from ≤ length h) × (h ≡ take from h ++ part)
