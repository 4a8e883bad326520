-- The recent events that a lock keeps beside its space.
use Rattle.std.specs.Prelude.{Option, Some, None}
use Rattle.turn_lock.specs.declared.recent.Recent.{Recent}
use Rattle.turn_lock.specs.Recent.{IsRest}
use Rattle.turn_lock.specs.Rule.{Events}

-- They are those of the space's history from their place on, where they are kept.
abbrev pub KeepsRecent : Events → Option Recent → Type 0
KeepsRecent events None = Unit {0}
KeepsRecent events (Some recent) = IsRest recent.from events recent.events.items
