-- How a call of a hand changes the numbers that it shares with other hands.
use Rattle.std.specs.Prelude.{Option, Some, None}
use Rattle.call_dispatch.specs.Acts.{Call}
use Rattle.sample_app.specs.Does.{Moves}
use Rattle.sample_app.specs.declared.worker.CountersChange.{CountersChange}

-- The last change of the numbers is that of this call: between what it found and what it left no other hand changed them.
abbrev pub IsLastChange : Option CountersChange → Call → Type 0
IsLastChange None call = ⊥
IsLastChange (Some change) call = Moves change.before.value call change.after.value
