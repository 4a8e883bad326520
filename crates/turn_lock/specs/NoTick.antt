-- When a Tick is needed, and when none is.
use Rattle.std.specs.Prelude.{◌≡◌, ◌⊎◌, ◌<◌, ℕ, [], length}
use Rattle.space.specs.Idle.{SomethingEnds, TickChangesNothing, untold_of}
use Rattle.turn_lock.specs.declared.view.View.{View}

-- By the history that a pass has seen, a Tick at this moment would change nothing, and tell nothing as gone.
abbrev pub NeedsNoTick : View → ℕ → Type 0
NeedsNoTick v moment = TickChangesNothing v.config v.seen moment × (untold_of v.config v.seen ≡ [])

-- By the history that a pass has seen, a lease or a wait has ended at this moment, or objects are still to be reported as gone.
abbrev pub NeedsTick : View → ℕ → Type 0
NeedsTick v moment = SomethingEnds v.config v.seen moment ⊎ (0 < length (untold_of v.config v.seen))
