use Rattle.wire_io.proofs.InMemory.{gave_moment}
use Rattle.wire_io.proofs.mem.MemClockClock.now.Goals as goal

pub returns-clause-given : goal.returns-clause-given
returns-clause-given c = rw (← c.self.view_is)
    (gave_moment _ c.self.inside.calls _ _ (rw c.as_slice.ensures at c.moment_for-moment.ensures) c.saturating_add-self-inside.ensures)
