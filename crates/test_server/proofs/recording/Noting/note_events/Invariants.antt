use Rattle.std.proofs.Common.{◌≡◌}
use Rattle.test_server.proofs.recording.Noting.note_events.Given as goal

abbrev pub invariant-loop-event : goal.invariant-loop-event
invariant-loop-event g l = l.self.inner ≡ l.fn.self.inner
