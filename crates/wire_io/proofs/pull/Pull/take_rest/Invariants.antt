use Rattle.std.proofs.Common.{◌≡◌, ◌≤◌, ◌-◌, length, take}
use Rattle.wire_io.specs.Pulled.{PullState, pull_state, Takes}
use Rattle.wire_io.proofs.pull.Pull.take_rest.Given as goal

abbrev pub invariant-loop-done : goal.invariant-loop-done
invariant-loop-done g l = (l.done ≤ length l.buf)
    × (length l.buf ≡ length l.initial.buf)
    × ((p : PullState) → Takes p (pull_state g.S.Source.half l.initial.self) (take l.from l.initial.buf) → Takes p (pull_state g.S.Source.half l.self) (take l.done l.buf))
    × ((g.S.Source.half l.self.source.now).faults ≡ (g.S.Source.half l.initial.self.source.now).faults)
    × (l.self.source.ghost_name ≡ l.initial.self.source.ghost_name)

abbrev pub decreases-loop-done : goal.decreases-loop-done
decreases-loop-done g l = length l.buf - l.done
