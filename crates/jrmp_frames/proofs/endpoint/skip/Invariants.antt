use Rattle.std.proofs.Common.{◌≡◌, List, ℕ, length}
use Rattle.wire_io.specs.Pulled.{pull_state, Takes}
use Rattle.jrmp_frames.proofs.endpoint.skip.Given as goal

-- So many bytes were taken.
abbrev pub invariant-loop-skipped : goal.invariant-loop-skipped
invariant-loop-skipped g l =
    ((bytes : List ℕ) × (length bytes ≡ l._skipped)
    × Takes (pull_state g.S.Source.half l.initial.pull) (pull_state g.S.Source.half l.pull) bytes)
    × (l.pull.source.ghost_name ≡ l.initial.pull.source.ghost_name)
