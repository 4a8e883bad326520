use Rattle.std.proofs.Common.{◌≡◌, take}
use Rattle.wire_io.specs.Pulled.{pull_state, Takes}
use Rattle.jrmp_frames.specs.Frames.{header_start}
use Rattle.jrmp_frames.proofs.header.read_header.Given as goal

-- So much of the header's start was taken.
abbrev pub invariant-loop-wanted : goal.invariant-loop-wanted
invariant-loop-wanted g l =
    Takes (pull_state g.S.Source.half l.initial.pull) (pull_state g.S.Source.half l.pull) (take l.wanted-index header_start)
    × (l.pull.source.ghost_name ≡ l.initial.pull.source.ghost_name)
