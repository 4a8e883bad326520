use Rattle.std.proofs.Common.{◌≡◌, take, length}
use Rattle.wire_io.specs.Pulled.{pull_state, Takes}
use Rattle.jrmp_frames.proofs.uid.read_uid.Given as goal

-- So many bytes were taken.
abbrev pub invariant-loop-i : goal.invariant-loop-i
invariant-loop-i g l =
    record {
      long : length l.bytes ≡ 14;
      takes : Takes (pull_state g.S.Source.half l.initial.pull) (pull_state g.S.Source.half l.pull) (take l.i l.bytes);
      lent : l.pull.source.ghost_name ≡ l.initial.pull.source.ghost_name;
    }
