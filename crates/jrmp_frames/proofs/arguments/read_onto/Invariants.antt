use Rattle.std.proofs.Common.{◌≡◌, None}
use Rattle.wire_io.specs.Pulled.{pull_state}
use Rattle.jrmp_frames.proofs.Each.{Comes}
use Rattle.jrmp_frames.proofs.arguments.read_onto.Given as goal

abbrev pub invariant-loop-code : goal.invariant-loop-code
invariant-loop-code g l =
    record {
      lent : l.pull.source.ghost_name ≡ l.fn.pull.source.ghost_name;
      kept : l.reader.refused ≡ None;
      comes : Comes (pull_state g.S.Source.half l.fn.pull) (pull_state g.S.Source.half l.pull) l.params l.code-index l.fn.reader.stand l.reader.stand l.args;
    }
