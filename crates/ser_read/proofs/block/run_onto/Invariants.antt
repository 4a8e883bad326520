use Rattle.std.proofs.Common.{◌≡◌}
use Rattle.wire_io.specs.Pulled.{pull_state}
use Rattle.ser_read.specs.Wants.{run_at, inside}
use Rattle.stream_grammar.specs.Reading.{short}
use Rattle.ser_read.proofs.Steps.{Leads}
use Rattle.ser_read.proofs.Runs.{behind}
use Rattle.ser_read.proofs.block.run_onto.Given as goal

abbrev pub invariant-loop-left : goal.invariant-loop-left
invariant-loop-left g l =
    record {
      lent : l.pull.source.ghost_name ≡ l.fn.pull.source.ghost_name;
      leads : Leads (inside short) (pull_state g.S.Source.half l.fn.pull) (pull_state g.S.Source.half l.pull) (λ end. run_at end l.n l.fn.block) (λ end bs. behind l.bytes (run_at end l.left l.block bs));
    }

abbrev pub decreases-loop-left : goal.decreases-loop-left
decreases-loop-left g l = l.left
