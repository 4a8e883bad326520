use Rattle.std.proofs.Common.{◌≡◌}
use Rattle.wire_io.specs.Pulled.{pull_state}
use Rattle.stream_grammar.specs.Reading.{take_at, short}
use Rattle.ser_read.proofs.Steps.{Leads}
use Rattle.ser_read.proofs.Bytes.{onto}
use Rattle.ser_read.proofs.pulled.take.Given as goal

abbrev pub invariant-loop-left : goal.invariant-loop-left
invariant-loop-left g l =
    record {
      lent : l.pull.source.ghost_name ≡ l.fn.pull.source.ghost_name;
      leads : Leads short (pull_state g.S.Source.half l.fn.pull) (pull_state g.S.Source.half l.pull) (λ end. take_at l.n) (λ end bs. onto l.bytes (take_at l.left bs));
    }

abbrev pub decreases-loop-left : goal.decreases-loop-left
decreases-loop-left g l = l.left
