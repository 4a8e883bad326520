use Rattle.std.proofs.Common.{◌≡◌, ◌-◌}
use Rattle.wire_io.specs.Pulled.{pull_state}
use Rattle.ser_read.specs.Heads.{head_at}
use Rattle.stream_grammar.specs.Reading.{short}
use Rattle.ser_read.proofs.Steps.{Leads}
use Rattle.ser_read.proofs.block.next_head.Given as goal

abbrev pub invariant-loop-head : goal.invariant-loop-head
invariant-loop-head g l =
    record {
      lent : l.pull.source.ghost_name ≡ l.fn.pull.source.ghost_name;
      leads : Leads short (pull_state g.S.Source.half l.fn.pull) (pull_state g.S.Source.half l.pull) (λ end. head_at end) (λ end. head_at end);
    }

abbrev pub decreases-loop-head : goal.decreases-loop-head
decreases-loop-head g l = l.pull.stop - l.pull.at
