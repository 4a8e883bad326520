use Rattle.std.proofs.Common.{◌≡◌}
use Rattle.wire_io.specs.Pulled.{pull_state}
use Rattle.stream_grammar.specs.Reading.{Progress, many_at, short}
use Rattle.ser_read.proofs.Steps.{Leads}
use Rattle.ser_read.proofs.Loop.{front_of}
use Rattle.ser_read.proofs.numbers.numbers.Given as goal

abbrev pub invariant-loop-left : goal.invariant-loop-left
invariant-loop-left g l =
    record {
      lent : l.pull.source.ghost_name ≡ l.fn.pull.source.ghost_name;
      leads : (now : Progress) → Leads short (pull_state g.S.Source.half l.fn.pull) (pull_state g.S.Source.half l.pull) (λ end. many_at g.T.Number.read l.n now) (λ end bs. front_of l.numbers (many_at g.T.Number.read l.left now bs));
    }

abbrev pub decreases-loop-left : goal.decreases-loop-left
decreases-loop-left g l = l.left
