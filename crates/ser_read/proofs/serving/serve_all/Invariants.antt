use Rattle.std.proofs.Common.{◌≡◌, drop, None}
use Rattle.wire_io.specs.Pulled.{pull_state}
use Rattle.ser_read.specs.Wants.{serve, inside}
use Rattle.stream_grammar.specs.Reading.{short}
use Rattle.ser_read.proofs.Steps.{Leads}
use Rattle.ser_read.proofs.InOrder.{given_before}
use Rattle.ser_read.proofs.serving.serve_all.Given as goal

abbrev pub invariant-loop-want : goal.invariant-loop-want
invariant-loop-want g l =
    record {
      lent : l.pull.source.ghost_name ≡ l.fn.pull.source.ghost_name;
      kept : l.reader.refused ≡ None;
      leads : Leads (inside short) (pull_state g.S.Source.half l.fn.pull) (pull_state g.S.Source.half l.pull) (λ end. serve end l.wants l.fn.reader.stand) (λ end bs. given_before l.answers (serve end (drop l.want-index l.wants) l.reader.stand bs));
    }
