use Rattle.std.proofs.Common.{◌≡◌, ◌-◌, length}
use Rattle.wire_io.specs.Pulled.{pull_state}
use Rattle.stream_grammar.specs.Reading.{Progress, many_at, plain, short_at, short}
use Rattle.ser_read.specs.Tables.{now_of}
use Rattle.ser_read.proofs.Steps.{Leads}
use Rattle.ser_read.proofs.Loop.{front_of}
use Rattle.ser_read.proofs.pieces.names.Given as goal

abbrev pub invariant-loop : goal.invariant-loop
invariant-loop g l =
    record {
      lent : l.pull.source.ghost_name ≡ l.fn.pull.source.ghost_name;
      leads : (now : Progress) → Leads short (pull_state g.S.Source.half l.fn.pull) (pull_state g.S.Source.half l.pull) (λ end. many_at (plain (short_at end)) l.n now) (λ end bs. front_of l.names (many_at (plain (short_at end)) (l.n - l.counter) now bs));
    }
