use Rattle.std.proofs.Common.{◌≡◌, ◌≤◌, ◌-◌, length, take}
use Rattle.wire_io.specs.Pulled.{pull_state}
use Rattle.ser_read.specs.Wants.{run_at, inside}
use Rattle.stream_grammar.specs.Reading.{short}
use Rattle.ser_read.proofs.Steps.{Leads}
use Rattle.ser_read.proofs.Runs.{behind}
use Rattle.ser_read.proofs.block.run_into.Given as goal

abbrev pub invariant-loop-done : goal.invariant-loop-done
invariant-loop-done g l =
    record {
      lent : l.pull.source.ghost_name ≡ l.fn.pull.source.ghost_name;
      within : l.done ≤ length l.buf;
      long : length l.buf ≡ length l.fn.buf;
      leads : Leads (inside short) (pull_state g.S.Source.half l.fn.pull) (pull_state g.S.Source.half l.pull) (λ end. run_at end (length l.fn.buf) l.fn.block) (λ end bs. behind (take l.done l.buf) (run_at end (length l.buf - l.done) l.block bs));
    }

abbrev pub decreases-loop-done : goal.decreases-loop-done
decreases-loop-done g l = length l.buf - l.done
