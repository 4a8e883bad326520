use Rattle.std.proofs.Common.{◌≡◌, ◌*◌, ◌++◌}
use Rattle.ser_read.specs.NumberRuns.{run_of}
use Rattle.ser_read.proofs.numbers.Number.append_block.Given as goal

abbrev pub invariant-loop : goal.invariant-loop
invariant-loop g l =
    record {
      here : l.at ≡ l.counter * g.Self.Number.WIDTH;
      appended : l.numbers ≡ l.fn.numbers ++ run_of g.Self.Number.WIDTH g.Self.Number.value l.counter l.bytes;
    }
