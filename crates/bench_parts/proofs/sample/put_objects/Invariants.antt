use Rattle.std.proofs.Common.{◌≡◌, ◌++◌}
use Rattle.bench_parts.specs.Sample.{objects}
use Rattle.bench_parts.proofs.sample.put_objects.Given as goal

abbrev pub invariant-loop-i : goal.invariant-loop-i
invariant-loop-i l = l.builder ≡ l.initial.builder ++ objects l.i
