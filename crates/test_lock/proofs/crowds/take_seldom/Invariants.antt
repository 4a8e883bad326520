use Rattle.std.specs.Prelude.{◌≡◌}
use Rattle.turn_lock.specs.Handles.{IsRootOf}
use Rattle.test_lock.proofs.crowds.take_seldom.Given as goal

abbrev pub invariant-loop : goal.invariant-loop
invariant-loop g l = record {
  own : IsRootOf l.lock l.root;
  out : l.root.out ≡ l.fn.root.out;
}
