use Rattle.std.proofs.Common.{◌≢◌, ◌<◌, ◌≤◌, ◌-◌, ℕ, length, slice_get, Some}
use Rattle.ser_values.specs.declared.node.Node.TheVariants.{Text}
use Rattle.ser_values.proofs.builder.find_text.Given as goal

abbrev pub invariant-loop-i : goal.invariant-loop-i
invariant-loop-i l = record {
  within : l.i ≤ length l.nodes;
  none : (k : ℕ) → k < l.i → slice_get l.nodes k ≢ Some (Text l.units);
}

abbrev pub decreases-loop-i : goal.decreases-loop-i
decreases-loop-i l = length l.nodes - l.i
