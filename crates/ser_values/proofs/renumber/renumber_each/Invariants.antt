use Rattle.std.proofs.Common.{◌≡◌, ◌≤◌, ◌-◌, length}
use Rattle.ser_values.specs.Renumber.{place_at}
use Rattle.ser_values.proofs.InPlace.{partly}
use Rattle.ser_values.proofs.renumber.renumber_each.Given as goal

abbrev pub invariant-loop-i : goal.invariant-loop-i
invariant-loop-i g l = record {
  within : l.i ≤ length l.values;
  told : l.values ≡ partly (g.T.Renumber.by (place_at l.places)) l.initial.values l.i;
}

abbrev pub decreases-loop-i : goal.decreases-loop-i
decreases-loop-i g l = length l.values - l.i
