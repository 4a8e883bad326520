use Rattle.std.proofs.Common.{◌≡◌, ◌≤◌, length}
use Rattle.ser_values.specs.Shape.{fits_chain}
use Rattle.ser_values.proofs.loose.Loose.fits_chain.Given as goal

abbrev pub invariant-loop-i : goal.invariant-loop-i
invariant-loop-i l = record {
  within : l.i ≤ length l.parts;
  told : fits_chain l.self.nodes.now l.parts l.i l.slot ≡ fits_chain l.self.nodes.now l.parts (length l.parts) l.fn.class;
}

abbrev pub decreases-loop-i : goal.decreases-loop-i
decreases-loop-i l = l.i
