use Rattle.std.proofs.Common.{◌≡◌, ◌<◌, ◌-◌, drop, length}
use Rattle.class_desc.specs.ClassDesc.{are_ordered}
use Rattle.class_desc.proofs.check.are_ordered.Given as goal

abbrev pub invariant-loop-i : goal.invariant-loop-i
invariant-loop-i l = record {
  some : 0 < l.i;
  told : are_ordered (drop (l.i - 1) l.fields) ≡ are_ordered l.fields;
}

abbrev pub decreases-loop-i : goal.decreases-loop-i
decreases-loop-i l = length l.fields - l.i
