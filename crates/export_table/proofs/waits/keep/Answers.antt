use Rattle.std.proofs.Common.{◌<◌, length, sym, ◌∙◌, arith}
use Rattle.std.proofs.lemmas.List.{get_or_default, length-set}
use Rattle.std.proofs.lemmas.List.Filters.{FiltersInPlace-more_no, FiltersInPlace-more_set}
use Rattle.export_table.proofs.waits.keep.Goals as goal
use Rattle.export_table.proofs.waits.keep.Goals.{then-has, else-has}

pub loop-i-preserved : goal.loop-i-preserved
loop-i-preserved c =
    let within = c.loop-i-test.true in let all = c.loop-i.auto.i-end in let long = c.loop-i.invariant.long in
    let there : c.loop-i.i < length c.loop-i.waits = omega arith in
    elim c.if-has.branch [
      | then-has w ↦ rw (w.waits-is, w.kept-is) record {
        front = FiltersInPlace-more_set c.loop-i.invariant.front there (sym c.has.ensures ∙ w.if-has.true) (get_or_default c.loop-i.waits c.loop-i.i _ _ there);
        long = length-set c.loop-i.waits c.loop-i.kept _ ∙ c.loop-i.invariant.long;
      }
      | else-has w ↦ rw (w.waits-is, w.kept-is) record {
        front = FiltersInPlace-more_no c.loop-i.invariant.front there (sym c.has.ensures ∙ w.if-has.false) (get_or_default c.loop-i.waits c.loop-i.i _ _ there);
        long = c.loop-i.invariant.long;
      }
    ]
