use Rattle.ser_values.proofs.Keeps.{kept_new, all_new}
use Rattle.ser_values.proofs.seen.Seen.new.Goals as goal

pub returns-clause-kept : goal.returns-clause-kept
returns-clause-kept c =
    let same = c.in_ok-vec.ensures.items_if_clones_equal (λ y h. h) in
    rw (c.new.ensures.items, c.new-2.ensures.items) (rw same (kept_new _ (all_new c.args.count)))
