use Rattle.std.proofs.Common.{◌≤◌, ◌-◌, sym, ◌∙◌, drop, length, arith, length-drop}
use Rattle.class_desc.proofs.Fields.{ordered_end}
use Rattle.class_desc.proofs.check.are_ordered.Goals as goal

pub returns : goal.returns
returns c =
    let d = length-drop (c.loop-i.i - 1) c.args.fields.now in
    let short : length (drop (c.loop-i.i - 1) c.args.fields.now) ≤ 1 = omega (arith, d) in
    sym (ordered_end _ short) ∙ c.loop-i.invariant.told
