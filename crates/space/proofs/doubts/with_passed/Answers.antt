use Rattle.std.proofs.Common.{ap, ◌++◌, ◌∙◌}
use Rattle.space.proofs.Doubting.{in-doubt}
use Rattle.space.proofs.doubts.with_passed.Goals as goal

pub returns : goal.returns
returns c =
    in-doubt c.args.tables.now.leases c.args.now c.args.tables.now.exports.waits c.args.taken.items
    c.in_ok-freed.freed.items c.in_ok-ended.ended.items c.in_ok-objects.objects.items c.in_ok-freed.ensures.whole c.in_ok-ended.ensures
    (c.in_ok-objects.ensures ∙ ap (λ l. l ++ c.args.taken.items) c.in_ok-passed.ensures)
