use Rattle.std.proofs.Common.{max, ap}
use Rattle.history.specs.Outline.{object_line}
use Rattle.space.specs.OutlineRows.{held_row}
use Rattle.space.proofs.TextLaws.{lines-more, lines-all}
use Rattle.space.proofs.texts.put_objects.Goals as goal

pub loop-object-preserved : goal.loop-object-preserved
loop-object-preserved c lease moment calls s =
    lines-more (λ x. object_line c.args.config.now (held_row lease (max c.args.now moment) calls x)) c.args.objects.now c.loop-object.object-index _ c.args.text.now c.loop-object.text c.put_object_line.new.out
    (object_line c.args.config.now c.row_of-row.result) c.loop-object-test.true (c.loop-object.invariant lease moment calls s) (c.in_ok-put_object_line.ensures {u = tt}).ok
    (ap (object_line c.args.config.now) (c.row_of-row.ensures lease moment calls s))

pub returns : goal.returns
returns c lease moment calls s =
    lines-all (λ x. object_line c.args.config.now (held_row lease (max c.args.now moment) calls x)) c.args.objects.now c.loop-object.object-index c.args.text.now c.loop-object.text
    c.loop-object-test.false (c.loop-object.invariant lease moment calls s)
