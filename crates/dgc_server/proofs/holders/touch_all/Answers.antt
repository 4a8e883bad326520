use Rattle.std.proofs.Common.{◌∙◌}
use Rattle.dgc_server.proofs.HolderLaws.{no_id, there-more}
use Rattle.dgc_server.proofs.holders.touch_all.Goals as goal

pub loop-object-preserved : goal.loop-object-preserved
loop-object-preserved c = record {
  same = λ w o. c.in_ok-touch.ensures.same w o ∙ c.loop-object.invariant.same w o;
  there = there-more c.args.objects.now c.loop-object.counts c.touch.new.counts c.loop-object.object-index no_id c.loop-object-test.true c.in_ok-touch.ensures.kept c.in_ok-touch.ensures.ok c.loop-object.invariant.there;
}
