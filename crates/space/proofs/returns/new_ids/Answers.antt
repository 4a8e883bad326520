use Rattle.std.proofs.Common.{◌+◌, ◌++◌, ◌∷◌, [], drop, ap, ◌∙◌}
use Rattle.space.specs.Acts.{new_ids}
use Rattle.space.proofs.LoopLaws.{ids-more}
use Rattle.space.proofs.returns.new_ids.Goals as goal

pub loop-i-preserved : goal.loop-i-preserved
loop-i-preserved c =
    ap (λ l. l ++ new_ids c.args.space (c.args.k + (c.loop-i.i + 1)) (drop (c.loop-i.i + 1) c.args.made.now)) (c.in_ok-push.ensures.items ∙ ap (λ x. c.loop-i.ids.items ++ x ∷ []) c.id_at.ensures)
    ∙ ids-more c.args.space c.args.k c.loop-i.i c.args.made.now c.loop-i.ids.items (new_ids c.args.space c.args.k c.args.made.now) c.loop-i-test.true c.loop-i.invariant
