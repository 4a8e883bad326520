use Rattle.std.proofs.Common.{◌||◌, ap, sym, ◌∙◌}
use Rattle.client_talk.proofs.Flagged.{flagged_none, flagged_more, true_or}
use Rattle.client_talk.proofs.contents.is_flagged_in.Goals as goal
use Rattle.client_talk.proofs.contents.is_flagged_in.Goals.{then-flagged, else-flagged}

pub loop-number-init : goal.loop-number-init
loop-number-init c = flagged_none c.args.graph.now.nodes

pub loop-number-preserved : goal.loop-number-preserved
loop-number-preserved c =
    flagged_more c.args.graph.now.nodes c.loop-number.number c.loop-number.flagged c.in_ok-here.here c.if-flagged.flagged c.loop-number.invariant c.in_ok-here.ensures
    (elim c.if-flagged.branch [
      | then-flagged w ↦ w.flagged-is ∙ true_or c.loop-number.flagged c.in_ok-here.here w.if-flagged.true
      | else-flagged w ↦ w.flagged-is ∙ ap (λ b. b || c.in_ok-here.here) (sym w.if-flagged.false)
    ])
