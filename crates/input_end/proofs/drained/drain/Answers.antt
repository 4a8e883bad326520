use Rattle.std.proofs.Common.{◌∙◌}
use Rattle.input_end.proofs.Draining.{steps_on}
use Rattle.input_end.proofs.drained.drain.Goals as goal

pub loop-preserved : goal.loop-preserved
loop-preserved g c =
    let half = g.S.Source.half in
    let answered = g.W.Watch.answered in
    let so = c.loop.invariant in
    let step = c.in-Dropped.ensures in (
      steps_on (answered c.loop.watch) (answered c.drop_ready.new.watch) (half c.args.source.now) (half c.loop.source) (half c.drop_ready.new.source) c.loop.counter so.0 step.steps,
      step.watches ∙ so.1,
      (λ none. let no = (step.unwatched (so.1 ∙ none)).0 in absurd (cc)),
    )
