use Rattle.std.proofs.Common.{sym, subst, ◌∙◌, List}
use Rattle.std.specs.Prelude.{Option}
use Rattle.space.specs.declared.asked.Asked.{Asked}
use Rattle.conn_server.specs.Quiet.{HasTold, HaveTold}
use Rattle.conn_server.proofs.Quiet.{told_none}
use Rattle.conn_server.proofs.quiet_second.own_hand.Goals as goal

pub returns-in-Some-clause-has : goal.returns-in-Some-clause-has
returns-in-Some-clause-has g c entries told =
    subst (λ (o : Option _). HaveTold g.G.Hand.Worker.shown g.G.Hand.Worker.moves entries o) (sym c.take.ensures.value ∙ c.in-Some.is) told

pub returns-in-Ok-clause-has : goal.returns-in-Ok-clause-has
returns-in-Ok-clause-has g c entries told =
    let none = subst (λ (o : Option _). HaveTold g.G.Hand.Worker.shown g.G.Hand.Worker.moves entries o) (sym c.take.ensures.value ∙ c.in-None.is) told in
    let made = c.in-Ok.ensures in
    subst (λ (l : List Asked). HasTold g.G.Hand.Worker.shown g.G.Hand.Worker.moves l c.in-Ok.hand) (sym none)
    (told_none g.G.Hand.Worker.shown g.G.Hand.Worker.moves c.in-Ok.hand made.number made.calls made.untold made.uncounted)
