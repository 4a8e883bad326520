use Rattle.client_talk.proofs.Leaving.{left_behind}
use Rattle.client_talk.proofs.opening.put_away.Goals as goal

pub returns-clause-left : goal.returns-clause-left
returns-clause-left g c = left_behind g.I.Source.half g.O.Sink.half _ _ _ _ _ c.push_reserved.ensures.items c.shut.ensures c.shut-2.ensures
