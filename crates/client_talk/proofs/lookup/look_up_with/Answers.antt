use Rattle.std.proofs.Common.{[], ◌∷◌, ap}
use Rattle.rmi_client.specs.Sessions.{link_of}
use Rattle.client_talk.specs.Sessions.{seen_of}
use Rattle.client_talk.specs.Talk.{linked}
use Rattle.client_talk.proofs.Stepping.{at_only}
use Rattle.client_talk.proofs.Leaving.{leaves_as}
use Rattle.client_talk.proofs.lookup.look_up_with.Goals as goal

pub returns-clause-talks : goal.returns-clause-talks
returns-clause-talks g c s b given given2 stands = (
  seen_of (link_of g.I.Source.half g.O.Sink.half c.look_up_on-result.new.session),
  leaves_as _ _ _ _ _ _ _ _ (ap g.I.Source.half c.close.ensures.source) (ap g.O.Sink.half c.close.ensures.sink) c.put_away.ensures.left,
  c.look_up_on-result.ensures.talks s 0 (linked b _ ∷ []) given given2 (at_only b _) stands,
)
