use Rattle.std.proofs.Common.{[], ◌∷◌}
use Rattle.rmi_client.specs.Sessions.{link_at}
use Rattle.client_talk.specs.Sessions.{seen_of}
use Rattle.client_talk.specs.Talk.{linked}
use Rattle.client_talk.specs.Commands.{lists}
use Rattle.client_talk.proofs.Stepping.{at_only}
use Rattle.client_talk.proofs.Joining.{begun_on, unbegun_on}
use Rattle.client_talk.proofs.Leaving.{put_back_on}
use Rattle.client_talk.proofs.listing.list_over.Goals as goal

pub returns-in-Ok-clause-talks : goal.returns-in-Ok-clause-talks
returns-in-Ok-clause-talks g c s b given given2 stands =
    c.list_with.ensures.talks s b given given2
    (begun_on s 0 (linked b _ ∷ []) given given2 c.args.link.host (lists 0) _ _ _ (at_only b _) stands c.in-Ok.ensures.begins)

pub returns-in-Err-clause-talks : goal.returns-in-Err-clause-talks
returns-in-Err-clause-talks g c s b given given2 stands =
    let (at, refuses) = c.in-Err.ensures.refuses in
    put_back_on _ _ _ _ s b given given2 (seen_of (link_at (g.I.Source.half c.in-Err.refusal.halves.source) (g.O.Sink.half c.in-Err.refusal.halves.sink) at))
    c.in-Err.refusal.end _ c.put_back.ensures.end c.put_back.ensures.left
    (unbegun_on s 0 (linked b _ ∷ []) given given2 c.args.link.host (lists 0) _ _ _ c.in-Err.refusal.end (at_only b _) stands refuses)
