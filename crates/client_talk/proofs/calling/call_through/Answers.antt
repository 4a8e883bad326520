use Rattle.std.proofs.Common.{[], ◌∷◌}
use Rattle.rmi_client.specs.Sessions.{link_at}
use Rattle.client_talk.specs.Calling.{looks_up_and_calls}
use Rattle.client_talk.specs.Sessions.{seen_of}
use Rattle.client_talk.specs.Talk.{linked}
use Rattle.client_talk.proofs.Stepping.{at_only}
use Rattle.client_talk.proofs.Joining.{begun_on, unbegun_on}
use Rattle.client_talk.proofs.Leaving.{put_back_first}
use Rattle.client_talk.proofs.calling.call_through.Goals as goal

pub returns-in-Ok-clause-talks : goal.returns-in-Ok-clause-talks
returns-in-Ok-clause-talks g c s b given stands =
    c.call_from.ensures.talks s b given (begun_on s 0 (linked b _ ∷ []) given _ c.args.link.host (looks_up_and_calls c.args.request.now) _ _ _ (at_only b _) stands c.in-Ok.ensures.begins)

pub returns-in-Err-clause-talks : goal.returns-in-Err-clause-talks
returns-in-Err-clause-talks g c s b given stands =
    let (at, refuses) = c.in-Err.ensures.refuses in
    put_back_first _ _ _ _ s b _ given _ (seen_of (link_at (g.D.In.Source.half c.in-Err.refusal.halves.source) (g.D.Out.Sink.half c.in-Err.refusal.halves.sink) at))
    c.in-Err.refusal.end _ c.put_back.ensures.end c.put_back.ensures.left
    (unbegun_on s 0 (linked b _ ∷ []) given _ c.args.link.host (looks_up_and_calls c.args.request.now) _ _ _ c.in-Err.refusal.end (at_only b _) stands refuses)
