use Rattle.std.proofs.Common.{[], ◌∷◌, ap}
use Rattle.object_ids.specs.Bytes.{bytes_of_uid}
use Rattle.rmi_client.specs.Sessions.{link_at, link_of}
use Rattle.client_talk.specs.Calling.{lessee_of, holds_and_calls}
use Rattle.client_talk.specs.Sessions.{seen_of}
use Rattle.client_talk.specs.Talk.{linked}
use Rattle.client_talk.proofs.Stepping.{at_second}
use Rattle.client_talk.proofs.Joining.{begun_on, unbegun_on}
use Rattle.client_talk.proofs.Leaving.{leaves_as, put_back_second}
use Rattle.client_talk.proofs.calling.call_over.Goals as goal

pub returns-in-Ok-clause-talks : goal.returns-in-Ok-clause-talks
returns-in-Ok-clause-talks g c s b0 b1 given stands =
    c.call_between.ensures.talks s b0 b1 given
    (begun_on s 1 (linked b0 _ ∷ linked b1 _ ∷ []) given _ c.args.link.host (holds_and_calls (lessee_of c.args.request.now.caller) c.args.request.now.method (bytes_of_uid c.args.found.uid) c.args.found.reference) _ _ _
    (at_second b0 b1 _ _) stands c.in-Ok.ensures.begins)

pub returns-in-Err-clause-talks : goal.returns-in-Err-clause-talks
returns-in-Err-clause-talks g c s b0 b1 given stands =
    let (at, refuses) = c.in-Err.ensures.refuses in
    put_back_second _ _ _ _ _ s b0 b1 given _ (seen_of (link_of g.I.Source.half g.O.Sink.half c.args.found.session))
    (seen_of (link_at (g.I.Source.half c.in-Err.refusal.halves.source) (g.O.Sink.half c.in-Err.refusal.halves.sink) at))
    c.in-Err.refusal.end _ c.put_back.ensures.end
    (leaves_as _ _ _ _ _ _ _ _ (ap g.I.Source.half c.close.ensures.source) (ap g.O.Sink.half c.close.ensures.sink) c.put_away.ensures.left) c.put_back.ensures.left
    (unbegun_on s 1 (linked b0 _ ∷ linked b1 _ ∷ []) given _ c.args.link.host (holds_and_calls (lessee_of c.args.request.now.caller) c.args.request.now.method (bytes_of_uid c.args.found.uid) c.args.found.reference) _ _ _ c.in-Err.refusal.end
    (at_second b0 b1 _ _) stands refuses)
