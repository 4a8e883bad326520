use Rattle.std.proofs.Common.{ap}
use Rattle.object_ids.specs.Bytes.{bytes_of_uid}
use Rattle.rmi_client.specs.Sessions.{link_of}
use Rattle.client_talk.specs.Calling.{lessee_of, holds_and_calls, place_of_ref}
use Rattle.client_talk.specs.Commands.{greets}
use Rattle.client_talk.specs.Sessions.{seen_of}
use Rattle.client_talk.proofs.Leaving.{dialed_second, undialed_second, leaves_as}
use Rattle.client_talk.proofs.calling.call_found.Goals as goal

pub returns-in-Ok-clause-talks : goal.returns-in-Ok-clause-talks
returns-in-Ok-clause-talks g c s b given stands =
    dialed_second g.D.In.Source.half g.D.Out.Sink.half g.D.Ticks.Clock.given _ _ (place_of_ref c.args.found.reference) s b _
    (λ host. greets 1 host (holds_and_calls (lessee_of c.args.request.now.caller) c.args.request.now.method (bytes_of_uid c.args.found.uid) c.args.found.reference))
    c.in-Ok.link _ _ given _ _ _ c.in-Ok.ensures.dials c.in-Ok.ensures.halves stands (λ b1 stands2. c.call_over.ensures.talks s b b1 given stands2)

pub returns-in-Err-clause-talks : goal.returns-in-Err-clause-talks
returns-in-Err-clause-talks g c s b given stands =
    undialed_second g.D.In.Source.half g.D.Out.Sink.half _ _ (place_of_ref c.args.found.reference) s b (seen_of (link_of g.D.In.Source.half g.D.Out.Sink.half c.args.found.session))
    (λ host. greets 1 host (holds_and_calls (lessee_of c.args.request.now.caller) c.args.request.now.method (bytes_of_uid c.args.found.uid) c.args.found.reference))
    _ _ given _ c.in-Err.end (c.in-Err.ensures.dials).0 c.in-Err.ensures.end
    (leaves_as _ _ _ _ _ _ _ _ (ap g.D.In.Source.half c.close.ensures.source) (ap g.D.Out.Sink.half c.close.ensures.sink) c.put_away.ensures.left) stands
