use Rattle.std.proofs.Common.{[], ◌∷◌, ap, sym, subst, refl}
use Rattle.object_ids.specs.Bytes.{bytes_of_uid}
use Rattle.rmi_client.specs.Sessions.{link_of}
use Rattle.client_talk.specs.Calling.{lessee_of, dials_on}
use Rattle.client_talk.specs.Sessions.{seen_of}
use Rattle.client_talk.specs.Steps.{Stands}
use Rattle.client_talk.specs.Talk.{linked}
use Rattle.client_talk.proofs.Stepping.{at_only}
use Rattle.client_talk.proofs.Registry.{found_on, unfound_on}
use Rattle.client_talk.proofs.Leaving.{leaves_as, put_back_first}
use Rattle.client_talk.proofs.calling.call_from.Goals as goal

pub returns-in-Ok-clause-talks : goal.returns-in-Ok-clause-talks
returns-in-Ok-clause-talks g c s b given stands =
    c.call_found.ensures.talks s b given
    (subst (λ f. Stands s (linked b (seen_of (link_of g.D.In.Source.half g.D.Out.Sink.half f.session)) ∷ []) given (g.T.Clock.given c.args.ticks.now) (dials_on (lessee_of c.args.request.now.caller) c.args.request.now.method (bytes_of_uid f.uid) f.reference)) (sym c.found_on.ensures)
    (found_on s 0 (linked b _ ∷ []) given _ _ _ c.args.request.now.name (dials_on (lessee_of c.args.request.now.caller) c.args.request.now.method) c.in-Ok.found (at_only b _) stands (c.in-Ok.ensures.asks c.requires.open)))

pub returns-in-Err-clause-talks : goal.returns-in-Err-clause-talks
returns-in-Err-clause-talks g c s b given stands =
    put_back_first _ _ _ _ s b _ given _ (seen_of (link_of g.D.In.Source.half g.D.Out.Sink.half c.lookup.new.self)) c.in-Err.end _ refl
    (leaves_as _ _ _ _ _ _ _ _ (ap g.D.In.Source.half c.close.ensures.source) (ap g.D.Out.Sink.half c.close.ensures.sink) c.put_away.ensures.left)
    (unfound_on s 0 (linked b _ ∷ []) given _ _ _ c.args.request.now.name (dials_on (lessee_of c.args.request.now.caller) c.args.request.now.method) c.in-Err.end (at_only b _) stands (c.in-Err.ensures.asks c.requires.open))
