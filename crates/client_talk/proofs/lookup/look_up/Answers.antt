use Rattle.client_talk.specs.Commands.{greets, lookups}
use Rattle.client_talk.proofs.Leaving.{spoke_nothing, spoke_unopened, spoke_one}
use Rattle.client_talk.proofs.lookup.look_up.Goals as goal

pub returns-then-not-has_room-clause-spoke : goal.returns-then-not-has_room-clause-spoke
returns-then-not-has_room-clause-spoke g c given = rw c.has_room.ensures.items (spoke_nothing _ _ _ given)

pub returns-in-Ok-clause-spoke : goal.returns-in-Ok-clause-spoke
returns-in-Ok-clause-spoke g c given =
    spoke_one g.D.In.Source.half g.D.Out.Sink.half g.D.Ticks.Clock.given _ _ c.args.place.now (λ host. greets 0 host (lookups 0 c.args.name.now)) c.in-Ok.link _ _ _ given _ c.has_room.ensures.items c.in-Ok.ensures.dials c.in-Ok.ensures.halves
    (λ b stands. c.look_up_over.ensures.talks _ b given given stands)

pub returns-in-Err-clause-spoke : goal.returns-in-Err-clause-spoke
returns-in-Err-clause-spoke g c given =
    rw c.has_room.ensures.items (spoke_unopened c.args.place.now (λ host. greets 0 host (lookups 0 c.args.name.now)) _ _ _ given c.in-Err.end (c.in-Err.ensures.dials).0 c.in-Err.ensures.end)
