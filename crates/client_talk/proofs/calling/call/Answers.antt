use Rattle.std.proofs.Common.{arith}
use Rattle.client_talk.specs.Calling.{looks_up_and_calls}
use Rattle.client_talk.specs.Commands.{greets}
use Rattle.client_talk.proofs.Leaving.{rose_later, spoke_nothing, spoke_unopened, spoke_more}
use Rattle.client_talk.proofs.calling.call.Goals as goal

pub returns-then-not-has_room-clause-spoke : goal.returns-then-not-has_room-clause-spoke
returns-then-not-has_room-clause-spoke g c = rw c.has_room.ensures.items (spoke_nothing _ _ _ _)

pub returns-in-Ok-clause-spoke : goal.returns-in-Ok-clause-spoke
returns-in-Ok-clause-spoke g c =
    spoke_more g.D.In.Source.half g.D.Out.Sink.half g.D.Ticks.Clock.given _ _ (g.D.Dialer.dialing c.call_through.new.dialer) c.args.request.now.place (λ host. greets 0 host (looks_up_and_calls c.args.request.now)) c.in-Ok.link _ _ _ _ _ _
    c.has_room.ensures.items c.in-Ok.ensures.dials c.in-Ok.ensures.halves (λ b stands. c.call_through.ensures.talks _ b _ stands)

pub returns-in-Ok-clause-fault : goal.returns-in-Ok-clause-fault
returns-in-Ok-clause-fault g c is = let same = (c.in-Ok.ensures.dials).1 in rose_later _ _ _ (omega (arith, same)) (c.call_through.ensures.fault is)

pub returns-in-Err-clause-spoke : goal.returns-in-Err-clause-spoke
returns-in-Err-clause-spoke g c =
    rw c.has_room.ensures.items (spoke_unopened c.args.request.now.place (λ host. greets 0 host (looks_up_and_calls c.args.request.now)) _ _ _ _ c.in-Err.end (c.in-Err.ensures.dials).0 c.in-Err.ensures.end)
