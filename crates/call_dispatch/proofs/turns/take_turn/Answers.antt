use Rattle.std.proofs.Common.{Ok}
use Rattle.call_dispatch.specs.ConnectionState.{observed_of}
use Rattle.call_dispatch.proofs.Leading.{led_answer}
use Rattle.call_dispatch.proofs.turns.take_turn.Goals as goal

pub returns-in-Ok-clause-led : goal.returns-in-Ok-clause-led
returns-in-Ok-clause-led g c = (
  c.now-moment.result,
  rw c.in-Ok.is (led_answer _ _ (g.P.Port.shown c.turn-answer.new.self).asked (g.C.Clock.given c.now-moment.new.self)
      (observed_of g.C.Clock.given g.P.Port.shown g.W.Worker.shown c.args.connection.now) _
      c.now-moment.result c.args.ask (Ok c.in-Ok.turn)
      (rw c.in-Ok.is at c.turn-answer.ensures.asked) c.now-moment.ensures.given
      (rw c.as_slice.ensures at c.notify_unreferenced.ensures.led (g.P.Port.shown c.turn-answer.new.self).asked (g.C.Clock.given c.now-moment.new.self))),
)
