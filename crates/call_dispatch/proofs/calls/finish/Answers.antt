use Rattle.std.proofs.Common.{Ok, Err, subst, ◌++◌, rules}
use Rattle.std.specs.List.{flat_map}
use Rattle.call_dispatch.specs.Acts.{entries, acts_of}
use Rattle.history.specs.declared.asks.Ask.TheVariants.{Finish}
use Rattle.call_dispatch.specs.Served.{IsFinished}
use Rattle.system_objects.specs.Terms.{terms_of}
use Rattle.call_dispatch.proofs.Balancing.{finish_answered, finish_balances, finish_refused, give_up_balances}
use Rattle.call_dispatch.proofs.Leading.{led_same, finish_same}
use Rattle.call_dispatch.proofs.Cutting.{finishes_answered, finishes_refused}
use Rattle.call_dispatch.proofs.Returning.{ready_for}
use Rattle.call_dispatch.proofs.calls.finish.Goals as goal

pub finish_answer-requires : goal.finish_answer-requires
finish_answer-requires g c =
    let over = finish_answered c.args.object c.args.pending.made c.args.pending.listed c.args.uid (g.P.Port.shown c.args.connection.now.port.now).asked c.in-Ok.turn.reply c.requires.can.running c.in-Ok.ensures.answers in
    record { ready = ready_for c.args.pending.made c.in-Ok.turn.reply c.args.pending.sent c.requires.pending over }

pub returns-in-Ok-clause-finishes : goal.returns-in-Ok-clause-finishes
returns-in-Ok-clause-finishes g c outcome pends =
    let (moment, led) = c.in-Ok.ensures.led in
    let over = finish_answered c.args.object c.args.pending.made c.args.pending.listed c.args.uid (g.P.Port.shown c.args.connection.now.port.now).asked c.in-Ok.turn.reply c.requires.can.running c.in-Ok.ensures.answers in
    let sends = c.finish_answer.ensures.sends c.args.connection.now.book.now outcome in
    finishes_answered _ _ (terms_of c.args.connection.now.book.now c.args.connection.now.setup.now) c.args.object c.args.uid outcome c.args.pending.listed _ _ moment c.in-Ok.turn c.finish_answer.result
    pends.listed (subst (λ made. IsFinished made c.in-Ok.turn.reply) pends.made over)
    (led_same _ _ _ _ _ _ (finish_same moment c.args.object outcome c.args.pending.made c.args.pending.listed c.args.uid (Ok c.in-Ok.turn) pends.made) led)
    (rw c.take_turn.ensures.frame.setup at sends pends.sent)

pub returns-in-Ok-clause-frame : goal.returns-in-Ok-clause-frame
returns-in-Ok-clause-frame g c =
    let (moment, led) = c.in-Ok.ensures.led in
    record {
      only = search rules;
      balanced = rw led.asked (finish_balances c.args.object c.args.pending.made c.args.pending.listed c.args.uid moment c.in-Ok.turn (g.P.Port.shown c.args.connection.now.port.now).asked c.requires.can.running
          (finish_answered c.args.object c.args.pending.made c.args.pending.listed c.args.uid (g.P.Port.shown c.args.connection.now.port.now).asked c.in-Ok.turn.reply c.requires.can.running c.in-Ok.ensures.answers));
    }

pub returns-in-Err-clause-finishes : goal.returns-in-Err-clause-finishes
returns-in-Err-clause-finishes g c outcome pends =
    let (moment, led) = c.in-Err.ensures.led in
    let (moment2, place, up) = c.give_up.ensures.led in
    finishes_refused _ _ (terms_of c.args.connection.now.book.now c.args.connection.now.setup.now) c.args.object c.args.uid outcome c.args.pending.listed _ _ _ moment moment2 place c.in-Err.refused c.denial_answer.result
    pends.listed (led_same _ _ _ _ _ _ (finish_same moment c.args.object outcome c.args.pending.made c.args.pending.listed c.args.uid (Err c.in-Err.refused) pends.made) led) up c.denial_answer.ensures.denied

pub returns-in-Err-clause-frame : goal.returns-in-Err-clause-frame
returns-in-Err-clause-frame g c =
    let (moment, led) = c.in-Err.ensures.led in
    let (moment2, place, up) = c.give_up.ensures.led in
    let ask = Finish c.args.object c.args.pending.made c.args.pending.listed c.args.uid in
    record {
      only = search rules;
      balanced = rw (up.asked, led.asked) (give_up_balances c.args.object moment2 place ((g.P.Port.shown c.args.connection.now.port.now).asked ++ flat_map entries (acts_of moment ask (Err c.in-Err.refused)))
          (finish_refused c.args.object c.args.pending.made c.args.pending.listed c.args.uid moment c.in-Err.refused (g.P.Port.shown c.args.connection.now.port.now).asked c.requires.can.running));
    }
