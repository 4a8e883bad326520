use Rattle.std.proofs.Common.{refl, rules}
use Rattle.call_dispatch.specs.Served.{faulted}
use Rattle.system_objects.specs.Terms.{terms_of}
use Rattle.call_dispatch.proofs.Balancing.{give_up_balances}
use Rattle.call_dispatch.proofs.Cutting.{finish_concludes, memory_concludes}
use Rattle.call_dispatch.proofs.calls.conclude.Goals as goal

pub finish-requires-clause-pending : goal.finish-requires-clause-pending
finish-requires-clause-pending g c = rw c.in-Ok-Normal.field-0-is at c.in-Ok-Normal.ensures.ready

pub returns-in-Ok-Normal-clause-concludes : goal.returns-in-Ok-Normal-clause-concludes
returns-in-Ok-Normal-clause-concludes g c =
    let prepared = rw c.in-Ok-Normal.field-0-is at c.in-Ok-Normal.ensures.prepares in
    rw (c.next_uid-uid.ensures.uid, c.next_uid-uid.ensures.drawn) at (finish_concludes _ _ (terms_of c.args.connection.now.book.now c.next_uid-uid.new.setup) c.args.object c.next_uid-uid.result c.args.result_type c.args.outcome _ _
    c.finish.result prepared.0 (c.finish.ensures.finishes c.args.outcome prepared.1))

pub returns-in-Ok-Exceptional-clause-concludes : goal.returns-in-Ok-Exceptional-clause-concludes
returns-in-Ok-Exceptional-clause-concludes g c =
    let (moment, place, led) = c.give_up.ensures.led in
    let prepared = rw c.next_uid-uid.ensures.uid at (rw c.in-Ok-Exceptional.field-0-is at c.in-Ok-Exceptional.ensures.prepares) in
    (faulted (record { moment = moment; place = place }), (prepared.0, prepared.1), led, prepared.2, refl)

pub returns-in-Ok-Exceptional-clause-frame : goal.returns-in-Ok-Exceptional-clause-frame
returns-in-Ok-Exceptional-clause-frame g c =
    let (moment, place, led) = c.give_up.ensures.led in
    record {
      keeps = search rules;
      balanced = rw led.asked (give_up_balances c.args.object moment place (g.P.Port.shown c.args.connection.now.port.now).asked c.requires.can.running);
      sink = search rules;
      drawn = search rules;
      calls = search rules;
    }

pub returns-in-Err-clause-concludes : goal.returns-in-Err-clause-concludes
returns-in-Err-clause-concludes g c =
    let (moment, place, led) = c.give_up-in-Err.ensures.led in
    memory_concludes _ _ (terms_of c.args.connection.now.book.now c.args.connection.now.setup.now) c.args.object _ c.args.result_type c.args.outcome _ _ moment place led

pub returns-in-Err-clause-frame : goal.returns-in-Err-clause-frame
returns-in-Err-clause-frame g c =
    let (moment, place, led) = c.give_up-in-Err.ensures.led in
    record {
      keeps = search rules;
      balanced = rw led.asked (give_up_balances c.args.object moment place (g.P.Port.shown c.args.connection.now.port.now).asked c.requires.can.running);
      sink = search rules;
      drawn = search rules;
      calls = search rules;
    }
