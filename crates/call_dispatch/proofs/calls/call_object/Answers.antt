use Rattle.std.proofs.Common.{refl, [], rules}
use Rattle.wire_io.specs.Pulled.{pull_state}
use Rattle.system_objects.specs.Terms.{terms_of}
use Rattle.call_dispatch.specs.Served.{absent, refused}
use Rattle.call_dispatch.proofs.Balancing.{begin_runs, begin_absent, begin_refused}
use Rattle.call_dispatch.proofs.Calling.{head_ends, begun_answers, closing_answers, lost_answers}
use Rattle.history.specs.declared.replies.Refused.TheVariants.{HistoryFull}
use Rattle.call_dispatch.proofs.calls.call_object.Goals as goal

pub run_call-requires-clause-can : goal.run_call-requires-clause-can
run_call-requires-clause-can g c =
    let (moment, led) = c.in-Ok.ensures.led in
    record {
      time = search rules;
      drawn = search rules;
      ready = c.take_turn.ensures.frame.keeps.ready;
      room = search rules;
      running = rw led.asked (begin_runs c.args.head.id moment c.in-Started.kind c.in-Ok.turn (g.P.Port.shown c.args.connection.now.port.now).asked c.requires.can.running c.in-Started.is);
      calls = search rules;
    }

pub returns-in-Started-clause-answers : goal.returns-in-Started-clause-answers
returns-in-Started-clause-answers g c first reads =
    let (moment, led) = c.in-Ok.ensures.led in
    let same = c.take_turn.ensures.frame.pull in
    let runs = c.run_call.ensures.runs_on first (rw same reads) in
    begun_answers _ _ (terms_of c.args.connection.now.book.now c.args.connection.now.setup.now) _ c.args.head c.in-Started.kind moment c.in-Ok.turn first _ _ _ _ _ _ c.run_call.result c.in-Started.is led (rw (c.take_turn.ensures.frame.setup, c.take_turn.ensures.frame.keeps.lent.book) at runs)

pub returns-in-NoObject-clause-answers : goal.returns-in-NoObject-clause-answers
returns-in-NoObject-clause-answers g c first reads =
    let (moment, led) = c.in-Ok.ensures.led in
    let (bytes, takes, whole) = head_ends first _ c.args.head c.args.reader.stand reads in
    let prepared = rw c.take_turn.ensures.frame.setup at c.refuse.ensures.prepared in
    rw c.take_turn.ensures.frame.pull (closing_answers _ _ (terms_of c.args.connection.now.book.now c.args.connection.now.setup.now) _ c.args.head (absent (record { moment = moment; turn = c.in-Ok.turn })) bytes first (pull_state g.S.Source.half c.args.connection.now.pull) _ _ _ _ c.refuse.result
    takes (whole, c.in-NoObject.is) led (begin_absent c.args.head.id moment c.in-Ok.turn [] (λ o. refl) c.in-NoObject.is) prepared)

pub returns-in-NoObject-clause-frame : goal.returns-in-NoObject-clause-frame
returns-in-NoObject-clause-frame g c =
    let (moment, led) = c.in-Ok.ensures.led in
    record {
      keeps = search rules;
      balanced = rw led.asked (begin_absent c.args.head.id moment c.in-Ok.turn (g.P.Port.shown c.args.connection.now.port.now).asked c.requires.can.running c.in-NoObject.is);
      sink = search rules;
      drawn = search rules;
      calls = search rules;
    }

pub returns-in-Err-HistoryFull-clause-answers : goal.returns-in-Err-HistoryFull-clause-answers
returns-in-Err-HistoryFull-clause-answers g c first reads =
    let (moment, led) = rw c.in-Err-HistoryFull.field-0-is at c.in-Err-HistoryFull.ensures.led in
    let (bytes, takes, whole) = head_ends first _ c.args.head c.args.reader.stand reads in
    let prepared = rw c.take_turn.ensures.frame.setup at c.refuse-in-Err-HistoryFull.ensures.prepared in
    rw c.take_turn.ensures.frame.pull (closing_answers _ _ (terms_of c.args.connection.now.book.now c.args.connection.now.setup.now) _ c.args.head (refused moment) bytes first (pull_state g.S.Source.half c.args.connection.now.pull) _ _ _ _ c.refuse-in-Err-HistoryFull.result
    takes whole led (begin_refused c.args.head.id moment HistoryFull [] (λ o. refl)) prepared)

pub returns-in-Err-HistoryFull-clause-frame : goal.returns-in-Err-HistoryFull-clause-frame
returns-in-Err-HistoryFull-clause-frame g c =
    let (moment, led) = rw c.in-Err-HistoryFull.field-0-is at c.in-Err-HistoryFull.ensures.led in
    record {
      keeps = search rules;
      balanced = rw led.asked (begin_refused c.args.head.id moment HistoryFull (g.P.Port.shown c.args.connection.now.port.now).asked c.requires.can.running);
      sink = search rules;
      drawn = search rules;
      calls = search rules;
    }

pub returns-clause-answers : goal.returns-clause-answers
returns-clause-answers g c first reads =
    let (moment, led) = rw c.in-Err-OutOfMemory.field-0-is at c.in-Err-OutOfMemory.ensures.led in
    rw c.take_turn.ensures.frame.pull (lost_answers _ _ (terms_of c.args.connection.now.book.now c.args.connection.now.setup.now) _ c.args.head moment first (pull_state g.S.Source.half c.args.connection.now.pull) c.args.reader.stand _ _ _ _ reads led)
