use Rattle.std.proofs.Common.{refl}
use Rattle.std.proofs.lemmas.Result.{err_from_is_err_and}
use Rattle.system_objects.specs.Terms.{terms_of}
use Rattle.call_dispatch.proofs.SystemTurns.{turn_even, turn_untold, turn_lost}
use Rattle.call_dispatch.proofs.dispatch.turn_and_return.Goals as goal

pub returns-then-is_lost-clause-asks : goal.returns-then-is_lost-clause-asks
returns-then-is_lost-clause-asks g c =
    let (moment, led) = rw (c.is_lost.ensures.lost c.if-is_lost.true) at c.take_turn-answer.ensures.led in
    turn_lost g.W.Worker.may g.W.Worker.moves (terms_of c.args.connection.now.book.now c.args.connection.now.setup.now) c.args.uid c.args.ask moment _ _ led

pub returns-then-is_lost-clause-frame : goal.returns-then-is_lost-clause-frame
returns-then-is_lost-clause-frame g c =
    let (moment, led) = c.take_turn-answer.ensures.led in
    record { only = c.take_turn-answer.ensures.frame; balanced = rw led.asked (turn_even c.args.ask moment c.take_turn-answer.result (g.P.Port.shown c.args.connection.now.port.now).asked c.requires.quiet c.requires.can.running) }

pub returns-clause-asks : goal.returns-clause-asks
returns-clause-asks g c =
    let (moment, led) = c.take_turn-answer.ensures.led in
    let other = c.is_lost.ensures.other c.if-is_lost.false in
    let written = rw (c.take_turn-answer.ensures.frame.setup, c.take_turn-answer.ensures.frame.keeps.lent.book) at c.in_ok-bytes.ensures.written c.args.ask c.requires.kept in
    (moment, c.take_turn-answer.result, (other, ((g.P.Port.shown c.args.connection.now.port.now).asked, c.take_turn-answer.ensures.answers)), led, written, refl)

pub returns-clause-frame : goal.returns-clause-frame
returns-clause-frame g c =
    let (moment, led) = c.take_turn-answer.ensures.led in
    record { only = c.take_turn-answer.ensures.frame; balanced = rw led.asked (turn_even c.args.ask moment c.take_turn-answer.result (g.P.Port.shown c.args.connection.now.port.now).asked c.requires.quiet c.requires.can.running) }

pub returns-in_err-bytes-clause-asks : goal.returns-in_err-bytes-clause-asks
returns-in_err-bytes-clause-asks g c =
    let (moment, led) = c.take_turn-answer.ensures.led in
    let p = err_from_is_err_and c.from_residual.result c.from_residual.ensures.1 in
    rw (p.1, p.2) (turn_untold g.W.Worker.may g.W.Worker.moves (terms_of c.args.connection.now.book.now c.args.connection.now.setup.now) c.args.uid c.args.ask (g.P.Port.shown c.args.connection.now.port.now).asked moment c.take_turn-answer.result _ _ c.requires.quiet c.take_turn-answer.ensures.answers (c.is_lost.ensures.other c.if-is_lost.false) led)

pub returns-in_err-bytes-clause-frame : goal.returns-in_err-bytes-clause-frame
returns-in_err-bytes-clause-frame g c =
    let (moment, led) = c.take_turn-answer.ensures.led in
    record { only = c.take_turn-answer.ensures.frame; balanced = rw led.asked (turn_even c.args.ask moment c.take_turn-answer.result (g.P.Port.shown c.args.connection.now.port.now).asked c.requires.quiet c.requires.can.running) }
