use Rattle.std.proofs.Common.{Ok, Err, refl}
use Rattle.history.specs.declared.replies.Refused.TheVariants.{HistoryFull}
use Rattle.call_dispatch.proofs.Balancing.{ack_even, ack_answered}
use Rattle.call_dispatch.proofs.messages.note.Goals as goal

pub returns-in-Ok-clause-notes : goal.returns-in-Ok-clause-notes
returns-in-Ok-clause-notes g c =
    let (moment, led) = c.in-Ok.ensures.led in
    (refl, (moment, Ok c.in-Ok._turn, ack_answered c.args.uid (g.P.Port.shown c.args.connection.now.port.now).asked c.in-Ok._turn.reply c.in-Ok.ensures.answers, led))

pub returns-in-Ok-clause-frame : goal.returns-in-Ok-clause-frame
returns-in-Ok-clause-frame g c =
    let (moment, led) = c.in-Ok.ensures.led in
    record { only = c.take_turn.ensures.frame; balanced = rw led.asked (ack_even c.args.uid moment (Ok c.in-Ok._turn) (g.P.Port.shown c.args.connection.now.port.now).asked c.requires.can.running) }

pub returns-in-Err-HistoryFull-clause-notes : goal.returns-in-Err-HistoryFull-clause-notes
returns-in-Err-HistoryFull-clause-notes g c =
    let (moment, led) = rw c.in-Err-HistoryFull.field-0-is at c.in-Err-HistoryFull.ensures.led in
    (refl, (moment, Err HistoryFull, tt, led))

pub returns-in-Err-HistoryFull-clause-frame : goal.returns-in-Err-HistoryFull-clause-frame
returns-in-Err-HistoryFull-clause-frame g c =
    let (moment, led) = rw c.in-Err-HistoryFull.field-0-is at c.in-Err-HistoryFull.ensures.led in
    record { only = c.take_turn.ensures.frame; balanced = rw led.asked (ack_even c.args.uid moment (Err HistoryFull) (g.P.Port.shown c.args.connection.now.port.now).asked c.requires.can.running) }
