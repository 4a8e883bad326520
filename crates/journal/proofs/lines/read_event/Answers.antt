use Rattle.journal.proofs.EventLines.{event_to_parts, event_from_parts}
use Rattle.journal.proofs.lines.read_event.Goals as goal

pub returns-in-Ok : goal.returns-in-Ok
returns-in-Ok c = event_from_parts c.args.space c.in-Ok.event c.args.line.now (rw c.new.ensures at (c.in-Ok.ensures {u = tt}))

pub returns-in-Err-NotSpelled : goal.returns-in-Err-NotSpelled
returns-in-Err-NotSpelled c event spells = c.in-Err-NotSpelled.ensures {u = tt} c.in-Err-NotSpelled.field-0-is event
    (rw c.new.ensures (event_to_parts c.args.space event c.args.line.now spells))
