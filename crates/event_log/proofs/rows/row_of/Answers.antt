use Rattle.std.proofs.Common.{length}
use Rattle.event_log.proofs.rows.row_of.Goals as goal

pub returns-in-Some-clause-known : goal.returns-in-Some-clause-known
returns-in-Some-clause-known c = c.caller_row.ensures.known (length c.args.names.now.list.items)

pub returns-in-None-clause-known : goal.returns-in-None-clause-known
returns-in-None-clause-known c = c.other_row.ensures.known (length c.args.clients.now.list.items)
