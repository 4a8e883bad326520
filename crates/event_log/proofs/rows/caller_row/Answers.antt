use Rattle.std.proofs.Common.{length}
use Rattle.event_log.proofs.RowLaws.{within}
use Rattle.event_log.proofs.rows.caller_row.Goals as goal

pub returns-in-Some-clause-known : goal.returns-in-Some-clause-known
returns-in-Some-clause-known c names =
    c.call_row.ensures.known (length c.args.clients.now.list.items) names (within c.args.clients.now.list.items c.in-Some.client _ c.in-Some.ensures c.requires.caller)
