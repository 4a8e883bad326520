use Rattle.std.proofs.Common.{length}
use Rattle.event_log.proofs.rows.fresh_call.Goals as goal

pub returns-in-None-clause-known : goal.returns-in-None-clause-known
returns-in-None-clause-known c names = c.whole_row.ensures.known (length c.args.clients.now.list.items) names
