use Rattle.std.proofs.Common.{length}
use Rattle.event_log.proofs.rows.fresh_lookup.Goals as goal

pub returns-in-None-clause-known : goal.returns-in-None-clause-known
returns-in-None-clause-known c clients = c.whole_row.ensures.known clients (length c.args.names.now.list.items)
