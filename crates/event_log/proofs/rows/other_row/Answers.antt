use Rattle.std.proofs.Common.{length}
use Rattle.event_log.proofs.RowLaws.{within}
use Rattle.event_log.proofs.rows.other_row.Goals as goal

pub returns-then-not-is_lookup-clause-known : goal.returns-then-not-is_lookup-clause-known
returns-then-not-is_lookup-clause-known c clients = c.whole_row.ensures.known clients (length c.args.names.now.list.items)

pub returns-in-Some-clause-known : goal.returns-in-Some-clause-known
returns-in-Some-clause-known c clients =
    c.lookup_row.ensures.known clients (length c.args.names.now.list.items) (within c.args.names.now.list.items c.in-Some.name _ c.in-Some.ensures.name c.in-Some.ensures.lookup)
