use Rattle.space.proofs.ListLaws.{rows-viewed}
use Rattle.space.proofs.turns.Space.len.Goals as goal

pub returns-clause-rows : goal.returns-clause-rows
returns-clause-rows c = rows-viewed c.self.inside.tables.config c.self.inside.tables.events.items c.self.inside.tables.exports.rows c.args.self.now c.self.view_is c.self.invariant.0.stands.rows_are
