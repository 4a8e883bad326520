use Rattle.std.proofs.Common.{◌∙◌, ap}
use Rattle.space.specs.EventLists.{kind_among}
use Rattle.space.proofs.ListLaws.{kind-reported, rows-viewed}
use Rattle.space.proofs.turns.Space.kind_of.Goals as goal

pub returns-clause-rows : goal.returns-clause-rows
returns-clause-rows c = kind-reported c.self.inside.tables.exports.rows c.args.object c.find.result c.args.self.now c.self.view_is c.find.ensures

pub returns-clause-table : goal.returns-clause-table
returns-clause-table c =
    kind-reported c.self.inside.tables.exports.rows c.args.object c.find.result c.args.self.now c.self.view_is c.find.ensures
    ∙ ap (λ l. kind_among l c.args.object) (rows-viewed c.self.inside.tables.config c.self.inside.tables.events.items c.self.inside.tables.exports.rows c.args.self.now c.self.view_is c.self.invariant.0.stands.rows_are)
