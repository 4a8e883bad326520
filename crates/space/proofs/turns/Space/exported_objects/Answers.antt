use Rattle.std.proofs.Common.{◌∙◌, ap, map}
use Rattle.space.specs.EventLists.{with_kind}
use Rattle.space.proofs.ListLaws.{kinds-reported, rows-viewed}
use Rattle.space.proofs.turns.Space.exported_objects.Goals as goal

pub returns-clause-rows : goal.returns-clause-rows
returns-clause-rows c =
    kinds-reported c.self.inside.tables.exports.rows c.self.inside.tables.moment c.self.inside.tables.exports.waits c.as_slice.result.now c.in_ok-objects.objects.items c.args.self.now
    c.self.view_is (c.as_slice.ensures ∙ c.in_ok-rows.ensures) c.in_ok-objects.ensures

pub returns-clause-table : goal.returns-clause-table
returns-clause-table c =
    kinds-reported c.self.inside.tables.exports.rows c.self.inside.tables.moment c.self.inside.tables.exports.waits c.as_slice.result.now c.in_ok-objects.objects.items c.args.self.now
    c.self.view_is (c.as_slice.ensures ∙ c.in_ok-rows.ensures) c.in_ok-objects.ensures
    ∙ ap (map with_kind) (rows-viewed c.self.inside.tables.config c.self.inside.tables.events.items c.self.inside.tables.exports.rows c.args.self.now c.self.view_is c.self.invariant.0.stands.rows_are)
