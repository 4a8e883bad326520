use Rattle.std.proofs.Common.{◌≡◌, ◌∙◌, rules}
use Rattle.std.specs.Prelude.{is_some}
use Rattle.export_table.specs.ExportRows.{kind_of}
use Rattle.space.proofs.Found.{exported-kind}
use Rattle.space.proofs.asks.is_exported.Goals as goal

pub returns : goal.returns
returns c =
    let some : c.is_some.result ≡ is_some (kind_of c.args.exports.now.rows c.args.object.now) = search rules in
    some ∙ exported-kind c.args.exports.now.rows c.args.object.now
