use Rattle.std.proofs.Common.{refl}
use Rattle.export_table.specs.ExportRows.{unpinned_once}
use Rattle.export_table.proofs.Sound.{sound-changed}
use Rattle.export_table.proofs.exports.Exports.unpin.Goals as goal

pub invariant_of-self : goal.invariant_of-self
invariant_of-self c =
    rw c.unpin.ensures (sound-changed c.self.inside.space c.self.inside.ack c.self.inside.rows.added c.self.inside.rows.rows c.self.inside.waits.waits unpinned_once c.args.id (λ x. refl) c.self.invariant)
