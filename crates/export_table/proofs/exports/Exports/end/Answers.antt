use Rattle.std.proofs.Common.{refl}
use Rattle.export_table.specs.ExportRows.{with_call_ended}
use Rattle.export_table.proofs.Sound.{sound-changed}
use Rattle.export_table.proofs.exports.Exports.end.Goals as goal

pub invariant_of-self : goal.invariant_of-self
invariant_of-self c =
    rw c.end.ensures (sound-changed c.self.inside.space c.self.inside.ack c.self.inside.rows.added c.self.inside.rows.rows c.self.inside.waits.waits with_call_ended c.args.id (λ x. refl) c.self.invariant)
