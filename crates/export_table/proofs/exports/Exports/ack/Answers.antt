use Rattle.std.specs.Prelude.{not}
use Rattle.object_ids.specs.Same.{same_uid}
use Rattle.export_table.specs.declared.waits.Wait.{Wait}
use Rattle.export_table.proofs.Sound.{sound-filter}
use Rattle.export_table.proofs.exports.Exports.ack.Goals as goal

pub invariant_of-self : goal.invariant_of-self
invariant_of-self c =
    rw c.acknowledge.ensures.waits
    (sound-filter c.self.inside.space c.self.inside.ack c.self.inside.rows.added c.self.inside.rows.rows c.self.inside.waits.waits (λ (w : Wait). not (same_uid w.uid c.args.uid)) c.self.invariant)
