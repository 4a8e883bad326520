use Rattle.std.proofs.Common.{ap, arith}
use Rattle.export_table.specs.Table.{ExportTable}
use Rattle.space.proofs.AheadLaws.{room-nothing}
use Rattle.space.proofs.Fresh.{keeps-nothing, no-bindings}
use Rattle.space.proofs.turns.Space.fresh.Goals as goal

pub invariant_of-result : goal.invariant_of-result
invariant_of-result c = (
  keeps-nothing c.args.config.now c.fresh.result c.fresh-2.result c.new-2.result.items c.new.result.items c.new-3.result.items
      (record { some_lease = c.requires.some_lease; short_lease = c.requires.short_lease; some_ack = c.requires.some_ack; short_ack = c.requires.short_ack })
      c.fresh.ensures c.fresh-2.ensures c.new.ensures.items c.new-2.ensures.items c.new-3.ensures.items,
  room-nothing c.new-2.result.items c.new.result.items c.new-3.result.items c.fresh-2.result c.new-2.result.capacity c.new-3.result.room
      c.new-2.ensures.items c.new.ensures.items c.new-3.ensures.items (ap (λ (t : ExportTable). t.rows) c.fresh-2.ensures),
  no-bindings c.args.config.now c.fresh-3.result c.new-2.result.items c.fresh-3.ensures c.new-2.ensures.items,
  record { stored_is = c.new-2.ensures.stored; told_are = (let none = c.new-3.ensures.told in omega (arith, none)); all_kept = λ s. c.new-3.ensures.told; untold_kept = λ s. c.new-3.ensures.told },
)
