use Rattle.std.proofs.Common.{◌+◌, ◌-◌, ◌/◌, length, ap, sym, ◌∙◌, refl, arith}
use Rattle.export_table.proofs.Searching.{none_below}
use Rattle.export_table.proofs.Slotted.{all-behind, below-slot, above-slot}
use Rattle.export_table.proofs.slots.first_from.Goals as goal

pub loop-low-init : goal.loop-low-init
loop-low-init c = record {
  forward = omega arith;
  within = omega arith;
  before = refl;
  after = ap (none_below c.args.id.now.number) (all-behind c.args.slots.now (length c.args.slots.now) (omega arith));
}

pub loop-low-preserved-then-is_below : goal.loop-low-preserved-then-is_below
loop-low-preserved-then-is_below c =
    let inv = c.loop-low.invariant in
    let open_ = c.loop-low-test.true in record {
      forward = omega arith;
      within = inv.within;
      before = below-slot c.args.id.now.number c.args.slots.now (c.loop-low.low + (c.loop-low.high - c.loop-low.low) / 2) _ c.requires (let a = inv.within in omega arith) (sym c.is_below.ensures ∙ c.if-is_below.true);
      after = inv.after;
    }

pub loop-low-preserved : goal.loop-low-preserved
loop-low-preserved c =
    let inv = c.loop-low.invariant in
    let open_ = c.loop-low-test.true in record {
      forward = omega arith;
      within = (let a = inv.within in omega arith);
      before = inv.before;
      after = above-slot c.args.id.now.number c.args.slots.now (c.loop-low.low + (c.loop-low.high - c.loop-low.low) / 2) _ c.requires (let a = inv.within in omega arith) (sym c.is_below.ensures ∙ c.if-is_below.false);
    }
