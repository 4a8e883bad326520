use Rattle.std.proofs.Common.{refl, arith}
use Rattle.export_table.specs.ExportRows.{unpinned_once}
use Rattle.export_table.proofs.Slotted.{slot-pins, slot-rows, slot-slots, absent-slots}
use Rattle.export_table.proofs.slots.unpin.Goals as goal

pub overflow_sub-index_mut : goal.overflow_sub-index_mut
overflow_sub-index_mut c =
    let same = slot-pins c.args.slots.now.items c.deref.result.now c.args.id.now c.in-Some.i c.index_mut.result.now c.deref.ensures.value c.requires.rising c.in-Some.ensures c.index_mut.ensures.value in
    let bound = c.requires.stands in omega (arith, same)

pub returns-in-Some-clause-rows : goal.returns-in-Some-clause-rows
returns-in-Some-clause-rows c =
    slot-rows unpinned_once c.args.slots.now.items c.deref.result.now _ c.args.id.now c.in-Some.i c.index_mut.result.now c.deref.ensures.value c.requires.rising c.in-Some.ensures c.index_mut.ensures.value refl

pub returns-in-Some-clause-slots : goal.returns-in-Some-clause-slots
returns-in-Some-clause-slots c added gaps s =
    slot-slots unpinned_once c.args.slots.now.items c.deref.result.now c.args.id.now c.in-Some.i c.index_mut.result.now added gaps (λ x. refl) c.deref.ensures.value s c.in-Some.ensures c.index_mut.ensures.value

pub returns-in-None-clause-rows : goal.returns-in-None-clause-rows
returns-in-None-clause-rows c = absent-slots c.args.slots.now.items c.deref.result.now c.args.id.now unpinned_once c.deref.ensures.value c.in-None.ensures
