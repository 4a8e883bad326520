use Rattle.std.proofs.Common.{◌≡◌, ◌<◌, length, refl, rules, sym, ◌∙◌, arith}
use Rattle.export_table.proofs.Slotted.{read-once}
use Rattle.export_table.proofs.Sweeping.{sweep-start, count-start, sweep-skip, sweep-write, count-skip, count-take, count-end, sweep-slots, sweep-gone}
use Rattle.std.specs.Prelude.{vec_len}
use Rattle.export_table.specs.declared.slots.Standing.TheVariants.{Gap}
use Rattle.export_table.proofs.slots.sweep.Goals as goal
use Rattle.export_table.proofs.slots.sweep.Goals.{then-is_leaving, else-is_leaving}

pub loop-i-init : goal.loop-i-init
loop-i-init c =
    let start = count-start c.args.slots.now.items c.args.first c.requires.front in record {
      sweeping = sweep-start c.args.slots.now.items c.args.first c.args.upto c.args.gone.now.items c.requires.front c.requires.back;
      counted = omega (arith, start);
      more = omega arith;
      slots_len = refl;
      slots_capacity = refl;
    }

pub index-requires : goal.index-requires
index-requires c =
    let within = c.loop-i-test.true in let long = c.loop-i.invariant.sweeping.long in let all = c.requires.within in let len : vec_len c.loop-i.slots ≡ length c.loop-i.slots.items = search rules in omega arith

pub note_gone-requires : goal.note_gone-requires
note_gone-requires c =
    let within = c.loop-i-test.true in let long = c.loop-i.invariant.sweeping.long in let all = c.requires.within in
    let there : c.loop-i.i < length c.loop-i.slots.items = omega arith in
    let one = count-take c.loop-i.slots.items c.loop-i.i c.index.result.now c.index.result.now there c.index.ensures (sym c.is_leaving.ensures ∙ c.if-is_leaving.true) in
    let room = c.requires.room in let more = c.loop-i.invariant.more in let counted = c.loop-i.invariant.counted in
    omega (arith, one)

pub index_mut-requires : goal.index_mut-requires
index_mut-requires c =
    let within = c.loop-i-test.true in let long = c.loop-i.invariant.sweeping.long in let all = c.requires.within in let len : vec_len c.loop-i.slots ≡ length c.loop-i.slots.items = search rules in omega arith

pub loop-i-preserved : goal.loop-i-preserved
loop-i-preserved c =
    let within = c.loop-i-test.true in let long = c.loop-i.invariant.sweeping.long in let all = c.requires.within in
    let there : c.loop-i.i < length c.loop-i.slots.items = omega arith in
    let counted = c.loop-i.invariant.counted in let more = c.loop-i.invariant.more in
    elim c.if-is_leaving.branch [
      | then-is_leaving w ↦
          let leaving = sym c.is_leaving.ensures ∙ w.if-is_leaving.true in
          let one = count-take c.loop-i.slots.items c.loop-i.i c.index.result.now (record w.index_mut.result.now { standing = Gap }) there c.index.ensures leaving in
          let same = read-once c.loop-i.slots.items c.loop-i.i w.index_mut.result.now c.index.result.now there w.index_mut.ensures.value c.index.ensures in
          let noted = w.note_gone.ensures.len in let capacity = w.note_gone.ensures.capacity in
          rw (w.slots-is, w.gone-is) record {
            sweeping = rw w.note_gone.ensures.items (sweep-write c.args.slots.now.items c.loop-i.slots.items c.loop-i.i c.args.upto c.args.gone.now.items c.loop-i.gone.items c.index.result.now w.index_mut.result.now c.loop-i.invariant.sweeping there within c.index.ensures leaving same);
            counted = omega (arith, one);
            more = omega arith;
            slots_len = c.loop-i.invariant.slots_len;
            slots_capacity = c.loop-i.invariant.slots_capacity;
          }
      | else-is_leaving w ↦
          let other = sym c.is_leaving.ensures ∙ w.if-is_leaving.false in
          let one = count-skip c.loop-i.slots.items c.loop-i.i c.index.result.now there c.index.ensures other in
          rw (w.slots-is, w.gone-is) record {
            sweeping = sweep-skip c.args.slots.now.items c.loop-i.slots.items c.loop-i.i c.args.upto c.args.gone.now.items c.loop-i.gone.items c.index.result.now c.loop-i.invariant.sweeping there c.index.ensures other;
            counted = omega (arith, one);
            more = c.loop-i.invariant.more;
            slots_len = c.loop-i.invariant.slots_len;
            slots_capacity = c.loop-i.invariant.slots_capacity;
          }
    ]

pub returns-clause-slots : goal.returns-clause-slots
returns-clause-slots c =
    let far = c.loop-i-test.false in
    sweep-slots c.args.slots.now.items c.loop-i.slots.items c.loop-i.i c.args.upto c.args.gone.now.items c.loop-i.gone.items c.loop-i.invariant.sweeping (omega arith)

pub returns-clause-gone : goal.returns-clause-gone
returns-clause-gone c =
    let far = c.loop-i-test.false in
    sweep-gone c.args.slots.now.items c.loop-i.slots.items c.loop-i.i c.args.upto c.args.gone.now.items c.loop-i.gone.items c.loop-i.invariant.sweeping (omega arith)

pub returns-clause-len : goal.returns-clause-len
returns-clause-len c =
    let far = c.loop-i-test.false in let counted = c.loop-i.invariant.counted in
    let none = count-end c.loop-i.slots.items c.loop-i.i c.args.upto c.loop-i.invariant.sweeping.back (omega arith) in omega (arith, none)

pub returns-clause-capacity : goal.returns-clause-capacity
returns-clause-capacity c = c.loop-i.invariant.more
