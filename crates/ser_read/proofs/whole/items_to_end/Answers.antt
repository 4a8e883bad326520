use Rattle.std.proofs.Common.{◌∷◌, ◌∙◌, ◌-◌, false, refl}
use Rattle.ser_values.specs.declared.node.SlotPlace.TheVariants.{Reference}
use Rattle.stream_grammar.specs.Reading.{slot_at, coded}
use Rattle.ser_read.specs.declared.fault.StreamFault.TheVariants.{OutOfMemory}
use Rattle.ser_read.specs.Tables.{now_of}
use Rattle.ser_read.proofs.Slots.{slot_gives}
use Rattle.ser_read.proofs.Blocks.{slack_start, slack_next}
use Rattle.ser_read.proofs.Breaking.{took, nearer}
use Rattle.ser_read.proofs.Stopping.{whole_stops}
use Rattle.ser_read.proofs.ToEnd.{slack_all, no_code, whole_raised}
use Rattle.ser_read.proofs.whole.items_to_end.Goals as goal

pub loop-items-init : goal.loop-items-init
loop-items-init g c = record {
  lent = refl;
  unread = refl;
  slack = rw c.new-items.ensures.items (slack_start _ (λ end. slot_at end 200 Reference c.args.table.now.unread.items) false (now_of c.args.table.now));
}

pub returns-in_err-next_code-clause-stops : goal.returns-in_err-next_code-clause-stops
returns-in_err-next_code-clause-stops g c = whole_raised c.from_residual.result c.from_residual.ensures.1 (no_code c.in_err-next_code.field-0.0 c.loop-items.invariant.slack c.in_err-next_code.ensures.stops)

pub returns-in-None-clause-reads : goal.returns-in-None-clause-reads
returns-in-None-clause-reads g c =
    let ended = c.in_ok-next_code.ensures.ends c.in-None.is in
    rw c.from_vec.ensures (slack_all c.loop-items.invariant.slack ended.0 ended.1)

pub returns-in_err-item-in-Some-clause-stops : goal.returns-in_err-item-in-Some-clause-stops
returns-in_err-item-in-Some-clause-stops g c = whole_raised c.from_residual-in_err-item-in-Some.result c.from_residual-in_err-item-in-Some.ensures.1
    (whole_stops (λ end. coded end 200 (slot_at end (200 - 1)) Reference c.args.table.now.unread.items c.loop-items.pull.at c.in-Some.code) c.in_err-item-in-Some.field-0.0 c.loop-items.invariant.slack (rw c.in-Some.is at c.in_ok-next_code.ensures.reads)
    (λ end bs here. slot_gives end 200 Reference c.args.table.now.unread.items (now_of c.loop-items.table) (c.in-Some.code ∷ bs) c.loop-items.pull.at c.in-Some.code bs here refl) (rw c.loop-items.invariant.unread at c.in_err-item-in-Some.ensures.stops))

pub returns-in_err-add-in-Some-clause-stops : goal.returns-in_err-add-in-Some-clause-stops
returns-in_err-add-in-Some-clause-stops g c = whole_raised c.from_residual-in_err-add-in-Some.result c.from_residual-in_err-add-in-Some.ensures.1
    (whole_stops (λ end. coded end 200 (slot_at end (200 - 1)) Reference c.args.table.now.unread.items c.loop-items.pull.at c.in-Some.code) OutOfMemory c.loop-items.invariant.slack (rw c.in-Some.is at c.in_ok-next_code.ensures.reads)
    (λ end bs here. slot_gives end 200 Reference c.args.table.now.unread.items (now_of c.loop-items.table) (c.in-Some.code ∷ bs) c.loop-items.pull.at c.in-Some.code bs here refl) (took (rw c.loop-items.invariant.unread at c.in_ok-item-in-Some.ensures.reads)))

pub loop-items-preserved : goal.loop-items-preserved
loop-items-preserved g c =
    record {
      lent = c.in_ok-item-in-Some.ensures.lent ∙ c.in_ok-next_code.ensures.lent ∙ c.loop-items.invariant.lent;
      unread = c.in_ok-item-in-Some.ensures.unread ∙ c.loop-items.invariant.unread;
      slack = rw c.in_ok-add-in-Some.ensures (slack_next {within = false} (λ end. coded end 200 (slot_at end (200 - 1)) Reference c.args.table.now.unread.items c.loop-items.pull.at c.in-Some.code) c.loop-items.invariant.slack
          (rw c.in-Some.is at c.in_ok-next_code.ensures.reads) (rw c.loop-items.invariant.unread at c.in_ok-item-in-Some.ensures.reads) refl
          (λ end bs here. slot_gives end 200 Reference c.args.table.now.unread.items (now_of c.loop-items.table) (c.in-Some.code ∷ bs) c.loop-items.pull.at c.in-Some.code bs here refl));
    }

pub loop-items-smaller : goal.loop-items-smaller
loop-items-smaller g c = nearer (rw c.in-Some.is at c.in_ok-next_code.ensures.reads) c.in_ok-item-in-Some.ensures.reads c.item.new.pull.within
