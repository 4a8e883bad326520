use Rattle.std.proofs.Common.{◌≡◌, false, ◌-◌}
use Rattle.ser_values.specs.declared.node.SlotPlace.TheVariants.{Reference}
use Rattle.wire_io.specs.Pulled.{pull_state}
use Rattle.stream_grammar.specs.Reading.{slot_at}
use Rattle.ser_read.specs.Tables.{now_of}
use Rattle.ser_read.proofs.Blocks.{Slack}
use Rattle.ser_read.proofs.whole.items_to_end.Given as goal

abbrev pub invariant-loop-items : goal.invariant-loop-items
invariant-loop-items g l =
    record {
      lent : l.pull.source.ghost_name ≡ l.fn.pull.source.ghost_name;
      unread : l.table.unread.items ≡ l.fn.table.unread.items;
      slack : Slack (pull_state g.S.Source.half l.fn.pull) (pull_state g.S.Source.half l.pull) (λ end. (slot_at end 200 Reference l.fn.table.unread.items)) false (now_of l.fn.table) (now_of l.table) l.items.items;
    }

abbrev pub decreases-loop-items : goal.decreases-loop-items
decreases-loop-items g l = l.pull.stop - l.pull.at
