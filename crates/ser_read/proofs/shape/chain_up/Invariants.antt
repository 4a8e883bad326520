use Rattle.std.proofs.Common.{◌≡◌, ◌++◌, ◌&&◌, reverse}
use Rattle.class_desc.specs.declared.slot.Slot.TheVariants.{Node}
use Rattle.stream_grammar.specs.Reading.{chain_of}
use Rattle.ser_read.specs.Chains.{shown}
use Rattle.ser_read.proofs.shape.chain_up.Given as goal

abbrev pub invariant-loop-left : goal.invariant-loop-left
invariant-loop-left l =
    record {
      rows : (shown (chain_of l.left l.nodes l.slot)).0 ++ reverse l.rows ≡ (shown (chain_of 1048576 l.nodes (Node l.class))).0;
      serial : (chain_of l.left l.nodes l.slot).1 && l.is_serial ≡ (chain_of 1048576 l.nodes (Node l.class)).1;
    }

abbrev pub decreases-loop-left : goal.decreases-loop-left
decreases-loop-left l = l.left
