use Rattle.ser_read.specs.Tables.{now_of}
use Rattle.wire_io.specs.Pulled.{pull_state}
use Rattle.ser_read.specs.Whole.{stream_at, ReadsAll}
use Rattle.ser_read.proofs.ToEnd.{magic_breaks, items_break, whole_raised, stream_reads, graph_of}
use Rattle.ser_read.proofs.whole.graph.Goals as goal

pub returns-clause-reads : goal.returns-clause-reads
returns-clause-reads g c =
    rw (c.from_parts.ensures.nodes, c.from_parts.ensures.items, c.into_nodes.ensures)
    (stream_reads c.in_ok-items.items (now_of c.items_to_end.new.table) c.in_ok-magic.ensures.reads (rw (c.new-table.ensures.nodes, c.new-table.ensures.parts, c.new-table.ensures.unread) at c.in_ok-items.ensures.reads))

pub from_parts-requires : goal.from_parts-requires
from_parts-requires g c =
    let reads : ReadsAll (pull_state g.S.Source.half c.args.pull.now) (pull_state g.S.Source.half c.items_to_end.new.pull) stream_at (c.into_nodes.result, c.in_ok-items.items) =
    rw c.into_nodes.ensures (stream_reads c.in_ok-items.items (now_of c.items_to_end.new.table) c.in_ok-magic.ensures.reads (rw (c.new-table.ensures.nodes, c.new-table.ensures.parts, c.new-table.ensures.unread) at c.in_ok-items.ensures.reads)) in
    ∣ graph_of reads ∣₁

pub returns-in_err-magic-clause-stops : goal.returns-in_err-magic-clause-stops
returns-in_err-magic-clause-stops g c = whole_raised c.from_residual.result c.from_residual.ensures.1 (magic_breaks c.in_err-magic.ensures.stops)

pub returns-in_err-items-clause-stops : goal.returns-in_err-items-clause-stops
returns-in_err-items-clause-stops g c = whole_raised c.from_residual-in_err-items.result c.from_residual-in_err-items.ensures.1
    (items_break c.in_ok-magic.ensures.reads (rw (c.new-table.ensures.nodes, c.new-table.ensures.parts, c.new-table.ensures.unread) at c.in_err-items.ensures.stops))
