use Rattle.std.proofs.Common.{rules}
use Rattle.graph_text.proofs.NodeLines.{one_line_more}
use Rattle.graph_text.proofs.lines.put_nodes.Goals as goal

pub loop-number-preserved : goal.loop-number-preserved
loop-number-preserved c =
    one_line_more c.args.out.now c.loop-number.out c.put_node_line.new.out c.args.nodes.now c.loop-number.number c.index-nodes-number.result c.loop-number-test.true
    (search rules) c.loop-number.invariant (c.in_ok-put_node_line.ensures)
