use Rattle.std.proofs.Common.{◌≡◌, ◌++◌, take}
use Rattle.graph_text.specs.GraphText.{node_lines}
use Rattle.graph_text.proofs.lines.put_nodes.Given as goal

abbrev pub invariant-loop-number : goal.invariant-loop-number
invariant-loop-number l = l.out ≡ l.fn.out ++ node_lines 0 (take l.number l.nodes)
