use Rattle.std.proofs.Common.{◌≡◌}
use Rattle.std.specs.List.{list_any}
use Rattle.java_shapes.specs.LocalRefs.{refs_below}
use Rattle.client_talk.specs.Contents.{is_for_result}
use Rattle.client_talk.proofs.contents.is_flagged_in.Given as goal

-- Whether a reference among the nodes so far was made for a result.
abbrev pub invariant-loop-number : goal.invariant-loop-number
invariant-loop-number l = l.flagged ≡ list_any is_for_result (refs_below l.graph.nodes l.number)
