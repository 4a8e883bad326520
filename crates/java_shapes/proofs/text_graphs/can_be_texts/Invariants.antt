use Rattle.std.specs.Prelude.{All}
use Rattle.std.proofs.Common.{take}
use Rattle.java_shapes.specs.TextsGraph.{CanBeText}
use Rattle.java_shapes.proofs.text_graphs.can_be_texts.Given as goal

abbrev pub invariant-loop-name : goal.invariant-loop-name
invariant-loop-name l = All CanBeText (take l.name-index l.names)
