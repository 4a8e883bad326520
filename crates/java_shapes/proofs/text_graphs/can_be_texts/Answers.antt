use Rattle.std.proofs.lemmas.List.{take_all}
use Rattle.java_shapes.proofs.TextsGraph.{texts_more}
use Rattle.java_shapes.proofs.text_graphs.can_be_texts.Goals as goal

pub loop-name-preserved : goal.loop-name-preserved
loop-name-preserved c = texts_more c.args.names.now c.loop-name.name-index c.name-item.result c.loop-name-test.true c.name-item.is (c.can_be_text.ensures c.if-not-can_be_text.false) c.loop-name.invariant

pub returns : goal.returns
returns c = λ yes. rw (take_all c.loop-name.name-index c.args.names.now c.loop-name-test.false) at c.loop-name.invariant
