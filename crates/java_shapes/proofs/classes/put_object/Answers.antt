use Rattle.java_shapes.proofs.Growth.{puts_node}
use Rattle.java_shapes.proofs.classes.put_object.Goals as goal

pub returns : goal.returns
returns c = puts_node c.args.b.now c.object.new.self _ c.object.result c.object.ensures
