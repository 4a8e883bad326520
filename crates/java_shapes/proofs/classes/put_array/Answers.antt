use Rattle.java_shapes.proofs.Growth.{puts_node}
use Rattle.java_shapes.proofs.classes.put_array.Goals as goal

pub returns : goal.returns
returns c = puts_node c.args.b.now c.array.new.self _ c.array.result c.array.ensures
