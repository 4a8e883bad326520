use Rattle.java_shapes.proofs.Growth.{puts_node}
use Rattle.java_shapes.proofs.classes.put_desc.Goals as goal

pub returns : goal.returns
returns c = puts_node c.args.b.now c.desc.new.self _ c.desc.result c.desc.ensures
