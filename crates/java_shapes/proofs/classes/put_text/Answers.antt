use Rattle.java_shapes.proofs.Growth.{puts_text}
use Rattle.java_shapes.proofs.classes.put_text.Goals as goal

pub returns : goal.returns
returns c = puts_text c.args.b.now c.text.new.self c.args.text c.text.result c.text.ensures
