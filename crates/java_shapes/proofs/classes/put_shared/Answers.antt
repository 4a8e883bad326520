use Rattle.java_shapes.proofs.Growth.{puts_shared}
use Rattle.java_shapes.proofs.classes.put_shared.Goals as goal

pub returns : goal.returns
returns c = puts_shared c.args.b.now c.share_text.new.self c.args.text c.share_text.result c.share_text.ensures.shared c.share_text.ensures.added
