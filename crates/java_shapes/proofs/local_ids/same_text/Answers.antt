use Rattle.java_shapes.proofs.Same.{same_by}
use Rattle.java_shapes.proofs.local_ids.same_text.Goals as goal

pub returns : goal.returns
returns c = same_by c.is_same.result c.args.text.now c.args.other.now c.is_same.ensures
