use Rattle.java_shapes.proofs.StaysMore.{one_stays}
use Rattle.java_shapes.proofs.laws.views_stay.Goals as goal

pub returns : goal.returns
returns c = one_stays
