use Rattle.std.proofs.Common.{◌∙◌, ap, ℕ, List}
use Rattle.java_shapes.specs.Objects.{same_text}
use Rattle.java_shapes.proofs.Same.{same_by}
use Rattle.java_shapes.proofs.ref_views.is_ascii.Goals as goal

pub returns : goal.returns
returns c = same_by c.are_equal.result c.args.bytes.now c.as_bytes.result.now c.are_equal.ensures ∙ ap (λ (l : List ℕ). same_text c.args.bytes.now l) c.as_bytes.ensures.value
