use Rattle.std.proofs.Common.{◌∙◌, ap, ℕ, List}
use Rattle.java_shapes.specs.Objects.{same_text}
use Rattle.java_shapes.proofs.Same.{same_by}
use Rattle.system_objects.proofs.fixed_returns.is_remote.Goals as goal

pub returns : goal.returns
returns c = same_by c.are_equal.result c.as_slice.result.now c.remote.result.now c.are_equal.ensures
    ∙ ap (λ (l : List ℕ). same_text l c.remote.result.now) c.as_slice.ensures ∙ ap (λ (l : List ℕ). same_text c.args.interface.now l) c.remote.ensures
