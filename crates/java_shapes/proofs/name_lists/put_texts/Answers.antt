use Rattle.std.proofs.Common.{◌∙◌, ap, Some, ℕ, List}
use Rattle.java_shapes.proofs.Built.{texts_seen}
use Rattle.java_shapes.proofs.name_lists.put_texts.Goals as goal

pub returns-in-Ok-clause-viewed : goal.returns-in-Ok-clause-viewed
returns-in-Ok-clause-viewed c =
    texts_seen c.put_some_texts.new.b c.as_slice-names.result.now c.in-Ok.slot c.in-Ok.ensures.1 ∙ ap (λ (l : List (List ℕ)). Some l) c.as_slice-names.ensures
