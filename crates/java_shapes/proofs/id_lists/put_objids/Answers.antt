use Rattle.std.proofs.Common.{◌∙◌, ap, Some, List}
use Rattle.object_ids.specs.declared.ids.ObjId.{ObjId}
use Rattle.java_shapes.proofs.BuiltIds.{ids_seen}
use Rattle.java_shapes.proofs.id_lists.put_objids.Goals as goal

pub returns-in-Ok-clause-viewed : goal.returns-in-Ok-clause-viewed
returns-in-Ok-clause-viewed c =
    ids_seen c.put_some_objids.new.b c.as_slice-ids.result.now c.in-Ok.slot c.in-Ok.ensures.1 ∙ ap (λ (l : List ObjId). Some l) c.as_slice-ids.ensures
