use Rattle.std.proofs.Common.{◌≡◌, List, subst}
use Rattle.std.specs.Prelude.{IfOk}
use Rattle.object_ids.specs.declared.ids.ObjId.{ObjId}
use Rattle.export_table.proofs.Slices.{slice_from}
use Rattle.space.proofs.withdrawals.rest_of.Goals as goal

pub returns : goal.returns
returns c =
    let P : List ObjId → Type 0 = λ l. IfOk c.copy_of_objects.result (λ rest. rest.items ≡ l) in
    subst P (slice_from c.args.from c.args.objects.now) c.copy_of_objects.ensures
