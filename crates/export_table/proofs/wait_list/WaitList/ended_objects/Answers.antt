use Rattle.std.proofs.Common.{◌≡◌, List, ap, subst, ◌∙◌}
use Rattle.std.specs.Prelude.{IfOk}
use Rattle.object_ids.specs.declared.ids.ObjId.{ObjId}
use Rattle.export_table.specs.Waits.{ended_waits, objects}
use Rattle.export_table.specs.WaitTable.{WaitTable}
use Rattle.export_table.proofs.wait_list.WaitList.ended_objects.Goals as goal

pub returns : goal.returns
returns c =
    let P : List ObjId → Type 0 = λ l. IfOk c.objects_that_go.result (λ os. os.items ≡ l) in
    subst P (ap objects (c.due.ensures.over ∙ ap (λ (t : WaitTable). ended_waits c.args.time t.waits) c.self.view_is)) c.objects_that_go.ensures
