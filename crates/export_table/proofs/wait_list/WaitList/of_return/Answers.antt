use Rattle.std.proofs.Common.{◌≡◌, ◌-◌, List, map, take, drop, ap, subst, ◌∙◌}
use Rattle.std.specs.Prelude.{IfOk, filter, not}
use Rattle.object_ids.specs.declared.ids.ObjId.{ObjId}
use Rattle.export_table.specs.declared.waits.Wait.{Wait}
use Rattle.export_table.specs.declared.waits.Stays.TheVariants.{OtherReturns}
use Rattle.export_table.specs.WaitIndex.{stays}
use Rattle.export_table.specs.WaitTable.{WaitTable}
use Rattle.export_table.proofs.Returning.{objects-between}
use Rattle.export_table.proofs.wait_list.WaitList.of_return.Goals as goal

pub returns : goal.returns
returns c =
    let P : List ObjId → Type 0 = λ l. IfOk c.objects_that_go.result (λ os. os.items ≡ l) in
    let part = c.part_of-part in
    let same = c.waits.ensures ∙ ap (λ (t : WaitTable). t.waits) c.self.view_is in
    subst P
    (ap (λ l. map (λ (w : Wait). w.object) (filter (λ w. not (stays (OtherReturns c.args.uid.now) w)) (take (part.result.1 - part.result.0) (drop part.result.0 l)))) same
    ∙ objects-between c.args.uid.now c.args.self.now.waits part.result.0 part.result.1 part.ensures.order part.ensures.before part.ensures.after)
    c.objects_that_go.ensures
