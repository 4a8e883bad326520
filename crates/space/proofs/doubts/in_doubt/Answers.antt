use Rattle.std.proofs.Common.{List, subst}
use Rattle.std.specs.Prelude.{IfOk}
use Rattle.object_ids.specs.declared.ids.ObjId.{ObjId}
use Rattle.space.specs.Doubts.{AreInDoubt}
use Rattle.space.proofs.doubts.in_doubt.Goals as goal

pub returns-then-takes_time : goal.returns-then-takes_time
returns-then-takes_time c =
    let P : List ObjId → Type 0 = λ l. IfOk c.with_passed.result (λ os. AreInDoubt c.args.tables.now.leases c.args.now c.args.tables.now.exports.waits l os.items) in
    subst P c.in_ok-taken.ensures c.with_passed.ensures

pub returns-else-takes_time : goal.returns-else-takes_time
returns-else-takes_time c =
    let P : List ObjId → Type 0 = λ l. AreInDoubt c.args.tables.now.leases c.args.now c.args.tables.now.exports.waits l c.in_ok-taken.taken.items in
    subst P c.in_ok-taken.ensures (c.takes_time.ensures c.if-takes_time.false c.in_ok-taken.taken.items)
