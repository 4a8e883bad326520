use Rattle.std.proofs.Common.{ap, ◌∙◌, subst}
use Rattle.std.proofs.lemmas.Result.{err_from_is_err_and}
use Rattle.history.specs.declared.asks.Ask.TheVariants as asks
use Rattle.object_ids.specs.declared.ids.ObjId.{ObjId}
use Rattle.lease_world.specs.Stands.{IsTurned}
use Rattle.lease_world.specs.World.{finish_by}
use Rattle.lease_world.proofs.Stepping.{make-spent, make-end}
use Rattle.lease_world.proofs.world.World.make.Goals as goal

pub returns-in_err-uid : goal.returns-in_err-uid
returns-in_err-uid c =
    let p = err_from_is_err_and c.from_residual.result c.from_residual.ensures.1 in
    let told = c.in_err-uid.ensures {u = tt} in
    rw (p.1, p.2) (make-spent c.args.self.now c.in_err-uid.field-0.0 told.events told.err)

pub returns : goal.returns
returns c =
    let begun = subst (λ (o : ObjId). IsTurned c.args.self.now 0 (asks.Begin o) c.in_ok-_granted._granted c.turn.new.self) c.object_of.ensures (c.in_ok-_granted.ensures {u = tt}).ok in
    make-end c.args.self.now c.turn.new.self c.return_object.new.self c.in_ok-_granted._granted c.in_ok-finish.finish c.return_object.result begun
    ((c.in_ok-finish.ensures {u = tt}) ∙ ap finish_by (c.in_ok-uid.ensures {u = tt}).ok)
    c.return_object.ensures.ok c.return_object.ensures.refused c.return_object.ensures.err
