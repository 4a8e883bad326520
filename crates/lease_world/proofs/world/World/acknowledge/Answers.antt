use Rattle.std.proofs.Common.{subst}
use Rattle.std.proofs.lemmas.Result.{err_from_is_err_and}
use Rattle.history.specs.declared.asks.Ask.TheVariants as asks
use Rattle.object_ids.specs.declared.ids.Uid.{Uid}
use Rattle.lease_world.specs.Stands.{IsCause, IsTurned, refusal_at}
use Rattle.lease_world.proofs.Stepping.{ack-step, ack-refused, ack-bad}
use Rattle.lease_world.proofs.world.World.acknowledge.Goals as goal

pub returns-in_default : goal.returns-in_default
returns-in_default c = ack-bad c.args.self.now c.args.make (c.in_default.ensures {u = tt})

pub returns-in_err-_granted : goal.returns-in_err-_granted
returns-in_err-_granted c =
    let p = err_from_is_err_and c.from_residual.result c.from_residual.ensures.1 in
    let is = c.in-Some.ensures {u = tt} in
    rw (p.1, p.2) (ack-refused c.args.self.now c.turn.new.self c.args.make c.in_err-_granted.field-0.0 is.1 (c.in_err-_granted.ensures {u = tt}).err
    (subst (λ (x : Uid). IsCause c.in_err-_granted.field-0.0 (refusal_at c.args.self.now 0 (asks.Ack x))) is.0 (c.in_err-_granted.ensures {u = tt}).refused))

pub returns : goal.returns
returns c =
    let is = c.in-Some.ensures {u = tt} in
    ack-step c.args.self.now c.turn.new.self c.args.make c.in_ok-_granted._granted is.1
    (subst (λ (x : Uid). IsTurned c.args.self.now 0 (asks.Ack x) c.in_ok-_granted._granted c.turn.new.self) is.0 (c.in_ok-_granted.ensures {u = tt}).ok)
