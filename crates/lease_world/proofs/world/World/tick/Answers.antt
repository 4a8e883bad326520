use Rattle.std.proofs.lemmas.Result.{err_from_is_err_and}
use Rattle.lease_world.proofs.Stepping.{tick-step, tick-refused}
use Rattle.lease_world.proofs.world.World.tick.Goals as goal

pub returns-in_err-_granted : goal.returns-in_err-_granted
returns-in_err-_granted c =
    let p = err_from_is_err_and c.from_residual.result c.from_residual.ensures.1 in
    rw (p.1, p.2) (tick-refused c.args.self.now c.turn.new.self c.in_err-_granted.field-0.0 (c.in_err-_granted.ensures {u = tt}).err (c.in_err-_granted.ensures {u = tt}).refused)

pub returns : goal.returns
returns c = tick-step c.args.self.now c.turn.new.self c.in_ok-_granted._granted (c.in_ok-_granted.ensures {u = tt}).ok
