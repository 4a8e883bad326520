use Rattle.lease_world.proofs.Scripts.{no_step_line, no_step, stops_badly, goes_on}
use Rattle.lease_world.proofs.script.play_line.Goals as goal

pub returns-in_default-clause-stops : goal.returns-in_default-clause-stops
returns-in_default-clause-stops c script r =
    stops_badly script c.args.lines.now c.args.world.now c.args.number c.requires.some (no_step_line c.args.lines.now c.in_default.ensures) r

pub returns-in_default-read_step-clause-stops : goal.returns-in_default-read_step-clause-stops
returns-in_default-read_step-clause-stops c script r =
    stops_badly script c.args.lines.now c.args.world.now c.args.number c.requires.some
    (no_step c.args.lines.now c.in-Some.line.now c.in-Some.rest.now c.in-Some.ensures.0 c.in-Some.ensures.1 c.in_default-read_step.ensures) r

pub returns-in-Ok-clause-goes : goal.returns-in-Ok-clause-goes
returns-in-Ok-clause-goes c script r =
    goes_on script c.args.lines.now c.in-Some.line.now c.in-Some.rest.now c.args.world.now c.step.new.self c.args.number c.in-Some-read_step.step
    c.in-Some.ensures.0 c.in-Some.ensures.1 c.in-Some-read_step.ensures c.in-Ok.ensures.ok r
