use Rattle.std.proofs.Common.{refl, inl, inr}
use Rattle.lease_world.proofs.Scripts.{no_first_line, no_world, begins, printed}
use Rattle.lease_world.proofs.script.run_world.Goals as goal

pub returns-in_default-clause-stopped : goal.returns-in_default-clause-stopped
returns-in_default-clause-stopped c = inr (inl (refl, no_first_line c.args.script.now c.in_default.ensures))

pub returns-in_default-read_world_line-clause-stopped : goal.returns-in_default-read_world_line-clause-stopped
returns-in_default-read_world_line-clause-stopped c =
    inr (inl (refl, no_world c.args.script.now c.in-Some.line.now c.in-Some.rest.now c.in-Some.ensures.0 c.in-Some.ensures.1 c.in_default-read_world_line.ensures))

pub returns-clause-printed : goal.returns-clause-printed
returns-clause-printed c =
    printed c.args.script.now c.in_ok-text.text c.play.new.world
    ((c.in_ok-play.ensures {u = tt}).goes c.args.script.now
    (begins c.args.script.now c.in-Some.line.now c.in-Some.rest.now c.in_ok-world.world c.in-Some-read_world_line.first c.in-Some.ensures.0 c.in-Some.ensures.1
    c.in-Some-read_world_line.ensures (c.in_ok-world.ensures {u = tt}).ok))
    (c.in_ok-text.ensures {u = tt})
