use Rattle.std.proofs.Common.{[]}
use Rattle.turn_lock.specs.PortLaws.{root_after}
use Rattle.turn_lock.proofs.handles.Root.wants_tick.Goals as goal

pub returns-clause-root : goal.returns-clause-root
returns-clause-root g c =
    let t = c.wants_tick.ensures in
    root_after c.args.lock.now c.args.self.now c.wants_tick.new.self [] c.requires.own t.pass.0 t.went
