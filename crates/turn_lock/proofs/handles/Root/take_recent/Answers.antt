use Rattle.std.proofs.Common.{[]}
use Rattle.turn_lock.specs.Lending.{with_pass}
use Rattle.turn_lock.specs.PortLaws.{pass_self, root_after}
use Rattle.turn_lock.proofs.Passes.{root_kept}
use Rattle.turn_lock.proofs.handles.Root.take_recent.Goals as goal

pub returns-in-Some-clause-went : goal.returns-in-Some-clause-went
returns-in-Some-clause-went g c = pass_self c.args.self.now.pass

pub returns-in-Some-take_recent-clause-root : goal.returns-in-Some-take_recent-clause-root
returns-in-Some-take_recent-clause-root g c =
    let t = c.take_recent.ensures in
    let q = c.take_recent.new.self in
    root_kept c.args.lock.now (with_pass c.args.self.now q) _ (root_after c.args.lock.now c.args.self.now q [] c.requires.own t.pass t.went)

pub returns-in-None-clause-root : goal.returns-in-None-clause-root
returns-in-None-clause-root g c =
    let t = c.take_recent.ensures in
    root_after c.args.lock.now c.args.self.now c.take_recent.new.self [] c.requires.own t.pass t.went
