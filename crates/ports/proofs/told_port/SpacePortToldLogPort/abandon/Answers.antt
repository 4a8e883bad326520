use Rattle.std.proofs.Common.{List, sym, subst}
use Rattle.space.specs.declared.asked.Asked.{Asked}
use Rattle.ports.specs.Ties.{IsTiedTold}
use Rattle.ports.proofs.TieSteps.{tied-told-end}
use Rattle.ports.proofs.told_port.SpacePortToldLogPort.abandon.Goals as goal

pub returns-clause-ready : goal.returns-clause-ready
returns-clause-ready c =
    let s = c.args.self.now.space.now in let by = c.args.self.now.by in let before = c.args.self.now.asked in
    subst (λ (l : List Asked). IsTiedTold by c.abandon.new.self l) (sym c.push_abandoned.ensures)
    (tied-told-end by c.args.moment c.args.object s c.abandon.new.self before c.len-place.result c.requires.ready c.requires.runs c.abandon.ensures.events c.abandon.ensures.config)
