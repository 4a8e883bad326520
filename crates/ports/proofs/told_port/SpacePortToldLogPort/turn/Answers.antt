use Rattle.std.proofs.Common.{◌<◌, ◌+◌, ◌++◌, List, length, ap, sym, refl, subst, ◌∙◌}
use Rattle.history.specs.declared.asks.Ask.{Ask}
use Rattle.history.specs.Running.{running_calls_by}
use Rattle.history.specs.Table.{places}
use Rattle.space.proofs.AnswerLaws.{answer-as}
use Rattle.space.specs.declared.asked.Asked.{Asked}
use Rattle.ports.specs.Ports.{Shows, entries_of}
use Rattle.ports.specs.Ties.{IsTiedTold, Leads}
use Rattle.ports.proofs.TieSteps.{tied-told-turn, leads-told, shown-runs}
use Rattle.ports.proofs.told_port.SpacePortToldLogPort.turn.Goals as goal

pub returns-clause-asked : goal.returns-clause-asked
returns-clause-asked c = c.push_turn.ensures ∙ ap (λ (a : Ask). c.args.self.now.asked ++ entries_of c.args.moment a c.turn-answer.result) c.of-told.ensures

pub returns-clause-answer : goal.returns-clause-answer
returns-clause-answer c =
    let s = c.args.self.now.space.now in let by = c.args.self.now.by in let before = c.args.self.now.asked in
    answer-as (λ o. 0 < running_calls_by (places s.configuration s.events) by o) (Shows before) c.args.ask c.turn-answer.result
    (λ o h. shown-runs by s before (length before + length before) o c.requires.ready h) c.turn-answer.ensures.row

pub returns-clause-ready : goal.returns-clause-ready
returns-clause-ready c =
    let s = c.args.self.now.space.now in let by = c.args.self.now.by in let before = c.args.self.now.asked in
    subst (λ (l : List Asked). IsTiedTold by c.turn-answer.new.self l) (sym (returns-clause-asked c))
    (tied-told-turn by c.args.moment c.args.ask s c.turn-answer.new.self before c.turn-answer.result c.requires.ready c.turn-answer.ensures.step c.turn-answer.ensures.config)

pub returns-clause-leads : goal.returns-clause-leads
returns-clause-leads c =
    let s = c.args.self.now.space.now in let by = c.args.self.now.by in let before = c.args.self.now.asked in (
      refl,
      refl,
      subst (λ (l : List Asked). Leads by s before c.turn-answer.new.self l) (sym (returns-clause-asked c))
          (leads-told by c.args.moment c.args.ask s c.turn-answer.new.self before c.turn-answer.result c.turn-answer.ensures.step c.turn-answer.ensures.config),
    )
