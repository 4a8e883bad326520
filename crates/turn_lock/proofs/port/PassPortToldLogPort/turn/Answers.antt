use Rattle.std.proofs.Common.{◌<◌, ◌+◌, ◌++◌, length, ap, refl, ◌∙◌}
use Rattle.history.specs.declared.asks.Ask.{Ask}
use Rattle.history.specs.Running.{running_calls_by}
use Rattle.history.specs.Table.{places}
use Rattle.ports.specs.Ports.{Shows, entries_of}
use Rattle.space.proofs.AnswerLaws.{answer-as}
use Rattle.turn_lock.specs.Handles.{view_of}
use Rattle.turn_lock.proofs.PortSteps.{tied_told, shown_there, went_told}
use Rattle.turn_lock.proofs.port.PassPortToldLogPort.turn.Goals as goal

pub returns-clause-asked : goal.returns-clause-asked
returns-clause-asked g c = c.push_turn.ensures ∙ ap (λ (a : Ask). c.args.self.now.asked ++ entries_of c.args.moment a c.turn-answer.result) c.of-told.ensures

pub returns-clause-answer : goal.returns-clause-answer
returns-clause-answer g c =
    let p = c.args.self.now.pass.now in
    let before = c.args.self.now.asked in
    let t = c.turn-answer.ensures.turned in
    answer-as (λ o. 0 < running_calls_by (places (view_of p).config t.0) p.number o) (Shows before) c.args.ask c.turn-answer.result
    (λ o h. shown_there (view_of p) t.0 p.number before (length before + length before) o c.requires.ready.0.numbered t.1.came c.requires.ready.1 h) t.2

pub returns-clause-ready : goal.returns-clause-ready
returns-clause-ready g c =
    let p = c.args.self.now.pass.now in
    let t = c.turn-answer.ensures.turned in (
      c.turn-answer.ensures.pass.0,
      tied_told (view_of p) (view_of c.turn-answer.new.self) t.0 p.number c.args.moment c.args.ask c.turn-answer.result c.args.self.now.asked c.push_turn.new.self
          c.requires.ready.0.numbered t.1 c.requires.ready.1 (returns-clause-asked g c),
    )

pub returns-clause-leads : goal.returns-clause-leads
returns-clause-leads g c =
    let p = c.args.self.now.pass.now in
    let t = c.turn-answer.ensures.turned in
    let after = c.turn-answer.ensures.pass in (
      refl,
      refl,
      went_told p c.turn-answer.new.self c.args.self.now.asked c.push_turn.new.self t.0 p.number c.args.moment c.args.ask c.turn-answer.result c.requires.ready.0.numbered t.1 (returns-clause-asked g c) after.1,
    )
