use Rattle.std.proofs.Common.{◌≡◌, ◌≤◌, ◌<◌, ◌+◌, ◌++◌, ◌∷◌, [], length, List, ap, sym, refl, subst, ◌∙◌, rules, arith}
use Rattle.history.specs.Running.{running_calls_by}
use Rattle.history.specs.Table.{places}
use Rattle.space.specs.Entries.{entry_of}
use Rattle.ports.specs.Ports.{Shows}
use Rattle.ports.specs.Ties.{Leads}
use Rattle.space.proofs.AnswerLaws.{answer-as}
use Rattle.ports.proofs.TieSteps.{tied-as, tied-answered, shown-runs, goes-answered, leads-one}
use Rattle.ports.proofs.direct_port.SpacePortAskedLogPort.turn.Goals as goal

pub returns-in-Ok-clause-answer : goal.returns-in-Ok-clause-answer
returns-in-Ok-clause-answer c =
    answer-as (λ o. 0 < running_calls_by (places c.args.self.now.space.now.configuration c.args.self.now.space.now.events) c.args.self.now.by o) (Shows c.args.self.now.asked.items) c.args.ask c.in-Ok.answer
    (λ o h. shown-runs c.args.self.now.by c.args.self.now.space.now c.args.self.now.asked.items c.args.self.now.asked.capacity o c.requires.ready h) c.in-Ok.ensures.row

pub returns-in-Ok-clause-ready : goal.returns-in-Ok-clause-ready
returns-in-Ok-clause-ready c =
    let room : length c.reserve.new.self.items + (c.len.result + 2) ≤ c.reserve.new.self.capacity = search rules in
    let before : c.len.result ≡ length c.args.self.now.asked.items = search rules in
    let same = ap length c.reserve.ensures.items in
    let capacity = c.push_reserved.ensures.capacity in
    tied-as c.args.self.now.by c.turn_noted.new.self (c.args.self.now.asked.items ++ entry_of c.args.moment c.args.ask c.in-Ok.answer ∷ []) c.push_reserved.new.self.items c.push_reserved.new.self.capacity c.push_reserved.new.self.capacity
    (c.push_reserved.ensures.items ∙ ap (λ l. l ++ c.in-Ok.entry ∷ []) c.reserve.ensures.items ∙ ap (λ x. c.args.self.now.asked.items ++ x ∷ []) c.in-Ok.ensures.noted) (omega arith)
    (tied-answered c.args.self.now.by c.args.moment c.args.ask c.args.self.now.space.now c.turn_noted.new.self c.args.self.now.asked.items c.args.self.now.asked.capacity c.push_reserved.new.self.capacity c.in-Ok.answer
    c.requires.ready c.in-Ok.ensures.step c.in-Ok.ensures.config (omega (arith, room, before, same, capacity)))

pub returns-in-Ok-clause-leads : goal.returns-in-Ok-clause-leads
returns-in-Ok-clause-leads c =
    let s = c.args.self.now.space.now in
    let goes = goes-answered s.configuration c.args.self.now.by c.args.moment c.args.ask s.events c.turn_noted.new.self.events c.in-Ok.answer c.in-Ok.ensures.known c.in-Ok.ensures.step in
    let led = leads-one c.args.self.now.by s c.turn_noted.new.self c.args.self.now.asked.items (entry_of c.args.moment c.args.ask c.in-Ok.answer) c.in-Ok.ensures.config goes in
    (refl, refl, subst (λ (l : List _). Leads c.args.self.now.by s c.args.self.now.asked.items c.turn_noted.new.self l) (sym (c.push_reserved.ensures.items ∙ ap (λ l. l ++ c.in-Ok.entry ∷ []) c.reserve.ensures.items ∙ ap (λ x. c.args.self.now.asked.items ++ x ∷ []) c.in-Ok.ensures.noted)) led)
