use Rattle.std.proofs.Common.{◌≡◌, ◌≤◌, ◌<◌, ◌+◌, ◌++◌, ◌∷◌, [], length, ap, ◌∙◌, refl, rules, arith, inl, inr}
use Rattle.history.specs.Running.{running_calls_by}
use Rattle.history.specs.Table.{places}
use Rattle.ports.specs.Ports.{Shows}
use Rattle.space.proofs.AnswerLaws.{answer-as}
use Rattle.turn_lock.specs.Handles.{view_of}
use Rattle.turn_lock.proofs.PortSteps.{tied_entered, tied_unentered, shown_there, went_entered, went_same, went_unentered}
use Rattle.turn_lock.proofs.port.PassPortAskedLogPort.turn.Goals as goal

pub returns-in-Ok-clause-answer : goal.returns-in-Ok-clause-answer
returns-in-Ok-clause-answer g c =
    let p = c.args.self.now.pass.now in
    let t = c.in-Ok.ensures.turned in
    answer-as (λ o. 0 < running_calls_by (places (view_of p).config t.0) p.number o) (Shows c.args.self.now.asked.items) c.args.ask c.in-Ok.answer
    (λ o h. shown_there (view_of p) t.0 p.number c.args.self.now.asked.items c.args.self.now.asked.capacity o c.requires.ready.0.numbered t.1.came c.requires.ready.1 h) t.2

pub returns-in-Ok-clause-ready : goal.returns-in-Ok-clause-ready
returns-in-Ok-clause-ready g c =
    let p = c.args.self.now.pass.now in
    let t = c.in-Ok.ensures.turned in
    let room : length c.reserve.new.self.items + (c.len.result + 2) ≤ c.reserve.new.self.capacity = search rules in
    let before : c.len.result ≡ length c.args.self.now.asked.items = search rules in
    let same = ap length c.reserve.ensures.items in
    let capacity = c.push_reserved.ensures.capacity in (
      c.turn_noted.ensures.pass.0,
      tied_entered (view_of p) (view_of c.turn_noted.new.self) t.0 p.number c.args.moment c.args.ask c.in-Ok.answer c.args.self.now.asked.items c.push_reserved.new.self.items c.in-Ok.entry c.args.self.now.asked.capacity c.push_reserved.new.self.capacity
          c.requires.ready.0.numbered t.1 c.requires.ready.1 c.in-Ok.ensures.noted (c.push_reserved.ensures.items ∙ ap (λ l. l ++ c.in-Ok.entry ∷ []) c.reserve.ensures.items) (omega (arith, room, before, same, capacity)),
    )

pub returns-in-Ok-clause-leads : goal.returns-in-Ok-clause-leads
returns-in-Ok-clause-leads g c =
    let p = c.args.self.now.pass.now in
    let t = c.in-Ok.ensures.turned in
    let after = c.turn_noted.ensures.pass in (
      refl,
      refl,
      went_entered p c.turn_noted.new.self c.args.self.now.asked.items c.push_reserved.new.self.items t.0 p.number c.args.moment c.args.ask c.in-Ok.answer c.in-Ok.entry c.in-Ok.ensures.known c.requires.ready.0.numbered t.1 c.in-Ok.ensures.noted
          (c.push_reserved.ensures.items ∙ ap (λ l. l ++ c.in-Ok.entry ∷ []) c.reserve.ensures.items) after.1,
    )

pub returns-in-Err-clause-ready : goal.returns-in-Err-clause-ready
returns-in-Err-clause-ready g c =
    let p = c.args.self.now.pass.now in
    let t = c.in-Err.ensures.turned in
    let grows : c.args.self.now.asked.capacity ≤ c.reserve.new.self.capacity = search rules in (
      c.turn_noted.ensures.pass.0,
      tied_unentered (view_of p) (view_of c.turn_noted.new.self) t.0 p.number c.args.moment c.args.ask c.args.self.now.asked.items c.reserve.new.self.items c.args.self.now.asked.capacity c.reserve.new.self.capacity
          t.1 c.requires.ready.1 c.reserve.ensures.items grows,
    )

pub returns-in-Err-clause-leads : goal.returns-in-Err-clause-leads
returns-in-Err-clause-leads g c =
    let p = c.args.self.now.pass.now in
    let t = c.in-Err.ensures.turned in
    let after = c.turn_noted.ensures.pass in
    (refl, refl, went_unentered p c.turn_noted.new.self c.args.self.now.asked.items c.reserve.new.self.items t.0 _ t.1 c.reserve.ensures.items after.1)

pub returns-then-is_err-clause-leads : goal.returns-then-is_err-clause-leads
returns-then-is_err-clause-leads g c = (refl, refl, went_same c.args.self.now.pass.now c.args.self.now.asked.items c.reserve.new.self.items c.reserve.ensures.items)

pub returns-in-Ok-clause-turned : goal.returns-in-Ok-clause-turned
returns-in-Ok-clause-turned g c = inl c.in-Ok.ensures.turned

pub returns-in-Err-clause-turned : goal.returns-in-Err-clause-turned
returns-in-Err-clause-turned g c = inl c.in-Err.ensures.turned

pub returns-then-is_err-clause-turned : goal.returns-then-is_err-clause-turned
returns-then-is_err-clause-turned g c = inr (refl, refl)
