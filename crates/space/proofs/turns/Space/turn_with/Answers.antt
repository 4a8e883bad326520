use Rattle.std.proofs.Common.{◌∷◌, ◌++◌, [], List, ap, sym, subst, ◌∙◌, arith, Ok, refl, length-append}
use Rattle.history.specs.declared.asks.Event.{Event}
use Rattle.history.specs.Steps.{Step}
use Rattle.space.specs.Acts.{event_of}
use Rattle.space.proofs.CollectLaws.{appended-collects}
use Rattle.space.proofs.EndLaws.{appended}
use Rattle.space.proofs.StoredLaws.{stored-kept}
use Rattle.space.proofs.TurnLaws.{step-viewed}
use Rattle.space.proofs.turns.Space.turn_with.Goals as goal

pub put_event-requires-clause-room : goal.put_event-requires-clause-room
put_event-requires-clause-room c =
    let ends = c.in-Ok.ensures.with_event.1.ends in
    let longer = length-append c.turn.new.self.events.items (event_of c.args.by c.args.moment c.args.ask ∷ []) in
    omega (arith, ends, longer)

pub invariant_of-self-in-Err : goal.invariant_of-self-in-Err
invariant_of-self-in-Err c = c.in-Err.ensures.whole

pub invariant_of-self : goal.invariant_of-self
invariant_of-self c =
    let whole = appended c.turn.new.self.config (c.turn.new.self.events.items ++ event_of c.args.by c.args.moment c.args.ask ∷ []) c.put_event.new.events.items c.turn.new.self.leases c.turn.new.self.exports c.turn.new.self.runs.items c.turn.new.self.withdrawn.items
    c.turn.new.self.reported c.turn.new.self.added c.turn.new.self.units c.turn.new.self.moment c.turn.new.self.events.capacity c.put_event.new.events.capacity c.turn.new.self.withdrawn.room c.turn.new.self.names
    (c.in-Ok.ensures.with_event.0, c.in-Ok.ensures.with_event.1, c.in-Ok.ensures.with_event.2) c.put_event.ensures.items c.put_event.ensures.capacity in
    (whole.0, whole.1, whole.2, stored-kept c.in-Ok.ensures.with_event.3 c.put_event.ensures.stored refl)

pub returns-in-Ok-clause-step : goal.returns-in-Ok-clause-step
returns-in-Ok-clause-step c =
    let Q : List Event → Type 0 = λ es. Step c.self.inside.tables.config c.self.inside.tables.events.items (event_of c.args.by c.args.moment c.args.ask) (Ok c.in-Ok.turn.0) es in
    step-viewed c.self.inside.tables.config c.self.inside.tables.events.items c.put_event.new.events.items (event_of c.args.by c.args.moment c.args.ask) (Ok c.in-Ok.turn.0) c.args.self.now c.self.view_is
    (subst Q (sym (c.put_event.ensures.items ∙ ap (λ es. es ++ event_of c.args.by c.args.moment c.args.ask ∷ []) c.turn.ensures.events)) c.in-Ok.ensures.taken)

pub returns-in-Ok-clause-collector : goal.returns-in-Ok-clause-collector
returns-in-Ok-clause-collector c =
    let whole = appended c.turn.new.self.config (c.turn.new.self.events.items ++ event_of c.args.by c.args.moment c.args.ask ∷ []) c.put_event.new.events.items c.turn.new.self.leases c.turn.new.self.exports c.turn.new.self.runs.items c.turn.new.self.withdrawn.items
    c.turn.new.self.reported c.turn.new.self.added c.turn.new.self.units c.turn.new.self.moment c.turn.new.self.events.capacity c.put_event.new.events.capacity c.turn.new.self.withdrawn.room c.turn.new.self.names
    (c.in-Ok.ensures.with_event.0, c.in-Ok.ensures.with_event.1, c.in-Ok.ensures.with_event.2) c.put_event.ensures.items c.put_event.ensures.capacity in
    appended-collects c.self.inside.tables.config c.turn.new.self.config c.self.inside.tables.events.items c.put_event.new.events.items c.self.inside.tables.exports.rows c.turn.new.self.exports.rows (event_of c.args.by c.args.moment c.args.ask) c.args.self.now c.self.view_is
    c.self.invariant.0.stands.rows_are whole.0.stands.rows_are c.turn.ensures.config (c.put_event.ensures.items ∙ ap (λ es. es ++ event_of c.args.by c.args.moment c.args.ask ∷ []) c.turn.ensures.events)
