use Rattle.std.proofs.Common.{Ok, Err, rules}
use Rattle.history.specs.Steps.{Step}
use Rattle.space.specs.Acts.{event_of}
use Rattle.space.proofs.AnswerLaws.{answer-row}
use Rattle.space.proofs.Bindings.{names-short}
use Rattle.space.proofs.turns.Space.turn.Goals as goal

pub returns-in-Ok-clause-row : goal.returns-in-Ok-clause-row
returns-in-Ok-clause-row c =
    let t = c.self.inside.tables in
    let step : Step c.args.self.now.configuration c.args.self.now.events (event_of c.args.by c.args.moment c.args.ask) (Ok c.in-Ok.turn) c.turn_with.new.self.events = search rules in
    answer-row t.config t.events.items c.turn_with.new.self.events (event_of c.args.by c.args.moment c.args.ask) t.leases t.exports t.runs.items t.withdrawn.items t.reported t.added t.units t.moment c.args.self.now (Ok c.in-Ok.turn)
    c.self.invariant.0 (names-short t.config t.events.items t.names c.self.invariant.2 c.len-count.ensures.sound) c.self.view_is step

pub returns-in-Err-clause-row : goal.returns-in-Err-clause-row
returns-in-Err-clause-row c =
    let t = c.self.inside.tables in
    let step : Step c.args.self.now.configuration c.args.self.now.events (event_of c.args.by c.args.moment c.args.ask) (Err c.in-Err.refused) c.turn_with.new.self.events = search rules in
    answer-row t.config t.events.items c.turn_with.new.self.events (event_of c.args.by c.args.moment c.args.ask) t.leases t.exports t.runs.items t.withdrawn.items t.reported t.added t.units t.moment c.args.self.now (Err c.in-Err.refused)
    c.self.invariant.0 (names-short t.config t.events.items t.names c.self.invariant.2 c.len-count.ensures.sound) c.self.view_is step
