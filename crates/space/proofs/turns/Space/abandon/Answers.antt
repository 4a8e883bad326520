use Rattle.history.specs.declared.asks.Ask.TheVariants.{Abandon}
use Rattle.std.proofs.Common.{◌≡◌, ◌<◌, [], ◌∷◌, ◌++◌, length, refl, sym, max, rules, arith, ◌+◌}
use Rattle.std.specs.Prelude.{true}
use Rattle.history.specs.Running.{running_calls_by}
use Rattle.history.specs.Table.{places}
use Rattle.space.specs.Acts.{event_of}
use Rattle.space.proofs.CollectLaws.{appended-collects}
use Rattle.space.proofs.AbandonLaws.{is-running, runs-effective, end-counted, end-acted, end-keeps, end-room, end-rows, end-step, some-rows}
use Rattle.space.proofs.Bindings.{bindings-same, names-next}
use Rattle.space.proofs.EndLaws.{has-log}
use Rattle.space.proofs.StoredLaws.{stored-kept}
use Rattle.space.proofs.Settling.{settled-but}
use Rattle.space.proofs.turns.Space.abandon.Goals as goal

pub end-requires : goal.end-requires
end-requires c =
    end-counted c.self.inside.tables.config c.self.inside.tables.events.items c.args.by c.args.moment c.args.object c.self.inside.tables.leases c.self.inside.tables.exports c.self.inside.tables.runs.items c.self.inside.tables.withdrawn.items
    c.self.inside.tables.reported c.self.inside.tables.added c.self.inside.tables.units c.self.inside.tables.moment c.self.invariant.0
    (is-running c.self.inside.tables.config c.self.inside.tables.events.items c.args.by c.args.object c.args.self.now c.self.view_is c.requires.running)

pub withdraw-requires-clause-log : goal.withdraw-requires-clause-log
withdraw-requires-clause-log c =
    let time : c.max-now.result ≡ max c.args.moment c.self.inside.tables.moment = search rules in
    let runs : 0 < running_calls_by (places c.self.inside.tables.config c.self.inside.tables.events.items) c.args.by c.args.object = is-running c.self.inside.tables.config c.self.inside.tables.events.items c.args.by c.args.object c.args.self.now c.self.view_is c.requires.running in
    let acts = end-acted c.self.inside.tables.config c.self.inside.tables.events.items c.args.by c.args.moment c.args.object c.self.inside.tables.leases c.lapse.new.self c.self.inside.tables.exports c.end.new.self c.self.inside.tables.runs.items c.self.inside.tables.withdrawn.items
    c.self.inside.tables.reported c.self.inside.tables.added c.self.inside.tables.units c.self.inside.tables.moment c.max-now.result c.self.invariant.0 runs c.requires.moment time c.lapse.ensures.stands c.end.ensures in
    has-log c.self.inside.tables.config c.self.inside.tables.events.items (event_of c.args.by c.args.moment (Abandon c.args.object)) c.self.inside.tables.leases c.lapse.new.self c.self.inside.tables.exports c.end.new.self c.self.inside.tables.runs.items c.self.inside.tables.withdrawn.items
    c.self.inside.tables.reported c.self.inside.tables.added c.self.inside.tables.units c.self.inside.tables.moment true acts

pub withdraw-requires-clause-room : goal.withdraw-requires-clause-room
withdraw-requires-clause-room c =
    let rows = end-rows c.self.inside.tables.exports c.end.new.self c.args.object c.end.ensures in let room = c.self.invariant.1.withdrawals in
    omega (arith, rows, room)

pub withdraw-requires-clause-few : goal.withdraw-requires-clause-few
withdraw-requires-clause-few c =
    let some = some-rows c.self.inside.tables.exports.rows c.args.object (end-counted c.self.inside.tables.config c.self.inside.tables.events.items c.args.by c.args.moment c.args.object c.self.inside.tables.leases c.self.inside.tables.exports c.self.inside.tables.runs.items c.self.inside.tables.withdrawn.items
    c.self.inside.tables.reported c.self.inside.tables.added c.self.inside.tables.units c.self.inside.tables.moment c.self.invariant.0
    (is-running c.self.inside.tables.config c.self.inside.tables.events.items c.args.by c.args.object c.args.self.now c.self.view_is c.requires.running)) in
    let rows = end-rows c.self.inside.tables.exports c.end.new.self c.args.object c.end.ensures in
    omega (arith, some, rows)

pub withdraw-requires-clause-enough : goal.withdraw-requires-clause-enough
withdraw-requires-clause-enough c none =
    let time : c.max-now.result ≡ max c.args.moment c.self.inside.tables.moment = search rules in
    let runs : 0 < running_calls_by (places c.self.inside.tables.config c.self.inside.tables.events.items) c.args.by c.args.object = is-running c.self.inside.tables.config c.self.inside.tables.events.items c.args.by c.args.object c.args.self.now c.self.view_is c.requires.running in
    let acts = end-acted c.self.inside.tables.config c.self.inside.tables.events.items c.args.by c.args.moment c.args.object c.self.inside.tables.leases c.lapse.new.self c.self.inside.tables.exports c.end.new.self c.self.inside.tables.runs.items c.self.inside.tables.withdrawn.items
    c.self.inside.tables.reported c.self.inside.tables.added c.self.inside.tables.units c.self.inside.tables.moment c.max-now.result c.self.invariant.0 runs c.requires.moment time c.lapse.ensures.stands c.end.ensures in
    settled-but c.self.inside.tables.config c.self.inside.tables.events.items (event_of c.args.by c.args.moment (Abandon c.args.object)) c.self.inside.tables.leases c.lapse.new.self c.self.inside.tables.exports c.end.new.self c.self.inside.tables.runs.items c.self.inside.tables.withdrawn.items
    c.self.inside.tables.reported c.self.inside.tables.added c.self.inside.tables.units c.self.inside.tables.moment true acts c.max-now.result (c.args.object ∷ []) time (c.takes_time-all.ensures none (c.args.object ∷ []))

pub invariant_of-self : goal.invariant_of-self
invariant_of-self c =
    let time : c.max-now.result ≡ max c.args.moment c.self.inside.tables.moment = search rules in
    let runs : 0 < running_calls_by (places c.self.inside.tables.config c.self.inside.tables.events.items) c.args.by c.args.object = is-running c.self.inside.tables.config c.self.inside.tables.events.items c.args.by c.args.object c.args.self.now c.self.view_is c.requires.running in
    let acts = end-acted c.self.inside.tables.config c.self.inside.tables.events.items c.args.by c.args.moment c.args.object c.self.inside.tables.leases c.lapse.new.self c.self.inside.tables.exports c.end.new.self c.self.inside.tables.runs.items c.self.inside.tables.withdrawn.items
    c.self.inside.tables.reported c.self.inside.tables.added c.self.inside.tables.units c.self.inside.tables.moment c.max-now.result c.self.invariant.0 runs c.requires.moment time c.lapse.ensures.stands c.end.ensures in
    let place : c.len-place.result ≡ length c.self.inside.tables.events.items = search rules in
    let kept = end-keeps c.self.inside.tables.config c.self.inside.tables.events.items c.args.by c.args.moment c.args.object c.self.inside.tables.leases c.lapse.new.self c.withdraw.new.leases c.self.inside.tables.exports c.end.new.self c.withdraw.new.exports c.self.inside.tables.runs.items c.self.inside.tables.withdrawn.items
    c.self.inside.tables.reported c.self.inside.tables.added c.self.inside.tables.units c.self.inside.tables.moment c.max-now.result c.withdraw.ensures.goes.0 c.len-place.result c.put_event.new.events.items c.end_one.new.self.items c.withdraw.new.self.items
    acts time c.withdraw.ensures.goes.2 place c.put_event.ensures.items c.end_one.ensures c.withdraw.ensures.goes.1 in (
      kept,
      end-room c.self.inside.tables.config c.self.inside.tables.events.items c.put_event.new.events.items c.args.by c.args.moment c.args.object c.self.inside.tables.leases c.withdraw.new.leases c.self.inside.tables.exports c.withdraw.new.exports c.self.inside.tables.runs.items c.end_one.new.self.items
          c.self.inside.tables.withdrawn.items c.withdraw.new.self.items c.self.inside.tables.reported c.self.inside.tables.added c.self.inside.tables.units c.self.inside.tables.moment c.self.inside.tables.reported c.self.inside.tables.added (c.self.inside.tables.units + 1) c.max-now.result
          c.self.inside.tables.events.capacity c.self.inside.tables.withdrawn.room c.put_event.new.events.capacity c.withdraw.new.self.room
          c.self.invariant.0 c.self.invariant.1 runs kept c.put_event.ensures.items c.end_one.ensures c.put_event.ensures.capacity c.withdraw.ensures.room,
      bindings-same c.self.inside.tables.config (c.self.inside.tables.events.items ++ event_of c.args.by c.args.moment (Abandon c.args.object) ∷ []) c.put_event.new.events.items c.self.inside.tables.names c.self.inside.tables.names
          (names-next c.self.inside.tables.config c.self.inside.tables.events.items (event_of c.args.by c.args.moment (Abandon c.args.object)) true c.self.inside.tables.names c.self.inside.tables.names c.self.invariant.2 (sym (runs-effective c.self.inside.tables.config c.self.inside.tables.events.items c.args.by c.args.object runs)) refl)
          c.put_event.ensures.items refl,
      stored-kept c.self.invariant.3 c.put_event.ensures.stored c.withdraw.ensures.told,
    )

pub returns-clause-step : goal.returns-clause-step
returns-clause-step c =
    let time : c.max-now.result ≡ max c.args.moment c.self.inside.tables.moment = search rules in
    let runs : 0 < running_calls_by (places c.self.inside.tables.config c.self.inside.tables.events.items) c.args.by c.args.object = is-running c.self.inside.tables.config c.self.inside.tables.events.items c.args.by c.args.object c.args.self.now c.self.view_is c.requires.running in
    let acts = end-acted c.self.inside.tables.config c.self.inside.tables.events.items c.args.by c.args.moment c.args.object c.self.inside.tables.leases c.lapse.new.self c.self.inside.tables.exports c.end.new.self c.self.inside.tables.runs.items c.self.inside.tables.withdrawn.items
    c.self.inside.tables.reported c.self.inside.tables.added c.self.inside.tables.units c.self.inside.tables.moment c.max-now.result c.self.invariant.0 runs c.requires.moment time c.lapse.ensures.stands c.end.ensures in
    end-step c.self.inside.tables.config c.self.inside.tables.events.items c.put_event.new.events.items c.args.by c.args.moment c.args.object c.self.inside.tables.leases c.lapse.new.self c.self.inside.tables.exports c.end.new.self c.self.inside.tables.runs.items c.self.inside.tables.withdrawn.items
    c.self.inside.tables.reported c.self.inside.tables.added c.self.inside.tables.units c.self.inside.tables.moment c.args.self.now acts c.self.view_is c.put_event.ensures.items

pub returns-clause-collector : goal.returns-clause-collector
returns-clause-collector c =
    let time : c.max-now.result ≡ max c.args.moment c.self.inside.tables.moment = search rules in
    let runs : 0 < running_calls_by (places c.self.inside.tables.config c.self.inside.tables.events.items) c.args.by c.args.object = is-running c.self.inside.tables.config c.self.inside.tables.events.items c.args.by c.args.object c.args.self.now c.self.view_is c.requires.running in
    let acts = end-acted c.self.inside.tables.config c.self.inside.tables.events.items c.args.by c.args.moment c.args.object c.self.inside.tables.leases c.lapse.new.self c.self.inside.tables.exports c.end.new.self c.self.inside.tables.runs.items c.self.inside.tables.withdrawn.items
    c.self.inside.tables.reported c.self.inside.tables.added c.self.inside.tables.units c.self.inside.tables.moment c.max-now.result c.self.invariant.0 runs c.requires.moment time c.lapse.ensures.stands c.end.ensures in
    let place : c.len-place.result ≡ length c.self.inside.tables.events.items = search rules in
    let kept = end-keeps c.self.inside.tables.config c.self.inside.tables.events.items c.args.by c.args.moment c.args.object c.self.inside.tables.leases c.lapse.new.self c.withdraw.new.leases c.self.inside.tables.exports c.end.new.self c.withdraw.new.exports c.self.inside.tables.runs.items c.self.inside.tables.withdrawn.items
    c.self.inside.tables.reported c.self.inside.tables.added c.self.inside.tables.units c.self.inside.tables.moment c.max-now.result c.withdraw.ensures.goes.0 c.len-place.result c.put_event.new.events.items c.end_one.new.self.items c.withdraw.new.self.items
    acts time c.withdraw.ensures.goes.2 place c.put_event.ensures.items c.end_one.ensures c.withdraw.ensures.goes.1 in
    appended-collects c.self.inside.tables.config c.self.inside.tables.config c.self.inside.tables.events.items c.put_event.new.events.items c.self.inside.tables.exports.rows c.withdraw.new.exports.rows (event_of c.args.by c.args.moment (Abandon c.args.object)) c.args.self.now c.self.view_is
    c.self.invariant.0.stands.rows_are kept.stands.rows_are refl c.put_event.ensures.items
