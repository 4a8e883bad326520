use Rattle.std.proofs.Common.{List, ◌∷◌, ◌++◌, [], ℕ, length, refl, ap, sym, subst, ◌∙◌, arith, max, Ok, Err, Result, Option, None}
use Rattle.std.specs.Prelude.{IfErr, OnErr, option_and_then}
use Rattle.object_ids.specs.declared.ids.ObjId.{ObjId}
use Rattle.history.specs.declared.asks.Event.{Event}
use Rattle.history.specs.declared.replies.Refused.{Refused}
use Rattle.history.specs.declared.replies.Turn.{Turn}
use Rattle.history.specs.LeaseCalls.{call_with}
use Rattle.history.specs.Names.{name_in, names}
use Rattle.history.specs.Steps.{Step}
use Rattle.history.specs.Table.{places}
use Rattle.export_table.specs.ExportRows.{is_exported}
use Rattle.export_table.specs.Table.{ExportTable}
use Rattle.dgc_server.proofs.Told.{error-is}
use Rattle.space.specs.declared.tables.Tables.{Tables}
use Rattle.space.specs.Ready.{IsReady}
use Rattle.space.specs.Whole.{IsWhole}
use Rattle.space.specs.Acts.{ForEachLogBy, effective_by, await_refusal, told_refusal, Agrees}
use Rattle.space.proofs.TurnLaws.{room-step, await-step, memory-step, reported-step, whole-err}
use Rattle.space.proofs.AheadLaws.{room-grown, few-calls}
use Rattle.space.proofs.AskLaws.{stood-is, keeps-roomy, asked, room-as, room-exports}
use Rattle.space.proofs.ReadyLaws.{is-ready}
use Rattle.space.proofs.StoredLaws.{stored-kept}
use Rattle.rmi_registry.specs.Bindings.{object_of}
use Rattle.space.proofs.Bindings.{bindings-counted, bindings-same}
use Rattle.space.proofs.tables.Tables.turn.Goals as goal

pub returns-in_err-admitted-clause-refused : goal.returns-in_err-admitted-clause-refused
returns-in_err-admitted-clause-refused c =
    let P : Result (Turn × List ObjId) Refused → Type 0 = λ r. IfErr r (λ refused. Step c.args.self.now.config c.args.self.now.events.items c.args.event.now (Err refused) c.args.self.now.events.items) in
    let stood = option_and_then (object_of c.args.self.now.names) (name_in c.args.event.now.ask) in
    let effective = effective_by c.args.self.now.exports.rows c.args.self.now.runs.items stood c.args.event.now.by c.args.event.now.ask in
    subst P (sym (error-is c.from_residual.result c.in_err-admitted.field-0.0 c.from_residual.ensures.1))
    (room-step c.args.self.now.config c.args.self.now.events.items c.args.event.now c.args.self.now.leases c.args.self.now.exports c.args.self.now.runs.items c.args.self.now.withdrawn.items
    c.args.self.now.reported c.args.self.now.added c.args.self.now.units c.args.self.now.moment effective c.in_err-admitted.field-0.0
    (asked c.args.self.now.config c.args.self.now.events.items c.args.event.now c.args.self.now.leases c.args.self.now.exports c.args.self.now.exports c.args.self.now.runs.items c.args.self.now.runs.items c.args.self.now.withdrawn.items
    c.args.self.now.reported c.args.self.now.added c.args.self.now.units c.args.self.now.moment stood effective c.requires.whole.0 (stood-is (places c.args.self.now.config c.args.self.now.events.items) c.args.self.now.names c.args.event.now.ask c.requires.whole.2) refl refl refl)
    c.in_err-admitted.ensures.refused)

pub returns-in_err-room_for_all-clause-whole : goal.returns-in_err-room_for_all-clause-whole
returns-in_err-room_for_all-clause-whole c =
    whole-err c.from_residual-in_err-room_for_all.result
    (keeps-roomy c.args.self.now.config c.args.self.now.events.items c.room_for_all.new.events.items c.args.self.now.leases c.args.self.now.leases c.args.self.now.exports c.room_for_all.new.exports c.args.self.now.runs.items c.room_for_all.new.runs.items
    c.args.self.now.withdrawn.items c.room_for_all.new.withdrawn.items c.args.self.now.reported c.args.self.now.added c.args.self.now.units c.args.self.now.moment
    c.requires.whole.0 c.room_for_all.ensures.rest c.room_for_all.ensures.events refl c.room_for_all.ensures.runs c.room_for_all.ensures.withdrawn)
    (room-grown c.args.self.now.events.items c.room_for_all.new.events.items c.args.self.now.runs.items c.room_for_all.new.runs.items c.args.self.now.withdrawn.items c.room_for_all.new.withdrawn.items c.args.self.now.exports c.room_for_all.new.exports
    c.args.self.now.events.capacity c.args.self.now.withdrawn.room c.room_for_all.new.events.capacity c.room_for_all.new.withdrawn.room
    c.requires.whole.1 c.room_for_all.ensures.events c.room_for_all.ensures.runs c.room_for_all.ensures.withdrawn c.room_for_all.ensures.rest
    c.room_for_all.ensures.grow c.room_for_all.ensures.grow_withdrawn)
    (bindings-same c.args.self.now.config c.args.self.now.events.items c.room_for_all.new.events.items c.args.self.now.names c.args.self.now.names c.requires.whole.2 c.room_for_all.ensures.events refl)
    (stored-kept c.requires.whole.3 c.room_for_all.ensures.stored c.room_for_all.ensures.told)

pub returns-in_err-settle-clause-whole : goal.returns-in_err-settle-clause-whole
returns-in_err-settle-clause-whole c =
    let P : Tables → Type 0 = λ t. OnErr c.from_residual-in_err-settle.result (IsWhole t) in
    subst P (sym (c.in_err-settle.ensures {u = tt}).err) (whole-err c.from_residual-in_err-settle.result
    (keeps-roomy c.args.self.now.config c.args.self.now.events.items c.room_for_all.new.events.items c.args.self.now.leases c.args.self.now.leases c.args.self.now.exports c.room_for_all.new.exports c.args.self.now.runs.items c.room_for_all.new.runs.items
    c.args.self.now.withdrawn.items c.room_for_all.new.withdrawn.items c.args.self.now.reported c.args.self.now.added c.args.self.now.units c.args.self.now.moment
    c.requires.whole.0 c.room_for_all.ensures.rest c.room_for_all.ensures.events refl c.room_for_all.ensures.runs c.room_for_all.ensures.withdrawn)
    (room-grown c.args.self.now.events.items c.room_for_all.new.events.items c.args.self.now.runs.items c.room_for_all.new.runs.items c.args.self.now.withdrawn.items c.room_for_all.new.withdrawn.items c.args.self.now.exports c.room_for_all.new.exports
    c.args.self.now.events.capacity c.args.self.now.withdrawn.room c.room_for_all.new.events.capacity c.room_for_all.new.withdrawn.room
    c.requires.whole.1 c.room_for_all.ensures.events c.room_for_all.ensures.runs c.room_for_all.ensures.withdrawn c.room_for_all.ensures.rest
    c.room_for_all.ensures.grow c.room_for_all.ensures.grow_withdrawn)
    (bindings-same c.args.self.now.config c.args.self.now.events.items c.room_for_all.new.events.items c.args.self.now.names c.args.self.now.names c.requires.whole.2 c.room_for_all.ensures.events refl)
    (stored-kept c.requires.whole.3 c.room_for_all.ensures.stored c.room_for_all.ensures.told))

pub returns-in_err-room_for_all-clause-refused : goal.returns-in_err-room_for_all-clause-refused
returns-in_err-room_for_all-clause-refused c =
    let P : Result (Turn × List ObjId) Refused → Type 0 = λ r. IfErr r (λ refused. Step c.args.self.now.config c.args.self.now.events.items c.args.event.now (Err refused) c.args.self.now.events.items) in
    subst P (sym (error-is c.from_residual-in_err-room_for_all.result c.in_err-room_for_all.field-0.0 c.from_residual-in_err-room_for_all.ensures.1))
    (memory-step c.args.self.now.config c.args.self.now.events.items c.args.self.now.events.items c.args.event.now c.in_err-room_for_all.field-0.0 (c.in_err-room_for_all.ensures {u = tt}).refusal refl)

pub returns-in_err-settle-clause-refused : goal.returns-in_err-settle-clause-refused
returns-in_err-settle-clause-refused c =
    let time = c.max-now.ensures in
    let P : Result (Turn × List ObjId) Refused → Type 0 = λ r. IfErr r (λ refused. Step c.args.self.now.config c.args.self.now.events.items c.args.event.now (Err refused) c.args.self.now.events.items) in
    let N : ℕ → Type 0 = λ n. ForEachLogBy n c.args.self.now.leases (λ lease calls. Agrees {T = Unit {0}} (told_refusal lease n calls (call_with (is_exported c.room_for_all.new.exports.rows) n c.args.event.now.ask) (length c.args.self.now.names) (option_and_then (object_of c.args.self.now.names) (name_in c.args.event.now.ask)) c.in_ok-admitted.admitted.effective c.args.event.now.ask) (Err c.in_err-settle.field-0.0)) in
    let C : ℕ → Type 0 = λ n. ForEachLogBy (max c.args.event.now.moment c.args.self.now.moment) c.args.self.now.leases (λ lease calls. Agrees {T = Unit {0}} (told_refusal lease (max c.args.event.now.moment c.args.self.now.moment) calls (call_with (is_exported c.room_for_all.new.exports.rows) (max c.args.event.now.moment c.args.self.now.moment) c.args.event.now.ask) n (option_and_then (object_of c.args.self.now.names) (name_in c.args.event.now.ask)) c.in_ok-admitted.admitted.effective c.args.event.now.ask) (Err c.in_err-settle.field-0.0)) in
    let O : Option ObjId → Type 0 = λ o. ForEachLogBy (max c.args.event.now.moment c.args.self.now.moment) c.args.self.now.leases (λ lease calls. Agrees {T = Unit {0}} (told_refusal lease (max c.args.event.now.moment c.args.self.now.moment) calls (call_with (is_exported c.room_for_all.new.exports.rows) (max c.args.event.now.moment c.args.self.now.moment) c.args.event.now.ask) (length (names (places c.args.self.now.config c.args.self.now.events.items))) o c.in_ok-admitted.admitted.effective c.args.event.now.ask) (Err c.in_err-settle.field-0.0)) in
    subst P (sym (error-is c.from_residual-in_err-settle.result c.in_err-settle.field-0.0 c.from_residual-in_err-settle.ensures.1))
    (reported-step c.args.self.now.config c.args.self.now.events.items c.args.event.now c.args.self.now.leases c.room_for_all.new.exports c.args.self.now.runs.items c.args.self.now.withdrawn.items
    c.args.self.now.reported c.args.self.now.added c.args.self.now.units c.args.self.now.moment c.in_ok-admitted.admitted.effective c.in_err-settle.field-0.0
    (asked c.args.self.now.config c.args.self.now.events.items c.args.event.now c.args.self.now.leases c.args.self.now.exports c.room_for_all.new.exports c.args.self.now.runs.items c.args.self.now.runs.items c.args.self.now.withdrawn.items
    c.args.self.now.reported c.args.self.now.added c.args.self.now.units c.args.self.now.moment c.in_ok-admitted.admitted.stood c.in_ok-admitted.admitted.effective c.requires.whole.0 (c.in_ok-admitted.ensures.stood ∙ stood-is (places c.args.self.now.config c.args.self.now.events.items) c.args.self.now.names c.args.event.now.ask c.requires.whole.2) c.in_ok-admitted.ensures.effective refl c.room_for_all.ensures.rest)
    (room-as c.args.self.now.config.stored c.args.self.now.units (length c.args.self.now.runs.items) (length c.args.self.now.exports.rows) c.in_ok-admitted.admitted.effective c.args.event.now.ask c.args.self.now.runs.items c.args.self.now.exports c.room_for_all.new.exports None None
    (sym c.in_ok-admitted.ensures.room) refl refl c.room_for_all.ensures.rest refl)
    (ap (λ o. await_refusal (max c.args.event.now.moment c.args.self.now.moment) c.room_for_all.new.exports.rows c.room_for_all.new.exports.waits o c.in_ok-admitted.admitted.effective c.args.event.now.ask) (sym (c.in_ok-admitted.ensures.stood ∙ stood-is (places c.args.self.now.config c.args.self.now.events.items) c.args.self.now.names c.args.event.now.ask c.requires.whole.2))
    ∙ ap (λ n. await_refusal n c.room_for_all.new.exports.rows c.room_for_all.new.exports.waits c.in_ok-admitted.admitted.stood c.in_ok-admitted.admitted.effective c.args.event.now.ask) (sym time) ∙ ap (λ (t : ExportTable). await_refusal c.max-now.result t.rows t.waits c.in_ok-admitted.admitted.stood c.in_ok-admitted.admitted.effective c.args.event.now.ask) c.room_for_all.ensures.rest ∙ c.in_ok-ready.ensures.refusal)
    (subst O (stood-is (places c.args.self.now.config c.args.self.now.events.items) c.args.self.now.names c.args.event.now.ask c.requires.whole.2) (subst C (bindings-counted c.args.self.now.config c.args.self.now.events.items c.args.self.now.names c.requires.whole.2) (subst N time (c.in_err-settle.ensures {u = tt}).refusal))))

pub returns-in_err-ready-clause-refused : goal.returns-in_err-ready-clause-refused
returns-in_err-ready-clause-refused c =
    let time = c.max-now.ensures in
    let P : Result (Turn × List ObjId) Refused → Type 0 = λ r. IfErr r (λ refused. Step c.args.self.now.config c.args.self.now.events.items c.args.event.now (Err refused) c.args.self.now.events.items) in
    let N : ℕ → Type 0 = λ n. Agrees {T = Unit {0}} (await_refusal n c.args.self.now.exports.rows c.args.self.now.exports.waits c.in_ok-admitted.admitted.stood c.in_ok-admitted.admitted.effective c.args.event.now.ask) (Err c.in_err-ready.field-0.0) in
    let O : Option ObjId → Type 0 = λ o. Agrees {T = Unit {0}} (await_refusal (max c.args.event.now.moment c.args.self.now.moment) c.args.self.now.exports.rows c.args.self.now.exports.waits o c.in_ok-admitted.admitted.effective c.args.event.now.ask) (Err c.in_err-ready.field-0.0) in
    subst P (sym (error-is c.from_residual-in_err-ready.result c.in_err-ready.field-0.0 c.from_residual-in_err-ready.ensures.1))
    (await-step c.args.self.now.config c.args.self.now.events.items c.args.event.now c.args.self.now.leases c.args.self.now.exports c.args.self.now.runs.items c.args.self.now.withdrawn.items
    c.args.self.now.reported c.args.self.now.added c.args.self.now.units c.args.self.now.moment c.in_ok-admitted.admitted.effective c.in_err-ready.field-0.0
    (asked c.args.self.now.config c.args.self.now.events.items c.args.event.now c.args.self.now.leases c.args.self.now.exports c.args.self.now.exports c.args.self.now.runs.items c.args.self.now.runs.items c.args.self.now.withdrawn.items
    c.args.self.now.reported c.args.self.now.added c.args.self.now.units c.args.self.now.moment c.in_ok-admitted.admitted.stood c.in_ok-admitted.admitted.effective c.requires.whole.0 (c.in_ok-admitted.ensures.stood ∙ stood-is (places c.args.self.now.config c.args.self.now.events.items) c.args.self.now.names c.args.event.now.ask c.requires.whole.2) c.in_ok-admitted.ensures.effective refl refl)
    (room-as c.args.self.now.config.stored c.args.self.now.units (length c.args.self.now.runs.items) (length c.args.self.now.exports.rows) c.in_ok-admitted.admitted.effective c.args.event.now.ask c.args.self.now.runs.items c.args.self.now.exports c.args.self.now.exports None None
    (sym c.in_ok-admitted.ensures.room) refl refl refl refl)
    (subst O (c.in_ok-admitted.ensures.stood ∙ stood-is (places c.args.self.now.config c.args.self.now.events.items) c.args.self.now.names c.args.event.now.ask c.requires.whole.2) (subst N time c.in_err-ready.ensures.refusal)))

pub room_for_all-requires-clause-few_runs : goal.room_for_all-requires-clause-few_runs
room_for_all-requires-clause-few_runs c =
    let few = few-calls c.args.self.now.config c.args.self.now.events.items c.args.self.now.leases c.args.self.now.exports c.args.self.now.runs.items c.args.self.now.withdrawn.items c.args.self.now.reported c.args.self.now.added c.args.self.now.units c.args.self.now.moment c.requires.whole.0 in
    omega (arith, few)

pub prepare-requires-clause-countable : goal.prepare-requires-clause-countable
prepare-requires-clause-countable c =
    let k = c.requires.whole.0 in let within = k.stands.within.countable in
    omega (arith, k.few_opened, k.stands.used_is, within, room-exports c.args.self.now.config.stored c.args.self.now.units (length c.args.self.now.runs.items) (length c.args.self.now.exports.rows) c.in_ok-admitted.admitted.effective c.args.event.now.ask c.in_ok-admitted.ensures.room)

pub room_for_all-requires-clause-few_opened : goal.room_for_all-requires-clause-few_opened
room_for_all-requires-clause-few_opened c =
    omega (arith, c.in_ok-ready.ensures.opened, room-exports c.args.self.now.config.stored c.args.self.now.units (length c.args.self.now.runs.items) (length c.args.self.now.exports.rows) c.in_ok-admitted.admitted.effective c.args.event.now.ask c.in_ok-admitted.ensures.room)

pub settle-requires : goal.settle-requires
settle-requires c =
    let time = c.max-now.ensures in
    let early = c.requires.whole.0.early in
    omega (arith, time, early, c.requires.moment)

pub take-requires : goal.take-requires
take-requires c =
    let R : Tables → Type 0 = λ t. IsReady t c.args.event.now c.in_ok-admitted.admitted c.in_ok-ready.ready c.args.noted in
    record {
      ready = subst R (sym c.settle.ensures.rest) (is-ready c.args.self.now c.requires.whole c.requires.moment c.max-now.ensures c.in_ok-admitted.ensures.stood c.in_ok-admitted.ensures.effective c.in_ok-admitted.ensures.room
          c.in_ok-ready.ensures.opened c.in_ok-ready.ensures.objects c.in_ok-ready.ensures.references c.in_ok-ready.ensures.doubtful c.in_ok-ready.ensures.gone c.in_ok-ready.ensures.room c.in_ok-ready.ensures.spare c.in_ok-ready.ensures.reply c.in_ok-ready.ensures.refusal
          (c.in_ok-room_for_all.ensures {u = tt}).event (c.in_ok-room_for_all.ensures {u = tt}).run (c.in_ok-room_for_all.ensures {u = tt}).withdrawals (c.in_ok-room_for_all.ensures {u = tt}).opened (c.in_ok-room_for_all.ensures {u = tt}).returned
          c.room_for_all.ensures.stored c.room_for_all.ensures.told c.room_for_all.ensures.events c.room_for_all.ensures.runs c.room_for_all.ensures.withdrawn c.room_for_all.ensures.rest
          (c.in_ok-settle.ensures {u = tt}).ok (c.in_ok-settle.ensures {u = tt}).names (c.in_ok-settle.ensures {u = tt}).refusal);
    }

pub returns-clause-taken : goal.returns-clause-taken
returns-clause-taken c =
    let T : Tables → Type 0 = λ t. Step t.config t.events.items c.args.event.now (Ok c.take.result.0) (t.events.items ++ c.args.event.now ∷ []) in
    let S : List Event → Type 0 = λ es. Step c.args.self.now.config es c.args.event.now (Ok c.take.result.0) (es ++ c.args.event.now ∷ []) in
    subst S c.room_for_all.ensures.events (subst T c.settle.ensures.rest c.take.ensures.taken)
