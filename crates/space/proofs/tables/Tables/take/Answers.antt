use Rattle.std.proofs.Common.{◌≡◌, ◌++◌, ◌+◌, length, ◌∷◌, [], Ok, refl, subst, sym, ap, ◌∙◌, rules, arith}
use Rattle.history.specs.declared.replies.Turn.{Turn}
use Rattle.history.specs.Steps.{Step}
use Rattle.space.specs.Acts.{reported_after}
use Rattle.space.proofs.EndLaws.{has-withdrawn}
use Rattle.space.proofs.GoneCount.{few-withdrawn}
use Rattle.space.proofs.ReadyLaws.{step-when-ready, whole-when-ready, few-when-ready, abandoned-when-ready, finished-when-ready, countable-when-ready, within-when-ready, early-when-ready, some-when-ready, references-when-ready, stands-when-ready, few-pins-when-ready, bound-when-ready, looks-when-ready, awaiting-when-ready, wait-room-when-ready, few-calls-when-ready, stored-when-ready, log-when-ready, gone-room-when-ready, among-when-ready, copy-room-when-ready, note-within, note-room, noted-when-ready}
use Rattle.space.proofs.tables.Tables.take.Goals as goal

pub act-requires-clause-few : goal.act-requires-clause-few
act-requires-clause-few c = few-when-ready c.requires.ready

pub act-requires-clause-runs : goal.act-requires-clause-runs
act-requires-clause-runs c = abandoned-when-ready c.requires.ready

pub act-requires-clause-returns : goal.act-requires-clause-returns
act-requires-clause-returns c = finished-when-ready c.requires.ready

pub act-requires-clause-countable : goal.act-requires-clause-countable
act-requires-clause-countable c = countable-when-ready c.requires.ready

pub act-requires-clause-within : goal.act-requires-clause-within
act-requires-clause-within c = within-when-ready c.requires.ready

pub act-requires-clause-early : goal.act-requires-clause-early
act-requires-clause-early c = early-when-ready c.requires.ready c.max-now.ensures

pub act-requires-clause-some : goal.act-requires-clause-some
act-requires-clause-some c = some-when-ready c.requires.ready

pub act-requires-clause-once : goal.act-requires-clause-once
act-requires-clause-once c = c.requires.ready.keeps.stands.waits_stand.once

pub act-requires-clause-returned : goal.act-requires-clause-returned
act-requires-clause-returned c = references-when-ready c.requires.ready c.deref.ensures.value

pub act-requires-clause-stands : goal.act-requires-clause-stands
act-requires-clause-stands c = stands-when-ready c.requires.ready

pub act-requires-clause-few_pins : goal.act-requires-clause-few_pins
act-requires-clause-few_pins c = few-pins-when-ready c.requires.ready

pub act-requires-clause-bound : goal.act-requires-clause-bound
act-requires-clause-bound c = bound-when-ready c.requires.ready

pub act-requires-clause-looks : goal.act-requires-clause-looks
act-requires-clause-looks c = looks-when-ready c.requires.ready c.max-now.ensures c.deref.ensures.value

pub act-requires-clause-awaiting : goal.act-requires-clause-awaiting
act-requires-clause-awaiting c = awaiting-when-ready c.requires.ready c.max-now.ensures c.deref.ensures.value

pub act-requires-clause-objects_room : goal.act-requires-clause-objects_room
act-requires-clause-objects_room c = c.requires.ready.object_room

pub act-requires-clause-waits_room : goal.act-requires-clause-waits_room
act-requires-clause-waits_room c = wait-room-when-ready c.requires.ready c.deref.ensures.value

pub act_on_runs-requires-clause-room : goal.act_on_runs-requires-clause-room
act_on_runs-requires-clause-room c = c.requires.ready.run_room

pub act_on_runs-requires-clause-few : goal.act_on_runs-requires-clause-few
act_on_runs-requires-clause-few c = few-calls-when-ready c.requires.ready

pub withdraw-requires-clause-log : goal.withdraw-requires-clause-log
withdraw-requires-clause-log c = log-when-ready c.requires.ready

pub withdraw-requires-clause-room : goal.withdraw-requires-clause-room
withdraw-requires-clause-room c = gone-room-when-ready c.requires.ready c.deref-2.ensures.value

pub withdraw-requires-clause-enough : goal.withdraw-requires-clause-enough
withdraw-requires-clause-enough c none = among-when-ready c.requires.ready c.max-now.ensures c.act.ensures c.deref-2.ensures.value

pub note-requires-clause-within : goal.note-requires-clause-within
note-requires-clause-within c =
    let untold : c.len-untold.result ≡ length c.args.ready.untold.gone.items = search rules in
    note-within c.withdraw.new.gone.items c.requires.ready c.withdraw.ensures.withdrawn untold c.deref-3.ensures.value

pub note-requires-clause-room : goal.note-requires-clause-room
note-requires-clause-room c =
    let untold : c.len-untold.result ≡ length c.args.ready.untold.gone.items = search rules in
    note-room c.max-now.result c.withdraw.new.gone.items c.requires.ready c.act.ensures c.withdraw.ensures.withdrawn untold c.deref-3.ensures.value

pub into_turn-requires : goal.into_turn-requires
into_turn-requires c = copy-room-when-ready c.withdraw.new.gone.items c.requires.ready c.deref-2.ensures.value (search rules) c.withdraw.ensures.few

pub returns-clause-taken : goal.returns-clause-taken
returns-clause-taken c =
    let S : Turn → Type 0 = λ t. Step c.args.self.now.config c.args.self.now.events.items c.args.event.now (Ok t) (c.args.self.now.events.items ++ c.args.event.now ∷ []) in
    subst S (sym c.into_turn.ensures.turn) (step-when-ready c.requires.ready c.max-now.ensures c.len-place.ensures
    (has-withdrawn c.act.ensures c.withdraw.ensures.withdrawn))

pub returns-clause-with_event : goal.returns-clause-with_event
returns-clause-with_event c =
    let untold : c.len-untold.result ≡ length c.args.ready.untold.gone.items = search rules in
    let noted = noted-when-ready c.len-place.result c.withdraw.new.gone.items c.requires.ready untold c.deref-3.ensures.value c.note.ensures.items in
    let reported = c.reported_after-self.ensures ∙ ap (λ n. reported_after c.args.self.now.reported n c.args.event.now.ask) c.len.ensures in
    let whole = whole-when-ready c.requires.ready c.max-now.ensures c.len-place.ensures
    (has-withdrawn c.act.ensures c.withdraw.ensures.withdrawn)
    c.act_on_runs.ensures (c.forget_told.ensures.items ∙ noted) (let first = c.note.ensures.room in let later = c.forget_told.ensures.room in omega (arith, first, later))
    reported refl (ap (λ n. c.args.self.now.units + n) c.units_of.ensures.value) in
    (whole.0, whole.1, whole.2, stored-when-ready c.note.new.self c.requires.ready c.note.ensures.told reported (few-withdrawn whole.0) c.forget_told.ensures.stored c.forget_told.ensures.abandoned c.forget_told.ensures.told)
