use Rattle.std.proofs.Common.{◌≡◌, ◌<◌, Result, refl, sym, subst, ◌∙◌, rules}
use Rattle.std.specs.Prelude.{true, OnOk, OnErr}
use Rattle.dgc_server.proofs.Chunked.{on_err}
use Rattle.history.specs.declared.replies.Refused.{Refused}
use Rattle.history.specs.declared.replies.Turn.{Turn}
use Rattle.history.specs.Collector.{Collects}
use Rattle.history.specs.Running.{running_calls_by}
use Rattle.history.specs.Steps.{Step}
use Rattle.history.specs.Table.{places}
use Rattle.space.specs.Acts.{event_of}
use Rattle.space.specs.Noted.{turn_answer}
use Rattle.space.specs.TurnAnswers.{IsAnswerTo}
use Rattle.space.proofs.AnswerLaws.{answer-row}
use Rattle.space.proofs.Bindings.{names-short}
use Rattle.space.proofs.NotedLaws.{fits-turn, if-ok, stays, turned-err, turned-ok}
use Rattle.space.proofs.turns.Space.turn_noted.Goals as goal

pub with_entry-requires : goal.with_entry-requires
with_entry-requires c = record {
  fits = fits-turn c.self.inside.tables.config c.self.inside.tables.events.items c.turn_with-answer.new.self.events (event_of c.args.by c.args.moment c.args.ask) c.args.self.now c.turn_with-answer.result _ c.in-Ok.note.names c.self.view_is c.turn_with-answer.ensures.step
      (λ l. c.in-Ok.ensures.names l ∙ c.self.invariant.2.names) c.in-Ok.ensures.ids (if-ok c.turn_with-answer.result (λ x. true ≡ true → x.1 ≡ x.0.gone) (λ x. x.1 ≡ x.0.gone) c.turn_with-answer.ensures.copy (λ x f. f refl));
}

pub returns-in-Ok : goal.returns-in-Ok
returns-in-Ok c = record {
  step = if-ok c.with_entry.result (λ x. x.0 ≡ turn_answer c.turn_with-answer.result) (λ x. Step c.args.self.now.configuration c.args.self.now.events (event_of c.args.by c.args.moment c.args.ask) x.0 c.turn_with-answer.new.self.events) c.with_entry.ensures.answer
      (λ x e. (let P : Result Turn Refused → Type 0 = λ a. Step c.args.self.now.configuration c.args.self.now.events (event_of c.args.by c.args.moment c.args.ask) a c.turn_with-answer.new.self.events in subst P (sym e) c.turn_with-answer.ensures.step));
  collector = if-ok c.with_entry.result (λ x. x.0 ≡ turn_answer c.turn_with-answer.result) (λ x. OnOk x.0 (Collects c.args.self.now.configuration c.args.self.now.events c.args.self.now.rows (event_of c.args.by c.args.moment c.args.ask) c.turn_with-answer.new.self.events c.turn_with-answer.new.self.rows)) c.with_entry.ensures.answer
      (λ x e. (let P : Result Turn Refused → Type 0 = λ a. OnOk a (Collects c.args.self.now.configuration c.args.self.now.events c.args.self.now.rows (event_of c.args.by c.args.moment c.args.ask) c.turn_with-answer.new.self.events c.turn_with-answer.new.self.rows) in
      subst P (sym e) (turned-ok c.turn_with-answer.result _ c.turn_with-answer.ensures.collector)));
  noted = search rules;
  row = if-ok c.with_entry.result (λ x. x.0 ≡ turn_answer c.turn_with-answer.result) (λ x. IsAnswerTo (λ o. 0 < running_calls_by (places c.args.self.now.configuration c.args.self.now.events) c.args.by o) c.args.ask x.0) c.with_entry.ensures.answer
      (λ x e. (let P : Result Turn Refused → Type 0 = λ a. IsAnswerTo (λ o. 0 < running_calls_by (places c.args.self.now.configuration c.args.self.now.events) c.args.by o) c.args.ask a in
      subst P (sym e) (answer-row c.self.inside.tables.config c.self.inside.tables.events.items c.turn_with-answer.new.self.events (event_of c.args.by c.args.moment c.args.ask) c.self.inside.tables.leases c.self.inside.tables.exports c.self.inside.tables.runs.items c.self.inside.tables.withdrawn.items
      c.self.inside.tables.reported c.self.inside.tables.added c.self.inside.tables.units c.self.inside.tables.moment c.args.self.now (turn_answer c.turn_with-answer.result) c.self.invariant.0 (names-short c.self.inside.tables.config c.self.inside.tables.events.items c.self.inside.tables.names c.self.invariant.2 c.take_note.ensures.sound) c.self.view_is c.turn_with-answer.ensures.step)));
  known = search rules;
  refused = if-ok c.with_entry.result (λ x. x.0 ≡ turn_answer c.turn_with-answer.result) (λ x. OnErr x.0 (c.turn_with-answer.new.self ≡ c.args.self.now)) c.with_entry.ensures.answer
      (λ x e. (let P : Result Turn Refused → Type 0 = λ a. OnErr a (c.turn_with-answer.new.self ≡ c.args.self.now) in subst P (sym e) (turned-err c.turn_with-answer.result _ c.turn_with-answer.ensures.err)));
  config = search rules;
  err = on_err c.with_entry.result c.with_entry.ensures.err (λ e. stays c.turn_with-answer.result (c.turn_with-answer.new.self ≡ c.args.self.now) e c.turn_with-answer.ensures.err);
}
