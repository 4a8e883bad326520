use Rattle.std.proofs.Common.{rules, ◌≡◌, ◌<◌, ℕ, ◌∷◌, ◌++◌, [], length, ap, ◌∙◌, subst, sym, arith, Ok}
use Rattle.std.specs.Prelude.{Result}
use Rattle.history.specs.declared.asks.Ask.TheVariants.{Abandon}
use Rattle.history.specs.declared.replies.Refused.{Refused}
use Rattle.history.specs.declared.replies.Turn.{Turn}
use Rattle.history.specs.Running.{running_calls_by}
use Rattle.history.specs.Steps.{Step, turn_of}
use Rattle.history.specs.Table.{places}
use Rattle.space.specs.Acts.{event_of}
use Rattle.space.specs.Built.{SpaceHistory}
use Rattle.ports.specs.Balance.{AreOfOthers}
use Rattle.turn_lock.specs.declared.view.SeatState.TheVariants.{Idle}
use Rattle.turn_lock.specs.Rule.{Sat, in_state}
use Rattle.turn_lock.proofs.Turning.{collected_rows, runs_there, space_is, turned_at, may_publish, has_published, may_leave}
use Rattle.turn_lock.proofs.steps.abandon.Goals as goal

pub abandon-requires-clause-running : goal.abandon-requires-clause-running
abandon-requires-clause-running g c =
    let x = c.enter-desk.ensures.entered in
    let opened : c.deref_mut.result.now ≡ c.enter-desk.result = search rules in
    let there = opened ∙ x.3 in
    let v = c.args.seat.now.me.0 in
    let ran = runs_there v.config c.args.by v.seen x.2.others x.1 c.args.object (subst (λ (n : ℕ). AreOfOthers n x.2.others) (sym c.requires.number) x.2.apart) x.2.after in
    let before = c.requires.runs in
    let now : 0 < running_calls_by (places v.config x.1) c.args.by c.args.object = omega (arith, ran, before) in
    subst (λ (s : SpaceHistory). 0 < running_calls_by (places s.configuration s.events) c.args.by c.args.object) (sym there) now

pub publish-requires-clause-called : goal.publish-requires-clause-called
publish-requires-clause-called g c =
    let x = c.enter-desk.ensures.entered in
    let opened : c.deref_mut.result.now ≡ c.enter-desk.result = search rules in
    let there = opened ∙ x.3 in
    let v = c.args.seat.now.me.0 in
    let e = event_of c.args.by c.args.moment (Abandon c.args.object) in
    let answer : Result Turn Refused = Ok (turn_of v.config x.1 e) in
    let s2 : SpaceHistory = c.abandon.new.self in
    let part = c.requires.idle.2 in
    let is = space_is s2 v.config (x.1 ++ e ∷ []) (collected_rows v.config x.1 c.deref_mut.result.now s2 e there c.abandon.ensures.config c.abandon.ensures.collector) (c.abandon.ensures.config ∙ ap (λ (s : SpaceHistory). s.configuration) there) (c.abandon.ensures.events ∙ ap (λ (s : SpaceHistory). s.events ++ e ∷ []) there) in
    may_publish c.enter-desk.new.seat.me v x.0 x.1 c.of-taken.result.value e answer s2 x.4 c.of-taken.ensures c.requires.number part is

pub leave-requires-clause-called : goal.leave-requires-clause-called
leave-requires-clause-called g c =
    let x = c.enter-desk.ensures.entered in
    let opened : c.deref_mut.result.now ≡ c.enter-desk.result = search rules in
    let there = opened ∙ x.3 in
    let v = c.args.seat.now.me.0 in
    let e = event_of c.args.by c.args.moment (Abandon c.args.object) in
    let answer : Result Turn Refused = Ok (turn_of v.config x.1 e) in
    let s2 : SpaceHistory = c.abandon.new.self in
    let part = c.requires.idle.2 in
    let is = space_is s2 v.config (x.1 ++ e ∷ []) (collected_rows v.config x.1 c.deref_mut.result.now s2 e there c.abandon.ensures.config c.abandon.ensures.collector) (c.abandon.ensures.config ∙ ap (λ (s : SpaceHistory). s.configuration) there) (c.abandon.ensures.events ∙ ap (λ (s : SpaceHistory). s.events ++ e ∷ []) there) in
    let told = has_published c.enter-desk.new.seat.me c.publish.new.seat.me v x.0 x.1 c.of-taken.result.value e answer x.4 c.of-taken.ensures c.publish.ensures.view in
    may_leave c.publish.new.seat.me v x.0 x.1 e answer s2 told part is

pub returns-clause-turned : goal.returns-clause-turned
returns-clause-turned g c =
    let x = c.enter-desk.ensures.entered in
    let opened : c.deref_mut.result.now ≡ c.enter-desk.result = search rules in
    let there = opened ∙ x.3 in
    let v = c.args.seat.now.me.0 in
    let e = event_of c.args.by c.args.moment (Abandon c.args.object) in
    let answer : Result Turn Refused = Ok (turn_of v.config x.1 e) in
    let s2 : SpaceHistory = c.abandon.new.self in
    let told = has_published c.enter-desk.new.seat.me c.publish.new.seat.me v x.0 x.1 c.of-taken.result.value e answer x.4 c.of-taken.ensures c.publish.ensures.view in
    let step : Step v.config x.1 e answer s2.events =
    subst (λ (s : SpaceHistory). Step s.configuration s.events e (Ok (turn_of s.configuration s.events e)) s2.events) there c.abandon.ensures.step in
    let ran = runs_there v.config c.args.by v.seen x.2.others x.1 c.args.object (subst (λ (n : ℕ). AreOfOthers n x.2.others) (sym c.requires.number) x.2.apart) x.2.after in
    let before = c.requires.runs in (
      x.1,
      turned_at v c.leave.new.seat.me.0 x.0 x.1 e answer s2.events c.requires.idle.0 x.2 step (ap (λ (m : Sat). m.0) c.leave.ensures.view ∙ ap (λ (m : Sat). in_state m.0 Idle) told),
      c.len-place.ensures.value ∙ ap (λ (s : SpaceHistory). length s.events) x.3,
      omega (arith, ran, before),
    )
