use Rattle.std.proofs.Common.{◌≡◌, ◌+◌, ◌-◌, arith, rules, subst}
use Rattle.std.proofs.lemmas.Result.{err_from_is_err_and}
use Rattle.drill.specs.Rounds.{events_from, start, after_round}
use Rattle.drill.specs.Runs.{CameTo}
use Rattle.drill.proofs.Coming.{next_round, came_on, ends_in, all_came}
use Rattle.drill.proofs.running.go_on.Goals as goal

pub returns-in_err-take_all-clause-err : goal.returns-in_err-take_all-clause-err
returns-in_err-take_all-clause-err c =
    let all = events_from 0 (start c.args.seed) c.args.rounds in
    let s = c.loop-left.drill.stand in
    let next = next_round c.args.space.now.events all c.loop-left.space.events c.in_ok-events.events.items c.loop-left.drill.round s c.loop-left.left c.loop-left.invariant.0 (omega (arith, c.loop-left-test.true)) c.in_ok-events.ensures.events in
    let p = err_from_is_err_and c.from_residual-in_err-take_all.result c.from_residual-in_err-take_all.ensures.1 in
    rw (p.1, p.2)
    (ends_in c.args.space.now.configuration c.args.space.now.events all c.loop-left.space.events c.in_ok-events.events.items (events_from (c.loop-left.drill.round + 1) (after_round s) (c.loop-left.left - 1)) _ next
    (rw c.loop-left.invariant.1 at (c.in_err-take_all.ensures {u = tt}).err))

pub loop-left-preserved : goal.loop-left-preserved
loop-left-preserved c =
    let all = events_from 0 (start c.args.seed) c.args.rounds in
    let s = c.loop-left.drill.stand in
    let next = next_round c.args.space.now.events all c.loop-left.space.events c.in_ok-events.events.items c.loop-left.drill.round s c.loop-left.left c.loop-left.invariant.0 (omega (arith, c.loop-left-test.true)) c.in_ok-events.ensures.events in
    let came = came_on c.args.space.now.events all c.loop-left.space.events c.in_ok-events.events.items (events_from (c.loop-left.drill.round + 1) (after_round s) (c.loop-left.left - 1)) next in
    (search rules, search rules, search rules)

pub returns-clause-ok : goal.returns-clause-ok
returns-clause-ok c =
    let all = events_from 0 (start c.args.seed) c.args.rounds in
    let none : c.loop-left.left ≡ 0 = omega (arith, c.loop-left-test.false) in
    all_came c.args.space.now.events all c.loop-left.space.events c.loop-left.drill.round c.loop-left.drill.stand
    (subst (λ n. CameTo c.args.space.now.events all c.loop-left.space.events (events_from c.loop-left.drill.round c.loop-left.drill.stand n)) none c.loop-left.invariant.0)
