use Rattle.std.proofs.Common.{◌≡◌, true, rules}
use Rattle.test_lock.specs.Started.{started_by}
use Rattle.test_lock.proofs.Calls.{shown}
use Rattle.test_lock.proofs.crews.call.Goals as goal

pub abandon-requires-clause-runs : goal.abandon-requires-clause-runs
abandon-requires-clause-runs g c =
    let started : started_by c.turn-answer.result ≡ true = search rules in
    shown (g.P.Port.shown c.args.port.now).asked (g.P.Port.shown c.turn-answer.new.self).asked c.args.moment c.args.object c.turn-answer.result c.turn-answer.ensures.asked c.requires.ended started
