use Rattle.std.proofs.Common.{length, length-append, ap, sym, ◌∙◌, arith}
use Rattle.std.proofs.lemmas.Result.{on_ok_weaker}
use Rattle.space.specs.Withdrawals.{paired_withdrawals}
use Rattle.space.proofs.WithdrawalLaws.{paired-length}
use Rattle.space.proofs.withdrawals.Withdrawals.reserve.Goals as goal

pub returns-clause-room : goal.returns-clause-room
returns-clause-room c =
    let first = (c.in_ok-reserve.ensures {u = tt}).ok in
    let even = ap length c.reserve.ensures.items ∙ c.self.invariant ∙ sym (ap length c.reserve-2.ensures.items) in
    let long = paired-length c.reserve.new.self.items c.reserve-2.new.self.items even in
    let sum = length-append c.self.inside.told (paired_withdrawals c.reserve.new.self.items c.reserve-2.new.self.items) in
    on_ok_weaker c.reserve-2.result (λ second. omega (arith, first, second, even, long, sum, c.reserve.new.self.ok.0, c.reserve-2.new.self.ok.0)) c.reserve-2.ensures.ok
