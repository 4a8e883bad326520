use Rattle.std.proofs.Common.{◌≡◌, ◌<◌, ◌-◌, ◌^◌, length, ap, rules, arith, length-append}
use Rattle.space.specs.Withdrawals.{WithdrawalTable, paired_withdrawals}
use Rattle.space.proofs.WithdrawalLaws.{paired-length}
use Rattle.space.proofs.withdrawals.Withdrawals.forget.Goals as goal

pub returns-then-len-clause-told : goal.returns-then-len-clause-told
returns-then-len-clause-told c = λ few.
    let told = c.len-2.ensures.value in
    let kept : c.len.result ≡ length c.self.inside.objects.items = search rules in
    let past : 2 ^ 62 - c.len-2.result < c.len.result = search rules in
    let long = paired-length c.self.inside.objects.items c.self.inside.places.items c.self.invariant in
    let sum = length-append c.self.inside.told (paired_withdrawals c.self.inside.objects.items c.self.inside.places.items) in
    let all = ap (λ (t : WithdrawalTable). length t.items) c.self.view_is in
    absurd (omega (arith, told, c.len-2.ensures.few, kept, past, long, sum, all, few))
