use Rattle.std.proofs.Common.{◌≡◌, length, ap, rules, arith, length-append}
use Rattle.space.specs.Withdrawals.{WithdrawalTable, paired_withdrawals}
use Rattle.space.proofs.WithdrawalLaws.{paired-length}
use Rattle.space.proofs.withdrawals.Withdrawals.kept_len.Goals as goal

pub returns : goal.returns
returns c =
    let kept : c.len.result ≡ length c.self.inside.objects.items = search rules in
    let long = paired-length c.self.inside.objects.items c.self.inside.places.items c.self.invariant in
    let sum = length-append c.self.inside.told (paired_withdrawals c.self.inside.objects.items c.self.inside.places.items) in
    let all = ap (λ (t : WithdrawalTable). length t.items) c.self.view_is in
    let same = ap (λ (t : WithdrawalTable). t.told) c.self.view_is in
    omega (arith, kept, long, sum, all, same)
