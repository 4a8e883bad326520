use Rattle.std.proofs.Common.{◌-◌, length, length-append, map, drop, ap, sym, ◌∙◌, arith}
use Rattle.history.specs.declared.places.Withdrawal.{Withdrawal}
use Rattle.space.specs.Withdrawals.{WithdrawalTable, paired_withdrawals}
use Rattle.space.proofs.WithdrawalLaws.{paired-length, paired-objects, drop-past}
use Rattle.space.proofs.withdrawals.Withdrawals.still_to_tell.Goals as goal

pub overflow_sub-reported : goal.overflow_sub-reported
overflow_sub-reported c =
    let same = ap (λ (t : WithdrawalTable). t.told) c.self.view_is in
    omega (arith, c.requires.told, same, c.len.ensures.value)

pub rest_of-requires : goal.rest_of-requires
rest_of-requires c =
    let items = ap (λ (t : WithdrawalTable). length t.items) c.self.view_is in
    let long = paired-length c.self.inside.objects.items c.self.inside.places.items c.self.invariant in
    let sum = length-append c.self.inside.told (paired_withdrawals c.self.inside.objects.items c.self.inside.places.items) in
    let seen = ap length c.deref.ensures.value in
    omega (arith, c.requires.within, items, long, sum, seen, c.len.ensures.value)

pub returns-clause-items : goal.returns-clause-items
returns-clause-items c =
    let same = ap (λ (t : WithdrawalTable). t.told) c.self.view_is in
    c.in_ok-reserve.ensures.items ∙ c.in_ok-gone.ensures ∙ ap (drop (c.args.reported - c.len.result)) c.deref.ensures.value
    ∙ ap (λ n. drop (c.args.reported - n) c.self.inside.objects.items) c.len.ensures.value
    ∙ sym (paired-objects (c.args.reported - length c.self.inside.told) c.self.inside.objects.items c.self.inside.places.items c.self.invariant)
    ∙ ap (map (λ (w : Withdrawal). w.object)) (sym (drop-past c.args.reported c.self.inside.told (paired_withdrawals c.self.inside.objects.items c.self.inside.places.items) (omega (arith, c.requires.told, same))))
    ∙ ap (λ (t : WithdrawalTable). map (λ (w : Withdrawal). w.object) (drop c.args.reported t.items)) c.self.view_is
