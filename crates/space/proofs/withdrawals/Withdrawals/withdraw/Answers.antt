use Rattle.std.proofs.Common.{◌≡◌, ◌-◌, ◌++◌, length, drop, map, ap, ◌∙◌, rules, arith, length-append}
use Rattle.space.specs.Acts.{withdrawal_at}
use Rattle.space.specs.Withdrawals.{WithdrawalTable, paired_withdrawals}
use Rattle.space.proofs.FewGone.{most-within}
use Rattle.space.proofs.WithdrawalLaws.{paired-length, noted, noted-even, told-noted, gone-is, gone-after, gone-within}
use Rattle.space.proofs.withdrawals.Withdrawals.withdraw.Goals as goal

pub withdraw-requires-clause-room : goal.withdraw-requires-clause-room
withdraw-requires-clause-room c =
    let items = ap (λ (t : WithdrawalTable). length t.items) c.self.view_is in
    let room = ap (λ (t : WithdrawalTable). t.room) c.self.view_is in
    let long = paired-length c.self.inside.objects.items c.self.inside.places.items c.self.invariant in
    let sum = length-append c.self.inside.told (paired_withdrawals c.self.inside.objects.items c.self.inside.places.items) in
    let most = most-within c.args.doubt c.args.exports.now c.requires.few in
    omega (arith, c.requires.room, items, room, long, sum, most, c.self.inside.objects.ok.0)

pub overflow_sub-len : goal.overflow_sub-len
overflow_sub-len c =
    let before : c.len-before.result ≡ length c.self.inside.objects.items = search rules in
    let after : c.len.result ≡ length c.withdraw.new.gone.items = search rules in
    let more = ap length (gone-after c.requires.log c.withdraw.ensures.withdrawn)
    ∙ length-append c.self.inside.objects.items (drop (length c.self.inside.objects.items) c.withdraw.new.gone.items) in
    omega (arith, before, after, more)

pub fill-requires : goal.fill-requires
fill-requires c =
    let items = ap (λ (t : WithdrawalTable). length t.items) c.self.view_is in
    let room = ap (λ (t : WithdrawalTable). t.room) c.self.view_is in
    let long = paired-length c.self.inside.objects.items c.self.inside.places.items c.self.invariant in
    let sum = length-append c.self.inside.told (paired_withdrawals c.self.inside.objects.items c.self.inside.places.items) in
    let before : c.len-before.result ≡ length c.self.inside.objects.items = search rules in
    let after : c.len.result ≡ length c.withdraw.new.gone.items = search rules in
    let few = gone-within c.requires.log c.withdraw.ensures.withdrawn in
    let more = ap length (gone-after c.requires.log c.withdraw.ensures.withdrawn)
    ∙ length-append c.self.inside.objects.items (drop (length c.self.inside.objects.items) c.withdraw.new.gone.items) in
    omega (arith, c.requires.room, items, room, long, sum, before, after, few, more, c.self.invariant, c.self.inside.places.ok.0)

pub invariant_of-self : goal.invariant_of-self
invariant_of-self c =
    let before : c.len-before.result ≡ length c.self.inside.objects.items = search rules in
    let after : c.len.result ≡ length c.withdraw.new.gone.items = search rules in
    let all = gone-after c.requires.log c.withdraw.ensures.withdrawn in
    let more = ap length all ∙ length-append c.self.inside.objects.items (drop (length c.self.inside.objects.items) c.withdraw.new.gone.items) in
    noted-even c.self.inside.objects.items c.withdraw.new.gone.items (drop (length c.self.inside.objects.items) c.withdraw.new.gone.items) c.self.inside.places.items c.fill.new.places.items c.args.place
    (c.len.result - c.len-before.result) c.self.invariant all c.fill.ensures.items (omega (arith, before, after, more))

pub returns-clause-goes : goal.returns-clause-goes
returns-clause-goes c =
    let before : c.len-before.result ≡ length c.self.inside.objects.items = search rules in
    let after : c.len.result ≡ length c.withdraw.new.gone.items = search rules in
    let all = gone-after c.requires.log c.withdraw.ensures.withdrawn in
    let more = ap length all ∙ length-append c.self.inside.objects.items (drop (length c.self.inside.objects.items) c.withdraw.new.gone.items) in (
      drop (length c.self.inside.objects.items) c.withdraw.new.gone.items,
      told-noted c.self.inside.told (paired_withdrawals c.self.inside.objects.items c.self.inside.places.items) (paired_withdrawals c.withdraw.new.gone.items c.fill.new.places.items)
          (map (withdrawal_at c.args.place) (drop (length c.self.inside.objects.items) c.withdraw.new.gone.items))
          (noted c.self.inside.objects.items c.withdraw.new.gone.items (drop (length c.self.inside.objects.items) c.withdraw.new.gone.items) c.self.inside.places.items c.fill.new.places.items c.args.place
          (c.len.result - c.len-before.result) c.self.invariant all c.fill.ensures.items (omega (arith, before, after, more)))
          ∙ ap (λ (t : WithdrawalTable). t.items ++ map (withdrawal_at c.args.place) (drop (length c.self.inside.objects.items) c.withdraw.new.gone.items)) c.self.view_is,
      gone-is c.withdraw.ensures.withdrawn,
    )

pub returns-clause-room : goal.returns-clause-room
returns-clause-room c =
    let room = ap (λ (t : WithdrawalTable). t.room) c.self.view_is in
    omega (arith, room, c.withdraw.ensures.capacity, c.fill.ensures.capacity)
