use Rattle.std.proofs.Common.{◌-◌, ◌++◌, length, length-append, drop, map, ap, ◌∙◌, arith}
use Rattle.std.proofs.lemmas.List.{length-drop}
use Rattle.export_table.proofs.Slices.{slice_from}
use Rattle.space.specs.Acts.{withdrawal_at}
use Rattle.space.specs.Withdrawals.{WithdrawalTable, paired_withdrawals}
use Rattle.space.proofs.WithdrawalLaws.{paired-length, noted, noted-even, told-noted}
use Rattle.space.proofs.withdrawals.Withdrawals.note.Goals as goal

pub append-requires : goal.append-requires
append-requires c =
    let items = ap (λ (t : WithdrawalTable). length t.items) c.self.view_is in
    let room = ap (λ (t : WithdrawalTable). t.room) c.self.view_is in
    let long = paired-length c.self.inside.objects.items c.self.inside.places.items c.self.invariant in
    let sum = length-append c.self.inside.told (paired_withdrawals c.self.inside.objects.items c.self.inside.places.items) in
    let rest = ap length (slice_from c.args.from c.args.gone.now) in
    omega (arith, c.requires.room, items, room, long, sum, rest, c.self.inside.objects.ok.0)

pub fill-requires : goal.fill-requires
fill-requires c =
    let items = ap (λ (t : WithdrawalTable). length t.items) c.self.view_is in
    let room = ap (λ (t : WithdrawalTable). t.room) c.self.view_is in
    let long = paired-length c.self.inside.objects.items c.self.inside.places.items c.self.invariant in
    let sum = length-append c.self.inside.told (paired_withdrawals c.self.inside.objects.items c.self.inside.places.items) in
    let rest = length-drop c.args.from c.args.gone.now in
    omega (arith, c.requires.room, items, room, long, sum, rest, c.self.invariant, c.self.inside.places.ok.0)

pub invariant_of-self : goal.invariant_of-self
invariant_of-self c =
    let rest = length-drop c.args.from c.args.gone.now in
    noted-even c.self.inside.objects.items c.append.new.objects.items (drop c.args.from c.args.gone.now) c.self.inside.places.items c.fill.new.places.items c.args.place (length c.args.gone.now - c.args.from) c.self.invariant
    (c.append.ensures.items ∙ ap (λ l. c.self.inside.objects.items ++ l) (slice_from c.args.from c.args.gone.now)) c.fill.ensures.items (omega (arith, rest))

pub returns-clause-items : goal.returns-clause-items
returns-clause-items c =
    let rest = length-drop c.args.from c.args.gone.now in
    told-noted c.self.inside.told (paired_withdrawals c.self.inside.objects.items c.self.inside.places.items) (paired_withdrawals c.append.new.objects.items c.fill.new.places.items) (map (withdrawal_at c.args.place) (drop c.args.from c.args.gone.now))
    (noted c.self.inside.objects.items c.append.new.objects.items (drop c.args.from c.args.gone.now) c.self.inside.places.items c.fill.new.places.items c.args.place (length c.args.gone.now - c.args.from) c.self.invariant
    (c.append.ensures.items ∙ ap (λ l. c.self.inside.objects.items ++ l) (slice_from c.args.from c.args.gone.now)) c.fill.ensures.items (omega (arith, rest)))
    ∙ ap (λ (t : WithdrawalTable). t.items ++ map (withdrawal_at c.args.place) (drop c.args.from c.args.gone.now)) c.self.view_is

pub returns-clause-room : goal.returns-clause-room
returns-clause-room c =
    let room = ap (λ (t : WithdrawalTable). t.room) c.self.view_is in
    omega (arith, room, c.append.ensures.capacity, c.fill.ensures.capacity)
