use Rattle.std.proofs.Common.{length, ◌++◌, length-append, slice_get, ap, sym, ◌∙◌, arith}
use Rattle.std.proofs.lemmas.Option.{slice_get_read}
use Rattle.space.specs.Withdrawals.{WithdrawalTable, paired_withdrawals}
use Rattle.space.proofs.WithdrawalLaws.{paired-length, paired-get, none-in}
use Rattle.space.proofs.withdrawals.Withdrawals.get.Goals as goal

pub index-requires : goal.index-requires
index-requires c =
    let all = ap (λ (t : WithdrawalTable). length t.items) c.self.view_is in
    let long = paired-length c.self.inside.objects.items c.self.inside.places.items c.self.invariant in
    let sum = length-append c.self.inside.told (paired_withdrawals c.self.inside.objects.items c.self.inside.places.items) in
    let none = c.requires.kept in let same = ap (λ (t : WithdrawalTable). t.told) c.self.view_is in
    omega (arith, c.requires.within, all, long, sum, none, same, c.self.inside.objects.ok.0)

pub index-requires-2 : goal.index-requires-2
index-requires-2 c =
    let all = ap (λ (t : WithdrawalTable). length t.items) c.self.view_is in
    let long = paired-length c.self.inside.objects.items c.self.inside.places.items c.self.invariant in
    let sum = length-append c.self.inside.told (paired_withdrawals c.self.inside.objects.items c.self.inside.places.items) in
    let none = c.requires.kept in let same = ap (λ (t : WithdrawalTable). t.told) c.self.view_is in
    omega (arith, c.requires.within, all, long, sum, none, same, c.self.invariant, c.self.inside.places.ok.0)

pub returns : goal.returns
returns c =
    let all = ap (λ (t : WithdrawalTable). length t.items) c.self.view_is in
    let long = paired-length c.self.inside.objects.items c.self.inside.places.items c.self.invariant in
    let sum = length-append c.self.inside.told (paired_withdrawals c.self.inside.objects.items c.self.inside.places.items) in
    let none = c.requires.kept in let same = ap (λ (t : WithdrawalTable). t.told) c.self.view_is in
    let object = slice_get_read _ _ _ _ c.self.inside.objects.ok.0 (omega (arith, c.requires.within, all, long, sum, none, same, c.self.inside.objects.ok.0)) c.index.ensures in
    let place = slice_get_read _ _ _ _ c.self.inside.places.ok.0 (omega (arith, c.requires.within, all, long, sum, none, same, c.self.invariant, c.self.inside.places.ok.0)) c.index-2.ensures in
    ap (λ (t : WithdrawalTable). slice_get t.items c.args.k) (sym c.self.view_is)
    ∙ ap (λ l. slice_get (l ++ paired_withdrawals c.self.inside.objects.items c.self.inside.places.items) c.args.k) (none-in c.self.inside.told (omega (arith, none, same)))
    ∙ paired-get c.args.k c.self.inside.objects.items c.self.inside.places.items c.index.result.now c.index-2.result.now object place
