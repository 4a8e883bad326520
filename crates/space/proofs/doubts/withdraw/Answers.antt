use Rattle.std.proofs.Common.{arith}
use Rattle.space.specs.Withdrawing.{HasWithdrawn}
use Rattle.space.proofs.FewGone.{few-go, all-go, most-all, most-some, nothing-withdrawn, withdrawn-among}
use Rattle.space.proofs.doubts.withdraw.Goals as goal

pub returns-then-doubt-clause-withdrawn : goal.returns-then-doubt-clause-withdrawn
returns-then-doubt-clause-withdrawn c = record { kept = c.withdraw.ensures.kept; gone = c.withdraw.ensures.gone; dropped = c.withdraw.ensures.dropped }

pub returns-then-may_change-clause-withdrawn : goal.returns-then-may_change-clause-withdrawn
returns-then-may_change-clause-withdrawn c = withdrawn-among c.args.doubt.objects.now (c.requires.enough c.if-doubt.false) c.withdraw_among.ensures.kept c.withdraw_among.ensures.gone c.withdraw_among.ensures.dropped

pub returns-then-doubt-clause-few : goal.returns-then-doubt-clause-few
returns-then-doubt-clause-few c =
    let goes : HasWithdrawn c.args.leases.now c.withdraw.new.leases c.args.exports.now c.withdraw.new.self c.args.now c.args.gone.now.items c.withdraw.new.gone.items =
    record { kept = c.withdraw.ensures.kept; gone = c.withdraw.ensures.gone; dropped = c.withdraw.ensures.dropped } in
    let few = all-go c.requires.log goes in
    let most = most-all c.args.doubt c.args.exports.now c.if-doubt.true in
    omega (arith, few, most)

pub returns-then-may_change-clause-few : goal.returns-then-may_change-clause-few
returns-then-may_change-clause-few c =
    let goes : HasWithdrawn c.args.leases.now c.withdraw_among.new.leases c.args.exports.now c.withdraw_among.new.self c.args.now c.args.gone.now.items c.withdraw_among.new.gone.items =
    withdrawn-among c.args.doubt.objects.now (c.requires.enough c.if-doubt.false) c.withdraw_among.ensures.kept c.withdraw_among.ensures.gone c.withdraw_among.ensures.dropped in
    let few = few-go c.args.doubt.objects.now c.requires.log c.count-count.ensures.sound.rising (c.requires.enough c.if-doubt.false) goes in
    let most = most-some c.args.doubt c.args.exports.now c.if-doubt.false in
    omega (arith, few, most)

pub returns-else-may_change-clause-withdrawn : goal.returns-else-may_change-clause-withdrawn
returns-else-may_change-clause-withdrawn c =
    nothing-withdrawn c.args.doubt.objects.now (c.may_change.ensures.none c.if-may_change.false) (c.may_change.ensures.waits c.if-may_change.false) (c.requires.enough c.if-doubt.false)
