use Rattle.std.proofs.Common.{ap, sym, arith}
use Rattle.std.proofs.lemmas.Option.{get_or_from_slice_get}
use Rattle.history.specs.Outline.{withdrawal_line}
use Rattle.space.proofs.TextLaws.{lines-more, lines-all}
use Rattle.space.proofs.texts.put_withdrawals.Goals as goal

pub loop-k-preserved : goal.loop-k-preserved
loop-k-preserved c =
    lines-more (withdrawal_line c.args.config.now) c.args.withdrawn.now.items c.loop-k.k c.get-withdrawal.result c.args.text.now c.loop-k.text c.put_withdrawal_line.new.out
    (withdrawal_line c.args.config.now c.get-withdrawal.result) (omega (arith, c.loop-k-test.true, c.len-k-end.ensures)) c.loop-k.invariant (c.in_ok-put_withdrawal_line.ensures {u = tt}).ok
    (ap (withdrawal_line c.args.config.now) (sym (get_or_from_slice_get c.args.withdrawn.now.items c.loop-k.k c.get-withdrawal.result c.get-withdrawal.result c.get-withdrawal.ensures)))

pub returns : goal.returns
returns c =
    lines-all (withdrawal_line c.args.config.now) c.args.withdrawn.now.items c.loop-k.k c.args.text.now c.loop-k.text (omega (arith, c.loop-k-test.false, c.len-k-end.ensures)) c.loop-k.invariant
