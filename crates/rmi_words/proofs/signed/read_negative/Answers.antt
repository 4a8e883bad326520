use Rattle.std.proofs.Common.{suc, arith}
use Rattle.journal.proofs.Decimals.{same_number}
use Rattle.rmi_words.proofs.SignedNumbers.{negative_word}
use Rattle.rmi_words.proofs.signed.read_negative.Goals as goal

pub returns-in_err-amount : goal.returns-in_err-amount
returns-in_err-amount c = rw c.from_residual-in_err-amount.ensures (λ n spells.
    let read = negative_word c.args.word.now c.in_ok-_tilde.digits.now c.in_ok-_tilde._tilde.now (c.in_ok-_tilde.ensures {u = tt}).cases.0 c.requires n spells in
    c.in_err-amount.ensures {u = tt} (suc read.0) (omega (arith, read.2), read.3))

pub returns-then-amount-eq0 : goal.returns-then-amount-eq0
returns-then-amount-eq0 c n spells =
    let read = negative_word c.args.word.now c.in_ok-_tilde.digits.now c.in_ok-_tilde._tilde.now (c.in_ok-_tilde.ensures {u = tt}).cases.0 c.requires n spells in
    let spelled = c.in_ok-amount.ensures {u = tt} in
    let same = same_number c.in_ok-_tilde.digits.now c.in_ok-amount.amount (suc read.0) (omega (arith, spelled.0)) (omega (arith, read.2)) spelled.1 read.3 in
    omega (arith, same)
