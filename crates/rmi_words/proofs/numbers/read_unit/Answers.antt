use Rattle.std.proofs.Common.{arith}
use Rattle.journal.proofs.Decimals.{same_number}
use Rattle.rmi_words.proofs.numbers.read_unit.Goals as goal

pub returns-else-number : goal.returns-else-number
returns-else-number c n spells =
    let spelled = c.in_ok-number.ensures {u = tt} in
    let same = same_number c.args.word.now n c.in_ok-number.number (omega (arith, spells.0)) (omega (arith, spelled.0)) spells.1 spelled.1 in
    omega (arith, same, spells.0, c.if-number.false)
