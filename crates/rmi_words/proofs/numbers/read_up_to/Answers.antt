use Rattle.std.proofs.Common.{◌≡◌, inl, inr, arith}
use Rattle.journal.proofs.Decimals.{same_number}
use Rattle.rmi_words.proofs.numbers.read_up_to.Goals as goal

pub returns-else-number-ge1 : goal.returns-else-number-ge1
returns-else-number-ge1 c n spells =
    let spelled = c.in_ok-number.ensures {u = tt} in
    let same : n ≡ c.in_ok-number.number = same_number c.args.word.now n c.in_ok-number.number (omega (arith, spells.1)) (omega (arith, spelled.0)) spells.2 spelled.1 in
    elim c.else-number-ge1.either [
      | inl beyond ↦ omega (arith, same, spells.1, beyond.1)
      | inr below ↦ omega (arith, same, spells.0, below)
    ]
