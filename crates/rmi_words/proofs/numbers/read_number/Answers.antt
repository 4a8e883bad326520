use Rattle.journal.specs.Numbers.{BeginsPlainly}
use Rattle.journal.proofs.Decimals.{begins_plainly, parsed, unparsed}
use Rattle.rmi_words.proofs.numbers.read_number.Goals as goal

pub returns-then-not-begins_plainly : goal.returns-then-not-begins_plainly
returns-then-not-begins_plainly c n spells =
    let plain : BeginsPlainly c.as_bytes.result.now = rw (c.as_bytes.ensures.value, spells.1) (begins_plainly n spells.0) in
    let holds = c.begins_plainly.ensures.1 plain in cc

pub returns-in-Ok : goal.returns-in-Ok
returns-in-Ok c =
    let plain : BeginsPlainly c.args.word.now = rw c.as_bytes.ensures.value at (c.begins_plainly.ensures.0 cc) in
    parsed c.args.word.now c.parse.result c.parse.ensures.value.0 plain c.in-Ok.n c.in-Ok.is

pub returns-in-Err : goal.returns-in-Err
returns-in-Err c n spells = unparsed c.args.word.now c.parse.result c.parse.ensures.value.0 c.in-Err.field-0 c.in-Err.is n spells
