use Rattle.std.proofs.Common.{inr, sym}
use Rattle.journal.specs.Grammar.{SpellsObject, SpellsLong}
use Rattle.journal.proofs.Refusing.{reads_same}
use Rattle.journal.proofs.Joined.{in_full, by_number}
use Rattle.journal.proofs.ids.ObjIdField.read.Goals as goal

pub returns-in-None-read_signed : goal.returns-in-None-read_signed
returns-in-None-read_signed c is object spells = c.in-None-read_signed.ensures {u = tt} object.number
    (by_number c.args.space c.args.word.now (sym (c.in-None.ensures {u = tt})) object spells)

pub returns-in-Some : goal.returns-in-Some
returns-in-Some c = reads_same SpellsLong (SpellsObject c.args.space) c.read_long_object.result c.args.word.now (λ object. inr)
    (in_full c.args.space c.args.word.now c.in-Some.field-0 (sym (c.in-Some.ensures {u = tt}))) c.read_long_object.ensures
