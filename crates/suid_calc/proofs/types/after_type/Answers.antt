use Rattle.std.proofs.Common.{arith, sym, ap, ◌+◌, ◌∙◌, Some}
use Rattle.std.proofs.lemmas.List.{take_rest}
use Rattle.suid_calc.specs.Reading.{after_class}
use Rattle.suid_calc.proofs.Loops.{type_of_class, type_of_letter}
use Rattle.suid_calc.proofs.types.after_type.Goals as goal

pub returns-then-byte-eq76 : goal.returns-then-byte-eq76
returns-then-byte-eq76 c =
    c.after_class.ensures ∙ ap after_class (take_rest c.args.text.now (c.loop-i.i + 1)) ∙ sym (c.loop-i.invariant ∙ type_of_class c.loop-i.i c.args.text.now (omega arith) c.if-byte-eq76.true)

pub returns-then-is_letter : goal.returns-then-is_letter
returns-then-is_letter c =
    ap Some (take_rest c.args.text.now (c.loop-i.i + 1)) ∙ sym (c.loop-i.invariant ∙ type_of_letter c.loop-i.i c.args.text.now (omega arith) c.if-byte-eq76.false c.if-byte-ne91.true (sym c.is_letter.ensures ∙ c.if-is_letter.true))
