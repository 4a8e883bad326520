use Rattle.std.proofs.Common.{arith, sym, ap, ◌+◌, ◌∙◌, Some}
use Rattle.std.proofs.lemmas.List.{take_rest}
use Rattle.suid_calc.proofs.Loops.{name_ends}
use Rattle.suid_calc.proofs.types.after_name.Goals as goal

pub returns-then-byte-eq59 : goal.returns-then-byte-eq59
returns-then-byte-eq59 c =
    ap Some (take_rest c.args.text.now (c.loop-i.i + 1)) ∙ sym (c.loop-i.invariant ∙ name_ends c.loop-i.i c.args.text.now (omega arith) c.if-byte-eq59.true)
