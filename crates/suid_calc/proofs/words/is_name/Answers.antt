use Rattle.std.proofs.Common.{sym, ◌∙◌}
use Rattle.suid_calc.proofs.Loops.{name_tested}
use Rattle.suid_calc.proofs.words.is_name.Goals as goal

pub returns : goal.returns
returns c = name_tested c.args.word.now c.are_name_bytes.result (sym c.is_empty.ensures ∙ c.if-is_empty.false) c.if-word-gt-NAME_BYTES.false c.are_name_bytes.ensures
