use Rattle.std.proofs.Common.{sym}
use Rattle.class_desc.proofs.TypeTexts.{elements_found, elements_of_none}
use Rattle.class_desc.proofs.type_text.element_of.Goals as goal

pub returns-then-is_array_text-clause-found : goal.returns-then-is_array_text-clause-found
returns-then-is_array_text-clause-found c = elements_found c.args.name.now c.code_of.result (sym c.if-is_array_text.ensures) c.in-len2-up.len_at_least c.code_of.ensures.found

pub returns-else-is_array_text-clause-none : goal.returns-else-is_array_text-clause-none
returns-else-is_array_text-clause-none c = elements_of_none c.args.name.now c.if-is_array_text.ensures
