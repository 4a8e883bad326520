use Rattle.std.proofs.Common.{◌∙◌}
use Rattle.suid_calc.proofs.TextSetLaws.{found_place, no_place}
use Rattle.suid_calc.proofs.description.place_of.Goals as goal

pub returns-in-Some-clause-place : goal.returns-in-Some-clause-place
returns-in-Some-clause-place c = found_place c.args.text.now c.args.texts.now.keys c.in-Some.place c.in-Some.ensures.index

pub returns-in-None-clause-place : goal.returns-in-None-clause-place
returns-in-None-clause-place c = c.len.ensures.len ∙ no_place c.args.text.now c.args.texts.now.keys c.in-None.ensures.index
