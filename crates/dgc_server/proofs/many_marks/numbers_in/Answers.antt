use Rattle.std.proofs.Common.{ap, ◌∙◌}
use Rattle.std.specs.Prelude.{unwrap_or}
use Rattle.dgc_server.specs.Numbers.{no_numbers}
use Rattle.dgc_server.proofs.MarkLaws.{numbers-looked_up}
use Rattle.dgc_server.proofs.many_marks.numbers_in.Goals as goal

pub returns : goal.returns
returns c = c.numbers_or_none.ensures ∙ ap (λ v. unwrap_or v no_numbers) c.get.ensures.value ∙ numbers-looked_up c.args.marks.now.entries c.args.object.now
