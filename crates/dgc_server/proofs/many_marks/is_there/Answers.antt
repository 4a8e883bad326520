use Rattle.std.proofs.Common.{◌∙◌}
use Rattle.dgc_server.proofs.MarkLaws.{has-looked_up}
use Rattle.dgc_server.proofs.many_marks.is_there.Goals as goal

pub returns : goal.returns
returns c = c.contains_key.ensures ∙ has-looked_up c.args.marks.now.entries c.args.object.now
