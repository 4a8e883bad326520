use Rattle.std.proofs.Common.{ap, ◌∙◌}
use Rattle.dgc_server.specs.Entry.{object_entries}
use Rattle.dgc_server.proofs.MarkLaws.{entries-inserted}
use Rattle.dgc_server.proofs.many_marks.put.Goals as goal

pub returns-in-Ok-clause-objects : goal.returns-in-Ok-clause-objects
returns-in-Ok-clause-objects c = ap object_entries c.in-Ok.ensures.entries ∙ entries-inserted c.args.marks.now.entries c.args.object.now c.args.numbers
