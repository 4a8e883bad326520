use Rattle.std.proofs.Common.{ap, ◌∙◌}
use Rattle.dgc_server.specs.Entry.{object_entries}
use Rattle.dgc_server.proofs.MarkLists.{appended}
use Rattle.dgc_server.proofs.few_marks.add.Goals as goal

pub returns-clause-objects : goal.returns-clause-objects
returns-clause-objects c = ap object_entries c.push_reserved.ensures.items ∙ appended c.args.object.now c.args.numbers c.args.marks.now.items c.requires.absent
