use Rattle.std.proofs.Common.{ap, sym, ◌∙◌, true≢false}
use Rattle.std.specs.Prelude.{is_some}
use Rattle.dgc_server.specs.Entry.{object_entries}
use Rattle.dgc_server.proofs.MarkLaws.{has-looked_up, entries-written}
use Rattle.dgc_server.proofs.many_marks.replace.Goals as goal

pub returns-in-Some-clause-objects : goal.returns-in-Some-clause-objects
returns-in-Some-clause-objects c =
    ap object_entries (c.get_mut.follows.holds c.args.numbers).0 ∙ entries-written c.args.marks.now.entries c.args.object.now c.args.numbers c.requires

pub returns-in_default-clause-objects : goal.returns-in_default-clause-objects
returns-in_default-clause-objects c =
    let there = ap is_some c.get_mut.ensures.value ∙ has-looked_up c.args.marks.now.entries c.args.object.now ∙ c.requires in
    let none = rw c.in_default.is at there in absurd (true≢false (sym none))
