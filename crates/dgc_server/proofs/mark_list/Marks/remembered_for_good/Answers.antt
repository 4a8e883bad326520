use Rattle.std.proofs.Common.{◌≡◌, length, filter, ap, sym, ◌∙◌}
use Rattle.std.specs.Prelude.{false}
use Rattle.dgc_server.specs.Numbers.{is_remembered}
use Rattle.dgc_server.specs.Entry.{ObjectEntry, object_entries}
use Rattle.dgc_server.specs.Marks.{MarkList, marks_of}
use Rattle.dgc_server.proofs.MarkLaws.{counted-values}
use Rattle.dgc_server.proofs.MarkLists.{counted-entries}
use Rattle.dgc_server.proofs.mark_list.Marks.remembered_for_good.Goals as goal

pub returns-in-Few : goal.returns-in-Few
returns-in-Few c =
    let same : c.deref.result.now ≡ c.args.self.now.entries = c.deref.ensures.value ∙ sym (ap (λ held. (marks_of held).entries) c.in-Few.is) ∙ ap (λ (m : MarkList). m.entries) c.self.view_is in
    c.remembered_for_good.ensures ∙ counted-entries (is_remembered false) c.deref.result.now
    ∙ ap (λ ps. length (filter (λ (x : ObjectEntry). is_remembered false x.numbers) (object_entries ps))) same

pub returns-in-Many : goal.returns-in-Many
returns-in-Many c =
    let same : c.in-Many.map.entries ≡ c.args.self.now.entries = sym (ap (λ held. (marks_of held).entries) c.in-Many.is) ∙ ap (λ (m : MarkList). m.entries) c.self.view_is in
    c.remembered_for_good-in-Many.ensures ∙ counted-values (is_remembered false) c.in-Many.map.entries
    ∙ ap (λ ps. length (filter (λ (x : ObjectEntry). is_remembered false x.numbers) (object_entries ps))) same
