use Rattle.std.proofs.Common.{length, filter, ap, sym, ◌∙◌}
use Rattle.std.proofs.lemmas.List.{length-map}
use Rattle.dgc_server.specs.Numbers.{is_remembered}
use Rattle.dgc_server.specs.Entry.{ObjectEntry, object_entry, object_entries}
use Rattle.dgc_server.proofs.MarkLaws.{all-remembered}
use Rattle.dgc_server.proofs.marks.remembered_in.Goals as goal

pub returns-then-left : goal.returns-then-left
returns-then-left c =
    c.len.ensures ∙ sym (length-map c.args.objects.now.entries object_entry) ∙ sym (all-remembered (object_entries c.args.objects.now.entries) c.requires)
    ∙ ap (λ b. length (filter (λ (x : ObjectEntry). is_remembered b x.numbers) (object_entries c.args.objects.now.entries))) (sym c.if-left.true)

pub returns-else-left : goal.returns-else-left
returns-else-left c =
    c.remembered_for_good.ensures
    ∙ ap (λ b. length (filter (λ (x : ObjectEntry). is_remembered b x.numbers) (object_entries c.args.objects.now.entries))) (sym c.if-left.false)
