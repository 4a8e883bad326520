use Rattle.std.proofs.Common.{rules, ap, ◌∙◌}
use Rattle.std.proofs.lemmas.Fn.{filter_same}
use Rattle.object_ids.specs.declared.ids.ObjId.{ObjId}
use Rattle.dgc_server.specs.declared.numbers.Numbers.{Numbers}
use Rattle.dgc_server.specs.Entry.{object_entries}
use Rattle.dgc_server.specs.HolderIndex.{is_named}
use Rattle.dgc_server.proofs.MarkLaws.{entries-filtered}
use Rattle.dgc_server.proofs.few_marks.keep_named.Goals as goal

pub returns : goal.returns
returns c =
    ap object_entries (filter_same _ (λ (m : ObjId × Numbers). is_named c.args.counts.now m.0) _ (λ x b f' h. search rules) _ _ c.retain.ensures.filtered)
    ∙ entries-filtered (is_named c.args.counts.now) c.args.marks.now.items
