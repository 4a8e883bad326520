use Rattle.std.proofs.Common.{rules, ap, ◌∙◌}
use Rattle.std.specs.Prelude.{not}
use Rattle.std.proofs.lemmas.Fn.{filter_same}
use Rattle.object_ids.specs.declared.ids.ObjId.{ObjId}
use Rattle.object_ids.specs.Same.{same_id}
use Rattle.dgc_server.specs.declared.numbers.Numbers.{Numbers}
use Rattle.dgc_server.specs.Entry.{object_entries}
use Rattle.dgc_server.proofs.MarkLaws.{entries-filtered}
use Rattle.dgc_server.proofs.few_marks.keep_others.Goals as goal

pub returns : goal.returns
returns c =
    ap object_entries (filter_same _ (λ (m : ObjId × Numbers). not (same_id m.0 c.args.object.now)) _ (λ x b f' h. search rules) _ _ c.retain.ensures.filtered)
    ∙ entries-filtered (λ (x : ObjId). not (same_id x c.args.object.now)) c.args.marks.now.items
