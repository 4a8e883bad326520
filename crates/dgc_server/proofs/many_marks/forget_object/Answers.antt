use Rattle.std.proofs.Common.{ap, sym, ◌∙◌}
use Rattle.std.specs.Prelude.{is_some}
use Rattle.dgc_server.specs.Entry.{object_entries}
use Rattle.dgc_server.proofs.MarkLists.{taken-out}
use Rattle.std.specs.Map.{lookup}
use Rattle.object_ids.specs.Same.{same_key}
use Rattle.dgc_server.proofs.many_marks.forget_object.Goals as goal

pub returns : goal.returns
returns c =
    let gone = ap is_some c.shift_remove.ensures.updates.1 in
    ap object_entries c.shift_remove.ensures.entries
    ∙ taken-out c.args.object.now c.args.marks.now.entries (ap (λ ps. is_some (lookup (same_key c.args.object.now) ps)) (sym c.shift_remove.ensures.entries) ∙ gone)
