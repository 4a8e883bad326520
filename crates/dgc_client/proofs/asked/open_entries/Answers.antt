use Rattle.std.proofs.Common.{◌≤◌, List, length, drop, ap, sym, subst, ◌∙◌}
use Rattle.std.specs.Prelude.{filter}
use Rattle.object_ids.specs.declared.ids.ObjId.{ObjId}
use Rattle.dgc_client.specs.declared.ref_map.Kept.{Kept}
use Rattle.dgc_client.specs.RefMap.{refs_in}
use Rattle.dgc_client.specs.StandsForLog.{wants}
use Rattle.dgc_client.proofs.Settled.{settled-few, wants-behind}
use Rattle.dgc_client.proofs.asked.open_entries.Goals as goal

pub split_at-settled-requires : goal.split_at-settled-requires
split_at-settled-requires c =
    subst (λ (l : List (ObjId × Kept)). c.args.settled ≤ length l) (sym c.as_slice-entries.ensures.entries) (settled-few c.args.settled c.args.refs.now.entries c.requires)

pub returns : goal.returns
returns c = λ ys.
    let es = c.args.refs.now.entries in
    ap (λ l. filter (wants c.args.over ys) (refs_in l)) c.split_at-settled.ensures.back
    ∙ ap (λ (l : List (ObjId × Kept)). filter (wants c.args.over ys) (refs_in (drop c.args.settled l))) c.as_slice-entries.ensures.entries
    ∙ ap (λ b. filter (wants b ys) (refs_in (drop c.args.settled es))) c.if-over.false
    ∙ wants-behind ys c.args.settled es c.requires
    ∙ ap (λ b. filter (wants b ys) (refs_in es)) (sym c.if-over.false)
