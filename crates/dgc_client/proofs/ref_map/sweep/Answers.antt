use Rattle.std.proofs.Common.{rules, ap, ◌∙◌}
use Rattle.std.specs.Prelude.{not}
use Rattle.indexmap.proofs.CallerLemmas.{filter-RetainsPairs}
use Rattle.object_ids.specs.declared.ids.ObjId.{ObjId}
use Rattle.dgc_client.specs.declared.ref_map.Kept.{Kept}
use Rattle.dgc_client.specs.RefMap.{refs_in}
use Rattle.dgc_client.proofs.RefEntries.{refs-swept}
use Rattle.dgc_client.proofs.ref_map.sweep.Goals as goal

pub returns : goal.returns
returns c =
    ap refs_in (filter-RetainsPairs _ (λ (e : ObjId × Kept). not e.1.gone) _ (λ k v b w g call. search rules) _ _ c.retain.ensures.filtered) ∙ refs-swept c.args.refs.now.entries
