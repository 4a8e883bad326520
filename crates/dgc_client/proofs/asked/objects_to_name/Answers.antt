use Rattle.std.proofs.Common.{List, ◌++◌, ap, sym, ◌∙◌}
use Rattle.std.specs.Prelude.{◌&&◌, not, filter}
use Rattle.object_ids.specs.declared.ids.ObjId.{ObjId}
use Rattle.dgc_client.specs.declared.ref_map.Kept.{Kept}
use Rattle.dgc_client.specs.RefMap.{refs_in}
use Rattle.dgc_client.specs.StandsForLog.{wants, ids_of}
use Rattle.dgc_client.proofs.SentEntries.{wants-step}
use Rattle.dgc_client.proofs.asked.objects_to_name.Goals as goal

pub loop-object-init : goal.loop-object-init
loop-object-init c = λ ys same.
    ap (λ (l : List ObjId). l ++ ids_of (filter (wants c.args.over ys) (refs_in c.into_iter-object-iterator.result))) c.new-ids.ensures
    ∙ ap (λ (l : List (ObjId × Kept)). ids_of (filter (wants c.args.over ys) (refs_in l))) (c.into_iter-object-iterator.ensures.into_iter_gives ∙ c.iter-object-items.ensures.rest)
    ∙ ap ids_of (c.open_entries.ensures ys)

pub loop-object-preserved : goal.loop-object-preserved
loop-object-preserved c = λ ys same.
    let o = c.in-Some.object.now in
    let k = c.in-Some.kept.now in
    ap (λ l. l ++ ids_of (filter (wants c.args.over ys) (refs_in c.next.new.self))) c.in_ok-put_if.ensures
    ∙ wants-step c.args.over ys c.loop-object.ids c.is_wanting-wanted.result (o, k) c.next.new.self
    (c.is_wanting-wanted.ensures ∙ ap (λ b. not k.gone && not (not c.args.over && k.sure) && not b) (same o k.since))
    ∙ ap (λ l. c.loop-object.ids ++ ids_of (filter (wants c.args.over ys) (refs_in l))) (sym c.in-Some.ensures.steps)
    ∙ c.loop-object.invariant ys same
