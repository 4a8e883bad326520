use Rattle.std.proofs.Common.{◌≤◌, ◌+◌, List, length, drop, ap, sym, ◌∙◌, arith}
use Rattle.std.specs.Prelude.{map}
use Rattle.std.proofs.lemmas.List.{drop_all}
use Rattle.object_ids.specs.declared.ids.ObjId.{ObjId}
use Rattle.dgc_client.specs.RefMap.{refs_in, changed_among}
use Rattle.dgc_client.proofs.RefEntries.{changed-step, changed-none}
use Rattle.dgc_client.proofs.ref_map.change_each.Goals as goal

pub loop-object-preserved : goal.loop-object-preserved
loop-object-preserved c = (
  ap (map (changed_among (drop (c.loop-object.object-index + 1) c.args.objects.now) c.args.change.now)) c.change_one.ensures.refs
      ∙ changed-step c.args.objects.now c.loop-object.object-index _ c.args.change.now (refs_in c.loop-object.refs.entries) c.loop-object-test.true
      ∙ c.loop-object.invariant.0,
  λ n h. c.change_one.ensures.settled n (c.loop-object.invariant.1 n h),
)

pub returns-clause-refs : goal.returns-clause-refs
returns-clause-refs c =
    let over : length c.args.objects.now ≤ c.loop-object.object-index = let t = c.loop-object-test.false in omega arith in
    sym (changed-none c.args.change.now (refs_in c.loop-object.refs.entries))
    ∙ ap (λ (l : List ObjId). map (changed_among l c.args.change.now) (refs_in c.loop-object.refs.entries)) (sym (drop_all c.loop-object.object-index c.args.objects.now over))
    ∙ c.loop-object.invariant.0
