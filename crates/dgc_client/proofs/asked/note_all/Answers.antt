use Rattle.std.proofs.Common.{◌≤◌, List, length, ap, sym, ◌∙◌, arith}
use Rattle.std.specs.Prelude.{◌&&◌, ◌||◌, int_le}
use Rattle.std.specs.List.{list_any}
use Rattle.std.proofs.lemmas.List.{drop_all}
use Rattle.object_ids.specs.declared.ids.ObjId.{ObjId}
use Rattle.object_ids.specs.Same.{same_id}
use Rattle.dgc_client.specs.SentMap.{is_asked}
use Rattle.dgc_client.proofs.SentEntries.{asked-step}
use Rattle.dgc_client.proofs.asked.note_all.Goals as goal

pub loop-object-preserved : goal.loop-object-preserved
loop-object-preserved c = λ o since.
    asked-step c.args.objects.now c.loop-object.object-index _ o (int_le since c.args.number.now) (is_asked c.loop-object.asked o since) (is_asked c.note.new.asked o since)
    c.loop-object-test.true (c.in_ok-note.ensures o since)
    ∙ c.loop-object.invariant o since

pub returns : goal.returns
returns c = λ o since.
    let over : length c.args.objects.now ≤ c.loop-object.object-index = let t = c.loop-object-test.false in omega arith in
    ap (λ (xs : List ObjId). (list_any (λ x. same_id x o) xs && int_le since c.args.number.now) || is_asked c.loop-object.asked o since)
    (sym (drop_all c.loop-object.object-index c.args.objects.now over))
    ∙ c.loop-object.invariant o since
