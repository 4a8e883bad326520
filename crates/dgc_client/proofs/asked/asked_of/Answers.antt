use Rattle.std.proofs.Common.{List, ap, sym, ◌∙◌}
use Rattle.std.specs.Prelude.{◌&&◌, ◌||◌, int_le}
use Rattle.std.specs.List.{list_any}
use Rattle.object_ids.specs.declared.ids.ObjId.{ObjId}
use Rattle.object_ids.specs.Same.{same_id}
use Rattle.dgc_client.specs.Log.{asks_for}
use Rattle.dgc_client.specs.SentMap.{is_asked, dirties_in}
use Rattle.dgc_client.proofs.SentEntries.{or-moved}
use Rattle.dgc_client.proofs.asked.asked_of.Goals as goal

pub loop-number-preserved : goal.loop-number-preserved
loop-number-preserved c = λ o since.
    let rest = list_any (asks_for o since) (dirties_in c.next.new.self) in
    let was = is_asked c.loop-number.asked o since in
    ap (λ b. rest || b) (c.in_ok-note_all.ensures o since)
    ∙ ap (λ (os : List ObjId). rest || ((list_any (λ x. same_id x o) os && int_le since c.in-Some.number.now) || was)) c.as_slice.ensures
    ∙ or-moved (list_any (λ x. same_id x o) c.in-Some.call.now.objects && int_le since c.in-Some.number.now) rest was
    ∙ ap (λ l. list_any (asks_for o since) (dirties_in l) || was) (sym c.in-Some.ensures.steps)
    ∙ c.loop-number.invariant o since
