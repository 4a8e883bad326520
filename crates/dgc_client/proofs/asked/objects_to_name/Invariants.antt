use Rattle.std.proofs.Common.{◌≡◌, List, ◌++◌}
use Rattle.std.specs.Prelude.{ℤ, filter}
use Rattle.std.specs.List.{list_any}
use Rattle.object_ids.specs.declared.ids.ObjId.{ObjId}
use Rattle.dgc_client.specs.Log.{Dirty, asks_for}
use Rattle.dgc_client.specs.RefMap.{refs_in}
use Rattle.dgc_client.specs.SentMap.{is_asked}
use Rattle.dgc_client.specs.StandsForLog.{wants, ids_of}
use Rattle.dgc_client.proofs.asked.objects_to_name.Given as goal

abbrev pub invariant-loop-object : goal.invariant-loop-object
invariant-loop-object l =
    (ys : List Dirty) → ((o : ObjId) (since : ℤ) → is_asked l.asked o since ≡ list_any (asks_for o since) ys) →
    l.ids ++ ids_of (filter (wants l.over ys) (refs_in l.object-iterator)) ≡ ids_of (filter (wants l.over ys) (refs_in l.refs.entries))
