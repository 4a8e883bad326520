use Rattle.std.proofs.Common.{◌≡◌}
use Rattle.std.specs.Prelude.{ℤ, ◌||◌}
use Rattle.std.specs.List.{list_any}
use Rattle.object_ids.specs.declared.ids.ObjId.{ObjId}
use Rattle.dgc_client.specs.Log.{asks_for}
use Rattle.dgc_client.specs.SentMap.{is_asked, dirties_in}
use Rattle.dgc_client.proofs.asked.asked_of.Given as goal

abbrev pub invariant-loop-number : goal.invariant-loop-number
invariant-loop-number l =
    (o : ObjId) (since : ℤ) → (list_any (asks_for o since) (dirties_in l.number-iterator) || is_asked l.asked o since) ≡ list_any (asks_for o since) (dirties_in l.sent.entries)
