use Rattle.std.proofs.Common.{◌≡◌, drop}
use Rattle.std.specs.Prelude.{ℤ, ◌&&◌, ◌||◌, int_le}
use Rattle.std.specs.List.{list_any}
use Rattle.object_ids.specs.declared.ids.ObjId.{ObjId}
use Rattle.object_ids.specs.Same.{same_id}
use Rattle.dgc_client.specs.SentMap.{is_asked}
use Rattle.dgc_client.proofs.asked.note_all.Given as goal

abbrev pub invariant-loop-object : goal.invariant-loop-object
invariant-loop-object l =
    (o : ObjId) (since : ℤ) → ((list_any (λ x. same_id x o) (drop l.object-index l.objects) && int_le since l.number) || is_asked l.asked o since)
    ≡ ((list_any (λ x. same_id x o) l.objects && int_le since l.number) || is_asked l.initial.asked o since)
