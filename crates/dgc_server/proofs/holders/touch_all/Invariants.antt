use Rattle.std.proofs.Common.{◌≡◌, true, take}
use Rattle.object_ids.specs.declared.ids.ObjId.{ObjId}
use Rattle.dgc_server.specs.Entry.{is_in}
use Rattle.dgc_server.specs.HolderIndex.{Way, counted_at, has_count}
use Rattle.dgc_server.proofs.holders.touch_all.Given as goal

abbrev pub invariant-loop-object : goal.invariant-loop-object
invariant-loop-object l =
    record {
      same : (w : Way) (o : ObjId) → counted_at w l.counts o ≡ counted_at w l.initial.counts o;
      there : (o : ObjId) → is_in o (take l.object-index l.objects) ≡ true → has_count l.counts o ≡ true;
    }
