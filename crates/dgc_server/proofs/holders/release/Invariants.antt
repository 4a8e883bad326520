use Rattle.std.proofs.Common.{◌≡◌, true}
use Rattle.object_ids.specs.declared.ids.ObjId.{ObjId}
use Rattle.dgc_server.specs.Entry.{object_entries}
use Rattle.dgc_server.specs.StandsForCalls.{each_once}
use Rattle.dgc_server.specs.HolderIndex.{Way, counted_at, loses, has_count}
use Rattle.dgc_server.proofs.HolderLaws.{Lowers}
use Rattle.dgc_server.proofs.holders.release.Given as goal

abbrev pub invariant-loop-object : goal.invariant-loop-object
invariant-loop-object l =
    record {
      counts : (w : Way) → Lowers (loses w l.held) (object_entries l.objects.entries) (counted_at w l.initial.counts) (counted_at w l.counts) (object_entries l.object-iterator);
      once : each_once (object_entries l.object-iterator) ≡ true;
      kept : (o : ObjId) → has_count l.initial.counts o ≡ true → has_count l.counts o ≡ true;
    }
