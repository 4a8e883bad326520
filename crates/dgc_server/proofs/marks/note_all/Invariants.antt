use Rattle.std.proofs.Common.{◌≡◌, ◌+◌, ◌≤◌, true, drop}
use Rattle.object_ids.specs.declared.ids.ObjId.{ObjId}
use Rattle.dgc_server.specs.Entry.{object_entries, objects_noted, is_in, absent_in}
use Rattle.dgc_server.specs.HolderIndex.{Way, counted_at, has_count, counts_in, one_if}
use Rattle.dgc_server.proofs.marks.note_all.Given as goal

abbrev pub invariant-loop-object : goal.invariant-loop-object
invariant-loop-object l =
    record {
      objects : objects_noted l.kind l.number l.named (object_entries l.initial.objects.entries) ≡ objects_noted l.kind l.number (drop l.object-index l.named) (object_entries l.objects.entries);
      counts : (w : Way) (o : ObjId) → counted_at w l.counts o + one_if (counts_in w true (object_entries l.initial.objects.entries) o) ≡ counted_at w l.initial.counts o + one_if (counts_in w true (object_entries l.objects.entries) o);
      has : (o : ObjId) → is_in o l.named ≡ true → has_count l.counts o ≡ true;
      room : absent_in (object_entries l.objects.entries) (drop l.object-index l.named) ≤ l.objects.room;
    }
