use Rattle.std.proofs.Common.{◌≡◌, ◌+◌, ◌*◌, ◌≤◌, ◌^◌, drop}
use Rattle.std.specs.Prelude.{if◌then◌else◌}
use Rattle.object_ids.specs.declared.ids.ObjId.{ObjId}
use Rattle.dgc_server.specs.Entry.{is_in}
use Rattle.dgc_server.specs.HolderIndex.{Way, Naming, counted_at, total_of}
use Rattle.dgc_server.proofs.holders.forget_all.Given as goal

abbrev pub invariant-loop-object : goal.invariant-loop-object
invariant-loop-object l =
    record {
      counts : (w : Way) (o : ObjId) → (if is_in o (drop l.object-index l.objects) then 0 else counted_at w l.counts o) ≡ (if is_in o l.objects then 0 else counted_at w l.initial.counts o);
      pairs : l.pairs + total_of (counted_at Naming l.counts) (drop l.object-index l.objects) ≡ total_of (counted_at Naming l.initial.counts) l.objects;
      within : l.pairs ≤ l.object-index * 2 ^ 32;
    }
