use Rattle.std.proofs.Common.{◌≡◌, ◌++◌}
use Rattle.dgc_server.specs.Entry.{object_entries, dirty_objects}
use Rattle.dgc_server.proofs.lease_ends.append_objects.Given as goal

abbrev pub invariant-loop-object : goal.invariant-loop-object
invariant-loop-object l =
    l.freed.items ++ dirty_objects (object_entries l.object-iterator) ≡ l.initial.freed.items ++ dirty_objects (object_entries l.objects.entries)
