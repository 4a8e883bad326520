use Rattle.std.proofs.Common.{◌≡◌, ◌≤◌, max, length, map, take, drop}
use Rattle.std.specs.Prelude.{filter, vec_len, vec_capacity}
use Rattle.dgc_server.specs.StandsForCalls.{ForEachLog}
use Rattle.export_table.specs.ExportRows.{stays_among, held_by}
use Rattle.export_table.specs.Slots.{is_leaving, as_marked, none_leaving, AreMarked}
use Rattle.export_table.proofs.slots.mark_among.Given as goal

abbrev pub invariant-loop-object : goal.invariant-loop-object
invariant-loop-object l =
    record {
      marks : ForEachLog l.leases (λ lease moment calls.
          l.slots.items ≡ map (as_marked (stays_among (take l.object-index l.objects) l.now (held_by lease (max l.now moment) calls) l.waits.waits)) l.initial.slots.items);
      any : AreMarked l.initial.slots.items l.slots.items;
      front : none_leaving (take l.span.first l.slots.items);
      back : none_leaving (drop l.span.upto l.slots.items);
      within : l.span.upto ≤ length l.slots.items;
      index : l.object-index ≤ length l.objects;
      few : length (filter is_leaving l.slots.items) ≤ l.object-index;
      slots_len : vec_len l.slots ≡ vec_len l.initial.slots;
      slots_capacity : vec_capacity l.slots ≡ vec_capacity l.initial.slots;
    }
