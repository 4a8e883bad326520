use Rattle.std.proofs.Common.{◌≡◌, ◌++◌, max, map, take, drop, length}
use Rattle.std.specs.Prelude.{vec_len, vec_capacity}
use Rattle.dgc_server.specs.StandsForCalls.{ForEachLog}
use Rattle.export_table.specs.ExportRows.{is_row_kept, held_by}
use Rattle.export_table.specs.Slots.{as_marked, AreMarked}
use Rattle.export_table.proofs.slots.mark_all.Given as goal

abbrev pub invariant-loop-i : goal.invariant-loop-i
invariant-loop-i l =
    record {
      marks : ForEachLog l.leases (λ lease moment calls.
          l.slots.items ≡ map (as_marked (is_row_kept l.now (held_by lease (max l.now moment) calls) l.waits.waits)) (take l.i l.initial.slots.items) ++ drop l.i l.initial.slots.items);
      any : AreMarked l.initial.slots.items l.slots.items;
      same : length l.slots.items ≡ length l.initial.slots.items;
      long : vec_len l.slots ≡ vec_len l.initial.slots;
      capacity : vec_capacity l.slots ≡ vec_capacity l.initial.slots;
    }
