use Rattle.std.proofs.Common.{◌≡◌, ◌+◌, ◌≤◌, length, drop}
use Rattle.std.specs.Prelude.{vec_len, vec_capacity, filter}
use Rattle.export_table.specs.Slots.{is_leaving}
use Rattle.export_table.proofs.Sweeping.{Sweeping}
use Rattle.export_table.proofs.slots.sweep.Given as goal

abbrev pub invariant-loop-i : goal.invariant-loop-i
invariant-loop-i l =
    record {
      sweeping : Sweeping l.initial.slots.items l.slots.items l.i l.upto l.initial.gone.items l.gone.items;
      counted : vec_len l.gone + length (filter is_leaving (drop l.i l.slots.items)) ≡ vec_len l.initial.gone + length (filter is_leaving l.initial.slots.items);
      more : vec_capacity l.initial.gone ≤ vec_capacity l.gone;
      slots_len : vec_len l.slots ≡ vec_len l.initial.slots;
      slots_capacity : vec_capacity l.slots ≡ vec_capacity l.initial.slots;
    }
