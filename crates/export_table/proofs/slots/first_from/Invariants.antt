use Rattle.std.proofs.Common.{◌≡◌, ◌≤◌, ◌-◌, length, take, drop, true, not}
use Rattle.std.specs.Prelude.{int_lt}
use Rattle.std.specs.List.{list_all}
use Rattle.export_table.specs.ExportRows.{ids}
use Rattle.export_table.specs.Slots.{all_rows}
use Rattle.export_table.proofs.slots.first_from.Given as goal

abbrev pub decreases-loop-low : goal.decreases-loop-low
decreases-loop-low l = l.high - l.low

abbrev pub invariant-loop-low : goal.invariant-loop-low
invariant-loop-low l =
    record {
      forward : l.low ≤ l.high;
      within : l.high ≤ length l.slots;
      before : list_all (λ o. int_lt o.number l.id.number) (ids (take l.low (all_rows l.slots))) ≡ true;
      after : list_all (λ o. not (int_lt o.number l.id.number)) (ids (drop l.high (all_rows l.slots))) ≡ true;
    }
