use Rattle.std.proofs.Common.{◌≡◌, ◌≤◌, ◌-◌, length, take, drop}
use Rattle.export_table.specs.Waits.{of_return}
use Rattle.export_table.proofs.waits.part_of.Given as goal

abbrev pub decreases-loop-earlier : goal.decreases-loop-earlier
decreases-loop-earlier l = length l.waits - l.looked

-- So many of the return stand behind the waits that were looked at from the front on, and before those that were looked at from the end on.
abbrev pub invariant-loop-earlier : goal.invariant-loop-earlier
invariant-loop-earlier l =
    record {
      within : l.looked ≤ length l.waits;
      behind : l.later ≡ length (of_return l.uid (drop l.looked l.waits));
      before : l.earlier ≡ length (of_return l.uid (take (length l.waits - l.looked) l.waits));
    }
