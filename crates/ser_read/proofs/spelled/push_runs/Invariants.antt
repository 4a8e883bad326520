use Rattle.std.proofs.Common.{◌≡◌, ◌-◌, ◌≤◌, ◌++◌, List, ℕ, length, take}
use Rattle.mod_utf.specs.Utf.{Utf}
use Rattle.ser_read.proofs.spelled.push_runs.Given as goal

abbrev pub invariant-loop-at : goal.invariant-loop-at
invariant-loop-at l = (l.at ≤ length l.bytes) × (text : List ℕ) × Utf text (take l.at l.bytes) × (l.units ≡ l.fn.units ++ text)

abbrev pub decreases-loop-at : goal.decreases-loop-at
decreases-loop-at l = length l.bytes - l.at
