use Rattle.std.proofs.Common.{◌≡◌, ◌-◌, ◌≤◌, ◌++◌, ℕ, List, drop, length}
use Rattle.mod_utf.specs.Utf.{utf}
use Rattle.mod_utf.proofs.Fronts.{AreUnits}
use Rattle.mod_utf.proofs.decode.push_all.Given as goal

abbrev pub invariant-loop-at : goal.invariant-loop-at
invariant-loop-at l =
    (text : List ℕ) × (l.at ≤ length l.bytes) × (l.bytes ≡ utf text ++ drop l.at l.bytes) × (l.at ≡ length (utf text)) × AreUnits text
    × (l.units ≡ l.fn.units ++ text)

abbrev pub decreases-loop-at : goal.decreases-loop-at
decreases-loop-at l = length l.bytes - l.at
