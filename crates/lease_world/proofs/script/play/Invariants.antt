use Rattle.std.proofs.Common.{◌≤◌, ◌+◌, List, ℕ, length}
use Rattle.lease_world.specs.Script.{IsReached}
use Rattle.lease_world.proofs.script.play.Given as goal

abbrev pub invariant-loop-rest : goal.invariant-loop-rest
invariant-loop-rest l =
    ((script : List ℕ) → IsReached script l.fn.world l.fn.lines 2 → IsReached script l.world l.rest l.number)
    × (l.number + length l.rest ≤ 2 + length l.fn.lines)

abbrev pub decreases-loop-rest : goal.decreases-loop-rest
decreases-loop-rest l = length l.rest
