use Rattle.std.proofs.Common.{◌≡◌, ◌≤◌, ◌-◌, ◌++◌, length}
use Rattle.lease_world.specs.Script.{clients_lines}
use Rattle.lease_world.specs.Stands.{ForEachCourse}
use Rattle.lease_world.specs.World.{world}
use Rattle.lease_world.proofs.world.World.put_clients.Given as goal

abbrev pub invariant-loop-number : goal.invariant-loop-number
invariant-loop-number l =
    ForEachCourse l.self (λ course. l.text ≡ l.initial.text ++ clients_lines (world course) l.number) × (l.number ≤ length l.self.members)

abbrev pub decreases-loop-number : goal.decreases-loop-number
decreases-loop-number l = length l.self.members - l.number
