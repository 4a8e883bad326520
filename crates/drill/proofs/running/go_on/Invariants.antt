use Rattle.std.proofs.Common.{◌≡◌, ◌+◌}
use Rattle.drill.specs.Rounds.{events_from, start}
use Rattle.drill.specs.Runs.{CameTo}
use Rattle.drill.proofs.running.go_on.Given as goal

abbrev pub invariant-loop-left : goal.invariant-loop-left
invariant-loop-left l =
    CameTo l.fn.space.events (events_from 0 (start l.seed) l.rounds) l.space.events (events_from l.drill.round l.drill.stand l.left)
    × (l.space.configuration ≡ l.fn.space.configuration) × (l.drill.round + l.left ≡ l.rounds)

abbrev pub decreases-loop-left : goal.decreases-loop-left
decreases-loop-left l = l.left
