use Rattle.std.proofs.Common.{◌≡◌, ◌≤◌, ◌+◌, List, Result, length}
use Rattle.history.specs.declared.asks.Event.{Event}
use Rattle.rmi_cli.specs.declared.outlines.ReplayFault.{ReplayFault}
use Rattle.rmi_cli.specs.Replay.{LinesGo}
use Rattle.rmi_cli.proofs.outlines.take_lines.Given as goal

abbrev pub invariant-loop-rest : goal.invariant-loop-rest
invariant-loop-rest l =
    ((stop : Result (Unit {0}) ReplayFault) (h2 : List Event) → LinesGo l.config l.space.events l.rest l.number stop h2 → LinesGo l.config l.fn.space.events l.fn.lines 2 stop h2)
    × (l.space.configuration ≡ l.config) × (l.number + length l.rest ≤ 2 + length l.fn.lines)

abbrev pub decreases-loop-rest : goal.decreases-loop-rest
decreases-loop-rest l = length l.rest
