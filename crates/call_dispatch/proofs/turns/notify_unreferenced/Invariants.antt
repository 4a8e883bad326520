use Rattle.std.proofs.Common.{◌≡◌, ℕ, List, Option, take}
use Rattle.space.specs.declared.asked.Asked.{Asked}
use Rattle.call_dispatch.specs.Acts.{Led, tells_of, observed}
use Rattle.call_dispatch.proofs.turns.notify_unreferenced.Given as goal

abbrev pub invariant-loop-object : goal.invariant-loop-object
invariant-loop-object g l = ((asked : List Asked) (given : Option (List ℕ)) → Led g.W.Worker.may g.W.Worker.moves
    (observed asked given (g.W.Worker.shown l.initial.worker))
    (observed asked given (g.W.Worker.shown l.worker))
    (tells_of (take l.object-index l.gone)))
    × ((g.W.Worker.shown l.worker).calls ≡ (g.W.Worker.shown l.initial.worker).calls)
