use Rattle.std.proofs.Common.{◌≡◌, take}
use Rattle.history.specs.Table as words
use Rattle.history_model.proofs.table.places.Given as goal

abbrev pub invariant-loop-event : goal.invariant-loop-event
invariant-loop-event l = l.places.items ≡ words.places l.config (take l.event-index l.events)
