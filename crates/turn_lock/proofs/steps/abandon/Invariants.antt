use Rattle.turn_lock.proofs.steps.abandon.Given as goal

-- The event that is published.
abbrev pub ghosts-publish : goal.ghosts-publish
ghosts-publish g a = record { event = a.event.now.value }
