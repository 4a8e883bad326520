use Rattle.turn_lock.proofs.steps.publish_answer.Given as goal

-- The event that is published.
abbrev pub ghosts-publish : goal.ghosts-publish
ghosts-publish a = record { event = a.event.now.value }
