use Rattle.std.proofs.Common.{◌≡◌, ◌<◌, ◌++◌, take, flat_map}
use Rattle.std.specs.List.{AllByRecursion}
use Rattle.history.specs.declared.limits.TheConstants.{END_OF_TIME}
use Rattle.journal.specs.Written.{event_line, EventFits}
use Rattle.space.proofs.journal_text.put_events.Given as goal

abbrev pub invariant-loop-place : goal.invariant-loop-place
invariant-loop-place l = (l.text ≡ l.initial.text ++ flat_map (event_line l.space) (take l.place l.events.items))
    × AllByRecursion (λ e. e.moment < END_OF_TIME → EventFits e) (take l.place l.events.items)
