-- What the entries of one pass say of the history.
use Rattle.std.specs.Prelude.{◌≡◌, ℕ, List, [], ◌∷◌, ◌++◌}
use Rattle.space.specs.Acts.{event_of}
use Rattle.ports.specs.Balance.{WentAmong}
use Rattle.space.specs.declared.asked.Asked.{Asked}
use Rattle.space.specs.declared.asked.AskedEnd.{AskedEnd}
use Rattle.space.specs.declared.asked.AskedEnd.TheVariants.{Turned, Abandoned, Refused as Denied}
use Rattle.turn_lock.specs.declared.view.View.{View}
use Rattle.turn_lock.specs.Rule.{Events}

-- The event of an entry, if it was taken.
abbrev pub taken_with : ℕ → Asked → AskedEnd → Events
taken_with by entry (Turned turn) = event_of by entry.moment entry.ask ∷ []
taken_with by entry (Abandoned place) = event_of by entry.moment entry.ask ∷ []
taken_with by entry (Denied refused) = []

abbrev pub taken_of : ℕ → Asked → Events
taken_of by entry = taken_with by entry entry.end

-- The events of a connection's entries that were taken.
abbrev pub events_of : ℕ → List Asked → Events
events_of by [] = []
events_of by (entry ∷ more) = taken_of by entry ++ events_of by more

-- A pass went from what it knew to what it knows by turns with these entries, and maybe by others that there was no memory for: each entry is
-- what its event is answered at its place, with none but other connections' events between, and the events that were taken are all that the
-- pass has of its own since.
pub record Gained (v w : View) (entries : List Asked) : Type 0 where
  pub same_number : w.number ≡ v.number
  pub same_parts : w.parts ≡ v.parts
  pub same_config : w.config ≡ v.config
  pub same_opening : w.opening ≡ v.opening
  pub same_made : w.made ≡ v.made
  pub same_ended : w.ended ≡ v.ended
  pub own_more : w.own ≡ v.own ++ events_of v.number entries
  pub went : WentAmong v.config v.number v.seen entries w.seen
