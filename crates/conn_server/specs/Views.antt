-- What the root knows, as it accepts and as it joins.
use Rattle.std.specs.Prelude.{◌≡◌, ℕ, List, ◌++◌}
use Rattle.ports.specs.Balance.{WentAmong}
use Rattle.space.specs.declared.asked.Asked.{Asked}
use Rattle.turn_lock.specs.Answers.{events_of}
use Rattle.turn_lock.specs.Rule.{Events, StartsWith}
use Rattle.turn_lock.specs.declared.view.View.{View}

-- The root with the view v took further passes back, and knows w now.
pub record Grows (v w : View) : Type 0 where
  pub number : w.number ≡ v.number
  pub config : w.config ≡ v.config
  pub opening : w.opening ≡ v.opening
  pub own : w.own ≡ v.own
  pub seen : StartsWith w.seen v.seen
  pub more : List (ℕ × Events)
  pub ended : w.ended ≡ v.ended ++ more

-- These are the entries of all turns of the root's own: they lead to a history that begins what it has seen.
pub record IsTicked (v : View) (ticks : List Asked) : Type 0 where
  pub number : v.number ≡ 0
  pub own : v.own ≡ events_of 0 ticks
  pub last : Events
  pub went : WentAmong v.config 0 v.opening ticks last
  pub seen : StartsWith v.seen last

-- The same before any pass was taken back: they lead to what it has seen.
pub record IsTicking (v : View) (ticks : List Asked) : Type 0 where
  pub number : v.number ≡ 0
  pub own : v.own ≡ events_of 0 ticks
  pub went : WentAmong v.config 0 v.opening ticks v.seen
