-- Which events of the one history a taker was given.
use Rattle.std.specs.Prelude.{◌≡◌, ℕ, ◌++◌, length, Option, IfSome}
use Rattle.turn_lock.specs.Handles.{opening_of}
use Rattle.turn_lock.specs.Rule.{Events, StartsWith}
use Rattle.turn_lock.specs.declared.handles.TurnLock.{TurnLock}
use Rattle.turn_lock.specs.declared.view.View.{View}

-- The events that were handed on are the first after the opening's in what the root with the view v has seen. Where further ones are to be handed on,
-- the place of the next one is known.
pub record AreHanded (lock : TurnLock) (v : View) (events : Events) (next : Option ℕ) : Type 0 where
  pub begins : StartsWith v.seen ((opening_of lock).events ++ events)
  pub place : IfSome next (λ n. n ≡ length ((opening_of lock).events ++ events))
