-- What comes of a drill in a space.
use Rattle.std.specs.Prelude.{◌≡◌, ◌⊎◌, List, ◌∷◌, ◌++◌, Some}
use Rattle.history.specs.declared.asks.SpaceConfig.{SpaceConfig}
use Rattle.history.specs.declared.asks.Event.{Event}
use Rattle.history.specs.declared.replies.Refused.{Refused}
use Rattle.history.specs.declared.replies.Refused.TheVariants.{OutOfMemory}
use Rattle.history.specs.Limits.{limits, refusal}
use Rattle.history.specs.Steps.{IsLegal}
use Rattle.history.specs.Table.{places}

-- After the history h a front of these events is taken, one after another, and there is this cause to refuse the next.
pub record StopsIn (config : SpaceConfig) (h events : List Event) (refused : Refused) : Type 0 where
  pub front : List Event
  pub event : Event
  pub rest : List Event
  pub events_are : events ≡ front ++ event ∷ rest
  pub legal : IsLegal config (h ++ front)
  pub cause : refusal (limits config) config (places config (h ++ front)) event ≡ Some refused

-- Why these events are not all taken after the history h: there was no memory, or a cause to refuse one of them.
abbrev pub EndsIn : SpaceConfig → List Event → List Event → Refused → Type 0
EndsIn config h events refused = (refused ≡ OutOfMemory) ⊎ StopsIn config h events refused

-- From the history h on, these events were to come; those before `rest` were taken, and left the history h2.
pub record CameTo (h events h2 rest : List Event) : Type 0 where
  pub done : List Event
  pub after : h2 ≡ h ++ done
  pub events_are : events ≡ done ++ rest
