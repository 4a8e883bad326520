-- The history of the sample space.
use Rattle.std.specs.Prelude.{ℕ, ℤ, pos, codes, List, [], ◌∷◌}
use Rattle.object_ids.specs.declared.ids.ObjId.{ObjId}
use Rattle.history.specs.declared.asks.Event.{Event}
use Rattle.history.specs.declared.asks.SpaceConfig.{SpaceConfig}
use Rattle.history.specs.declared.asks.Ask.TheVariants.{Bind}
use Rattle.space.specs.Built.{open_event}

-- the object of the space with this number
abbrev pub object_with : SpaceConfig → ℤ → ObjId
object_with config number = record { number = number; space = config.uid }

-- a name that connection 0 binds at the moment 0 to the object with this number
abbrev pub bind_event : SpaceConfig → List ℕ → ℤ → Event
bind_event config name number = record { by = 0; moment = 0; ask = Bind name (object_with config number) }

-- One object of each kind is opened, and then a name of each is bound.
abbrev pub sample_events : SpaceConfig → List Event
sample_events config =
    open_event 0
    ∷ open_event 1
    ∷ open_event 2
    ∷ bind_event config (codes "echo") (pos 16)
    ∷ bind_event config (codes "counter") (pos 17)
    ∷ bind_event config (codes "maker") (pos 18)
    ∷ []
