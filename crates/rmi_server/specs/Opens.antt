-- The history with which a server begins.
use Rattle.std.specs.Prelude.{ℕ, ◌+◌, List, [], ◌∷◌}
use Rattle.object_ids.specs.declared.ids.ObjId.{ObjId}
use Rattle.object_ids.specs.declared.ids.Uid.{Uid}
use Rattle.history.specs.declared.asks.Event.{Event}
use Rattle.history.specs.declared.asks.Ask.TheVariants.{Bind}
use Rattle.history.specs.Places.{exported_count, id_at}
use Rattle.history.specs.Table.{places}
use Rattle.space.specs.Built.{SpaceHistory, open_event}
use Rattle.rmi_server.specs.declared.site.Named.{Named}

-- The object that a space exports next.
abbrev pub next_object : SpaceHistory → ObjId
next_object space = id_at space.configuration.uid (exported_count (places space.configuration space.events))

-- The server binds a name to an object.
abbrev pub bind_event : List ℕ → ObjId → Event
bind_event name object = record { by = 0; moment = 0; ask = Bind name object }

-- The events by which a server opens objects, the first of them as its k-th, counted from 0: each object is exported for good, and then its name is
-- bound to it. The k-th object of a server has the number 16 + k, and the server's own identifier.
abbrev pub opened_events : Uid → ℕ → List Named → List Event
opened_events space k [] = []
opened_events space k (named ∷ more) = open_event named.kind ∷ bind_event named.name.now (id_at space k) ∷ opened_events space (k + 1) more
