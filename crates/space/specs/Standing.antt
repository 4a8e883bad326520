-- The outline of a history without its withdrawals, which a space has whether or not it keeps its events.
use Rattle.std.specs.Prelude.{List, ◌++◌, flat_map, ℕ}
use Rattle.history.specs.declared.asks.SpaceConfig.{SpaceConfig}
use Rattle.history.specs.declared.asks.Event.{Event}
use Rattle.history.specs.LeaseCalls.{lease_calls}
use Rattle.history.specs.Leases.{lease_rows}
use Rattle.history.specs.Names.{names}
use Rattle.history.specs.Outline.{events_line, object_rows, object_line, lease_line, name_line}
use Rattle.history.specs.Places.{now}
use Rattle.history.specs.Table.{places}

-- Its events, units and greatest moment; the exported objects; the clients with time left; the names.
unfoldable pub standing : SpaceConfig → List Event → List ℕ
standing config events =
    let h = places config events in
    events_line h
    ++ flat_map (object_line config) (object_rows config h)
    ++ flat_map lease_line (lease_rows config.lease_ms (now h) (lease_calls h))
    ++ flat_map (name_line config h) (names h)
