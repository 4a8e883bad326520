-- What a space keeps stands for its events, with room for the ends of its calls.
use Rattle.std.specs.Prelude.{List}
use Rattle.history.specs.declared.asks.Event.{Event}
use Rattle.history.specs.Table.{places}
use Rattle.rmi_registry.specs.StandsForHistory.{AreBindings}
use Rattle.space.specs.declared.tables.Tables.{Tables}
use Rattle.space.specs.Ahead.{HasRoom}
use Rattle.space.specs.Kept.{Keeps}
use Rattle.space.specs.Stored.{IsStoredAs}

-- It is what is kept of these events, has room, and is stored or not as its configuration says.
abbrev pub IsWholeWith : Tables → List Event → Type 0
IsWholeWith t events =
    Keeps t.config events t.leases t.exports t.runs.items t.withdrawn.items t.reported t.added t.units t.moment
    × HasRoom events t.events.capacity t.runs.items t.withdrawn.items t.withdrawn.room t.exports
    × AreBindings (places t.config events) t.names
    × IsStoredAs t.config t.events t.withdrawn t.reported

-- The same of the events that are there.
abbrev pub IsWhole : Tables → Type 0
IsWhole t = IsWholeWith t t.events.items
