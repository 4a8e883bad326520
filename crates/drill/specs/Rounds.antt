-- The events of a drill, which a seed and a number of rounds decide: one client holds, gives up and renews after another what one object makes.
use Rattle.std.specs.Prelude.{ℕ, ℤ, pos, zero, suc, ◌+◌, ◌-◌, ◌-ℤ◌, ◌/◌, ◌%◌, min, true, false, nat_eq, List, [], ◌∷◌, ◌++◌, map, if◌then◌else◌}
use Rattle.object_ids.specs.declared.ids.ObjId.{ObjId}
use Rattle.object_ids.specs.declared.ids.Uid.{Uid}
use Rattle.object_ids.specs.Client.{Client}
use Rattle.history.specs.declared.asks.SpaceConfig.{SpaceConfig}
use Rattle.history.specs.declared.asks.Event.{Event}
use Rattle.history.specs.declared.asks.Ask.{Ask}
use Rattle.history.specs.declared.asks.Ask.TheVariants.{Open, Begin, Finish, Dirty, Clean, Ack, Tick}
use Rattle.drill.specs.declared.generator.Choice.{Choice}
use Rattle.drill.specs.declared.generator.Choice.TheVariants.{Make, Hold, GiveUp, GiveUpStrongly, Renew, Acknowledge, HoldLate, Pass}
use Rattle.drill.specs.declared.generator.Draws.{Draws}
use Rattle.drill.specs.Generator.{draws_after}

-- ---- the space

-- the identifier of the space, and with other numbers in the place of its time those of clients and of returns
abbrev pub uid_at : ℤ → Uid
uid_at time = record { unique = pos 0; time = time; count = pos 0 }

-- leases of ten minutes, and five minutes for an acknowledgement
abbrev pub drill_config : SpaceConfig
drill_config = record { lease_ms = 600000; ack_ms = 300000; uid = uid_at (pos 0); stored = true }

abbrev pub object_at : ℕ → ObjId
object_at number = record { number = pos number; space = uid_at (pos 0) }

-- The first event: connection 0 exports the object that makes others, and keeps it.
abbrev pub opening : Event
opening = record { by = 0; moment = 0; ask = Open 2 true }

-- ---- a round

-- how far a drill has come: the generator's state, the moment, and how many objects were made
pub record DrillState : Type 0 where
  pub state : ℕ
  pub moment : ℕ
  pub made : ℕ

-- one of eight clients, which take turns of 512 rounds each, and overlap
abbrev pub client_in : ℕ → ℕ → Client
client_in i drawn = record { addr = (i / 512 + drawn % 2) % 8 ∷ []; uid = uid_at (pos 0) }

-- one of the last eight objects that were made; the first, where none was
abbrev pub object_in : ℕ → ℕ → ObjId
object_in made drawn = object_at (if nat_eq made 0 then 17 else 16 + made - drawn % min 8 made)

-- what is asked in round i, where so many objects were made
abbrev pub asks_by : ℕ → ℕ → Draws → Choice → List Ask
asks_by i made d Make = Begin (object_at 16) ∷ Finish (object_at 16) (1 ∷ []) [] (uid_at (pos i)) ∷ []
asks_by i made d Hold = Dirty (client_in i d.client) (pos i) (pos 600000) (object_in made d.object ∷ []) ∷ []
asks_by i made d GiveUp = Clean (client_in i d.client) (pos i) (object_in made d.object ∷ []) false ∷ []
asks_by i made d GiveUpStrongly = Clean (client_in i d.client) (pos i -ℤ pos (d.late % 4)) (object_in made d.object ∷ []) true ∷ []
asks_by i made d Renew = Dirty (client_in i d.client) (pos i) (pos 600000) [] ∷ []
asks_by i made d Acknowledge = Ack (uid_at (pos (d.late % (i + 1)))) ∷ []
asks_by i made d HoldLate = Dirty (client_in i d.client) (pos i -ℤ pos (d.late % 16)) (pos 600000) (object_in made d.object ∷ []) ∷ []
asks_by i made d Pass = Tick ∷ []

-- how many objects were made after it
abbrev pub made_count_after : ℕ → Choice → ℕ
made_count_after made Make = made + 1
made_count_after made _ = made

-- where the drill stands after a round
abbrev pub after_round : DrillState → DrillState
after_round s =
    let d = draws_after s.state in
    record { state = d.state; moment = s.moment + (1 + d.steps % 5999); made = made_count_after s.made d.choice }

abbrev pub event_asking : ℕ → Ask → Event
event_asking moment ask = record { by = 1; moment = moment; ask = ask }

-- the events of round i
unfoldable pub events_in : ℕ → DrillState → List Event
events_in i s = map (event_asking (after_round s).moment) (asks_by i s.made (draws_after s.state) (draws_after s.state).choice)

-- ---- a drill

-- a round that is yet to come, and where the drill stands before it
pub record RoundToCome : Type 0 where
  pub round : ℕ
  pub stand : DrillState

-- the events of so many rounds, the first of which is round i
unfoldable pub events_from : ℕ → DrillState → ℕ → List Event
events_from i s zero = []
events_from i s (suc n) = events_in i s ++ events_from (suc i) (after_round s) n

abbrev pub start : ℕ → DrillState
start seed = record { state = seed; moment = 0; made = 0 }

-- the events of a drill of a seed and a number of rounds
abbrev pub drill_events : ℕ → ℕ → List Event
drill_events seed rounds = opening ∷ events_from 0 (start seed) rounds
