-- What the rule of a lock says of all its passes together, and of what a pass's entries did.
use Rattle.std.specs.Prelude.{◌≡◌, ℕ, suc, ◌<◌, ◌≤◌, List, ◌++◌, [], length, Contains, Option}
use mathlib.Core.Option.{some}
use lib.ListN.{get_elem?}
use Rattle.atomic_table.specs.Table.{State}
use Rattle.history.specs.declared.asks.SpaceConfig.{SpaceConfig}
use Rattle.history.specs.declared.asks.Ask.{Ask}
use Rattle.history.specs.Collector.{TableCollects}
use Rattle.history.specs.Steps.{IsLegal}
use Rattle.space.specs.Acts.{event_of}
use Rattle.space.specs.Built.{SpaceHistory}
use Rattle.ports.specs.Ports.{GoesBy}
use Rattle.space.specs.declared.asked.Asked.{Asked}
use Rattle.space.specs.declared.asked.AskedEnd.{AskedEnd}
use Rattle.space.specs.declared.asked.AskedEnd.TheVariants.{Turned, Abandoned, Refused as Denied}
use Rattle.turn_lock.specs.declared.view.View.{View}
use Rattle.turn_lock.specs.Rule.{Events, StartsWith, events_by, KeepsRule}

-- The passes of a lock round a space, each at its number, have one history. It is legal and goes on from the space's; what each pass has seen
-- begins it; the further events of a pass's number are exactly its own, in order; the same is true of the list that a pass had when it was
-- joined, and no live pass has its number; the root has such a list of each pass that has ended; the passes are the root and those that it
-- made; and no further event has another number.
pub record Ordered (s : SpaceHistory) (passes : List View) : Type 0 where
  pub tail : Events
  pub legal : IsLegal s.configuration (s.events ++ tail)
  pub live : (j : ℕ) (v : View) → get_elem? passes j ≡ some v → 0 < v.parts → (v.number ≡ j) × StartsWith (s.events ++ tail) v.seen × (events_by j tail ≡ v.own)
  pub joined : (v : View) → get_elem? passes 0 ≡ some v → (p : ℕ × Events) → Contains v.ended p → (events_by p.0 tail ≡ p.1) × ((u : View) → get_elem? passes p.0 ≡ some u → u.parts ≡ 0)
  pub all_joined : (v : View) → get_elem? passes 0 ≡ some v → (j : ℕ) (u : View) → get_elem? passes j ≡ some u → u.parts ≡ 0 → (own : Events) × Contains v.ended (j, own)
  pub counted : (v : View) → get_elem? passes 0 ≡ some v → length passes ≡ suc v.made
  pub no_others : (n : ℕ) → length passes ≤ n → events_by n tail ≡ []

-- Where the rule of a lock holds, its passes are ordered. The table of words keeps the rule between any two steps.
abbrev pub RuleOrders : Type 0
RuleOrders = (s : SpaceHistory) (t : State (Option SpaceHistory) View) → KeepsRule s t → Ordered s t.views

-- The event of an entry was taken.
abbrev pub IsTaken : AskedEnd → Type 0
IsTaken (Turned turn) = Unit {0}
IsTaken (Abandoned place) = Unit {0}
IsTaken (Denied refused) = ⊥

-- A pass that had seen the history of v makes a turn, and then has seen that of w: others' events, the turn's own, and further ones of others. At its place
-- the collector keeps and withdraws as it is to.
abbrev pub TurnCollects : View → ℕ → Ask → View → Type 0
TurnCollects v moment ask w = (others next last : Events) × TableCollects v.config (v.seen ++ others) (event_of v.number moment ask) next × (w.seen ≡ next ++ last)

-- At each event that an entry tells as taken, at its place, the collector keeps and withdraws as it is to.
abbrev pub EntriesCollect : Type 0
EntriesCollect = (config : SpaceConfig) (by : ℕ) (h next : Events) (entry : Asked) → GoesBy config by h entry.moment entry.ask entry.end next → IsTaken entry.end →
    TableCollects config h (event_of by entry.moment entry.ask) next
