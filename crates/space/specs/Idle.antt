-- The ends of leases and of waits for an acknowledgement, and events that change nothing.
use Rattle.std.specs.Prelude.{◌≡◌, ℕ, ◌<◌, ◌≤◌, ◌⊎◌, List, []}
use Rattle.object_ids.specs.declared.ids.ObjId.{ObjId}
use Rattle.object_ids.specs.Client.{Client}
use Rattle.history.specs.declared.asks.SpaceConfig.{SpaceConfig}
use Rattle.history.specs.declared.asks.Event.{Event}
use Rattle.history.specs.declared.asks.Ask.TheVariants.{Tick}
use Rattle.history.specs.declared.calls.LeaseRow.{LeaseRow}
use Rattle.history.specs.declared.places.Returned.{Returned}
use Rattle.history.specs.declared.places.Withdrawal.{Withdrawal}
use Rattle.history.specs.Awaiting.{awaiting_references, until_of}
use Rattle.history.specs.LeaseCalls.{lease_calls}
use Rattle.history.specs.Leases.{calls_of, lease_end, lease_rows}
use Rattle.history.specs.Outline.{object_rows}
use Rattle.history.specs.Places.{History, now}
use Rattle.history.specs.Replies.{unreported_objects}
use Rattle.history.specs.Table.{places, table, withdrawals, withdrawn_objects, with_event}
use Rattle.space.specs.Acts.{event_of}

-- ---- ends

-- This end comes after the greatest moment of a history, and no later than the given moment.
abbrev pub IsDue : History → ℕ → ℕ → Type 0
IsDue h moment end = (now h < end) × (end ≤ moment)

-- Some client's lease ends so.
abbrev pub SomeLeaseIsDue : SpaceConfig → History → ℕ → Type 0
SomeLeaseIsDue config h moment = (c : Client) × IsDue h moment (lease_end config.lease_ms (calls_of c (lease_calls h)))

-- Some returned reference ceases so to await its acknowledgement.
abbrev pub SomeWaitIsDue : SpaceConfig → History → ℕ → Type 0
SomeWaitIsDue config h moment = (r : Returned) × IsDue h moment (until_of config.ack_ms h r)

-- A lease or a wait has ended at the moment, and had not at the greatest moment of these events.
abbrev pub SomethingEnds : SpaceConfig → List Event → ℕ → Type 0
SomethingEnds config events moment = SomeLeaseIsDue config (places config events) moment ⊎ SomeWaitIsDue config (places config events) moment

-- ---- nothing changes

-- The clients with time left at the greatest moment of a history, with the ends of their leases.
abbrev pub leases_of : SpaceConfig → History → List LeaseRow
leases_of config h = lease_rows config.lease_ms (now h) (lease_calls h)

-- The references that await their acknowledgement then.
abbrev pub waits_of : SpaceConfig → History → List Returned
waits_of config h = awaiting_references config.ack_ms (now h) h

-- The event withdraws nothing and leaves these as they were: the export table, what keeps each object of it, the leases and the waits.
pub record ChangesNothing (config : SpaceConfig) (h : List Event) (e : Event) : Type 0 where
  pub table : table config (places config (with_event h e)) ≡ table config (places config h)
  pub objects : object_rows config (places config (with_event h e)) ≡ object_rows config (places config h)
  pub leases : leases_of config (places config (with_event h e)) ≡ leases_of config (places config h)
  pub waits : waits_of config (places config (with_event h e)) ≡ waits_of config (places config h)
  pub withdrawn : withdrawn_objects config (places config (with_event h e)) ≡ []

-- A Tick at this moment, of whichever connection, changes nothing.
abbrev pub TickChangesNothing : SpaceConfig → List Event → ℕ → Type 0
TickChangesNothing config h moment = (by : ℕ) → ChangesNothing config h (event_of by moment Tick)

-- The objects that these events withdrew and that none of them told as gone.
abbrev pub untold_of : SpaceConfig → List Event → List ObjId
untold_of config events = unreported_objects config (places config events)

-- All withdrawals of these events.
abbrev pub withdrawals_of : SpaceConfig → List Event → List Withdrawal
withdrawals_of config events = withdrawals config (places config events)
