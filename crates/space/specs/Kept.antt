-- What a space keeps beside its history.
use Rattle.std.specs.Prelude.{◌≡◌, ℕ, ◌+◌, ◌≤◌, ◌<◌, List, length, filter, map, drop}
use Rattle.object_ids.specs.Same.{same_client}
use Rattle.history.specs.declared.asks.SpaceConfig.{SpaceConfig}
use Rattle.history.specs.declared.asks.Event.{Event}
use Rattle.history.specs.declared.calls.Call.{Call}
use Rattle.history.specs.declared.limits.TheConstants.{MAX_EXPORTS, MAX_AWAITING, MAX_CLIENTS, MAX_PAIRS, MAX_NAMES, MAX_ERASED_UNITS, MAX_RUNNING_CALLS, END_OF_TIME, MAX_DURATION_MS}
use Rattle.history.specs.declared.places.Exported.{Exported}
use Rattle.history.specs.declared.places.Withdrawal.{Withdrawal}
use Rattle.history.specs.Awaiting.{awaiting_references}
use Rattle.history.specs.LeaseCalls.{lease_calls}
use Rattle.history.specs.Leases.{clients_with_time_left, same_pair, pairs_with}
use Rattle.history.specs.Limits.{units, reserved_units, units_limit}
use Rattle.history.specs.Lists.{distinct}
use Rattle.history.specs.Names.{names}
use Rattle.history.specs.Places.{History, has, now, exported_count}
use Rattle.history.specs.Replies.{ids, unreported_objects}
use Rattle.history.specs.Steps.{IsLegal}
use Rattle.history.specs.Table.{places, table, withdrawals}
use Rattle.dgc_server.specs.StandsForCalls.{LeaseTable, StandsFor}
use Rattle.export_table.specs.Table.{ExportTable}
use Rattle.space.specs.declared.runs.Run.{Run}
use Rattle.space.specs.Runs.{RunsStand, caller_of, object_of}
use Rattle.export_table.specs.StandsForHistory.{WaitsStand, reference_of, end_of, rows_of}

-- A lease call that names those of its objects that are among these.
abbrev pub live_call : List Exported → Call → Call
live_call objects x = record x { objects = filter (has objects) x.objects }

abbrev pub live_calls : List Exported → List Call → List Call
live_calls objects calls = map (live_call objects) calls

-- The durations of a configuration: from 1 to 2^40 milliseconds.
pub record HasDurations (config : SpaceConfig) : Type 0 where
  pub some_lease : 1 ≤ config.lease_ms
  pub short_lease : config.lease_ms ≤ MAX_DURATION_MS
  pub some_ack : 1 ≤ config.ack_ms
  pub short_ack : config.ack_ms ≤ MAX_DURATION_MS

-- The tables of a history have no more entries than their limits.
pub record IsWithin (config : SpaceConfig) (h : History) : Type 0 where
  pub history : units h + reserved_units h ≤ units_limit config.stored
  pub countable : units h + reserved_units h ≤ MAX_ERASED_UNITS
  pub calls : reserved_units h ≤ MAX_RUNNING_CALLS
  pub exports : length (table config h) ≤ MAX_EXPORTS
  pub awaits : length (awaiting_references config.ack_ms (now h) h) ≤ MAX_AWAITING
  pub clients : length (distinct same_client (clients_with_time_left config.lease_ms (now h) (lease_calls h))) ≤ MAX_CLIENTS
  pub pairs : length (distinct same_pair (pairs_with config.lease_ms (now h) (lease_calls h) (ids (table config h)))) ≤ MAX_PAIRS
  pub names : length (names h) ≤ MAX_NAMES

-- What is kept is that of a history: the leases, the exported objects and the references that await, the running calls, the withdrawals and
-- how many of them were told as gone, how many objects there ever were, the units and the greatest moment.
pub record Stands (config : SpaceConfig) (h : History) (leases : LeaseTable) (exports : ExportTable) (runs : List Run) (withdrawn : List Withdrawal) (reported opened used moment : ℕ) : Type 0 where
  pub leases_stand : StandsFor config.lease_ms leases moment (live_calls (table config h) (lease_calls h))
  pub space_is : exports.space ≡ config.uid
  pub ack_is : exports.ack ≡ config.ack_ms
  pub added_is : exports.added ≡ opened
  pub opened_is : opened ≡ exported_count h
  pub rows_are : exports.rows ≡ rows_of h (table config h)
  pub waits_stand : WaitsStand reference_of end_of config.ack_ms moment h exports.waits
  pub runs_stand : RunsStand caller_of object_of h runs
  pub withdrawn_are : withdrawn ≡ withdrawals config h
  pub reported_are : map (λ w. w.object) (drop reported withdrawn) ≡ unreported_objects config h
  pub reported_within : reported ≤ length withdrawn
  pub used_is : used ≡ units h
  pub moment_is : moment ≡ now h
  pub within : IsWithin config h

-- The same of a list of events, with what bounds the numbers. They are a legal history.
pub record Keeps (config : SpaceConfig) (events : List Event) (leases : LeaseTable) (exports : ExportTable) (runs : List Run) (withdrawn : List Withdrawal) (reported opened used moment : ℕ) : Type 0 where
  pub durations : HasDurations config
  pub stands : Stands config (places config events) leases exports runs withdrawn reported opened used moment
  pub early : moment < END_OF_TIME
  pub few_events : length events ≤ used
  pub few_opened : opened ≤ used
  pub legal : IsLegal config events
