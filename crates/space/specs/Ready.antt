-- What a turn may rely on once nothing can refuse it any more.
use Rattle.std.specs.Prelude.{◌≡◌, ◌+◌, ◌≤◌, ◌<◌, ◌++◌, true, Bool, None, length, map, max, drop, option_and_then, vec_len, vec_capacity}
use Rattle.history.specs.declared.asks.Event.{Event}
use Rattle.history.specs.LeaseCalls.{call_with}
use Rattle.history.specs.Names.{name_in, names, stands_for}
use Rattle.history.specs.Places.{id_at}
use Rattle.history.specs.Table.{with_event, places}
use Rattle.history.specs.declared.limits.TheConstants.{END_OF_TIME}
use Rattle.dgc_server.specs.StandsForCalls.{LeaseTable, StandsFor}
use Rattle.export_table.specs.ExportRows.{is_exported}
use Rattle.rmi_registry.specs.StandsForHistory.{AreBindings}
use Rattle.space.specs.declared.prepared.Admitted.{Admitted}
use Rattle.space.specs.declared.prepared.Prepared.{Prepared}
use Rattle.space.specs.declared.tables.Tables.{Tables}
use Rattle.space.specs.Acts.{ForEachLogBy, await_refusal, effective_by, opens, reply_at, returned_by, room_refusal, told_refusal}
use Rattle.space.specs.Doubts.{AreInDoubt, taken_by}
use Rattle.space.specs.Kept.{Keeps}
use Rattle.space.specs.Stored.{IsStoredAs}

-- These are the tables of a space that is about to take an event: they are what is kept of the events before it, but that the leases and the names know
-- of it already. `before` is what the leases were. The ask was admitted, none of the limits refuses it, this was prepared for it, and there is room for
-- all that it adds.
pub record IsReady (t : Tables) (e : Event) (a : Admitted) (p : Prepared) (noted : Bool) : Type 0 where
  pub before : LeaseTable
  pub keeps : Keeps t.config t.events.items before t.exports t.runs.items t.withdrawn.items t.reported t.added t.units t.moment
  pub leases_told : ForEachLogBy (max e.moment t.moment) before (λ lease calls.
      StandsFor lease t.leases (max e.moment t.moment) (call_with (is_exported t.exports.rows) (max e.moment t.moment) e.ask ++ calls))
  pub stored_so : IsStoredAs t.config t.events t.withdrawn t.reported
  pub names_told : AreBindings (places t.config (with_event t.events.items e)) t.names
  -- what was admitted
  pub early : e.moment < END_OF_TIME
  pub stood_is : a.stood ≡ option_and_then (stands_for (places t.config t.events.items)) (name_in e.ask)
  pub effective_is : a.effective ≡ effective_by t.exports.rows t.runs.items a.stood e.by e.ask
  pub unfilled : room_refusal t.config.stored t.units (length t.runs.items) (length t.exports.rows) a.effective e.ask ≡ None
  pub unawaited : await_refusal (max e.moment t.moment) t.exports.rows t.exports.waits a.stood a.effective e.ask ≡ None
  pub unrefused : ForEachLogBy (max e.moment t.moment) before (λ lease calls.
      told_refusal lease (max e.moment t.moment) calls (call_with (is_exported t.exports.rows) (max e.moment t.moment) e.ask)
      (length (names (places t.config t.events.items))) a.stood a.effective e.ask ≡ None)
  -- what was prepared
  pub opened_is : p.opened ≡ opens a.effective e.ask
  pub references_are : p.listed.references.items ≡ returned_by t.config.uid t.added t.exports.rows a.stood a.effective e.ask
  pub doubtful_are : AreInDoubt before (max e.moment t.moment) t.exports.waits
      (taken_by t.exports.waits (id_at t.config.uid t.added) a.stood p.listed.references.items e.ask) p.listed.doubtful.items
  pub gone_are : p.untold.gone.items ≡ map (λ w. w.object) (drop t.reported t.withdrawn.items)
  pub reply_is : p.reply ≡ reply_at t.config t.added t.exports.rows (names (places t.config t.events.items)) a.stood a.effective e.ask
  -- the room
  pub gone_room : vec_len p.untold.gone + length p.listed.doubtful.items ≤ vec_capacity p.untold.gone
  pub copy_room : noted ≡ true → vec_len p.untold.gone + length p.listed.doubtful.items ≤ vec_capacity p.untold.spare
  pub event_room : length t.events.items + length t.runs.items + 2 ≤ t.events.capacity
  pub run_room : 0 < t.runs.room
  pub withdrawal_room : length t.withdrawn.items + (length t.exports.rows + opens a.effective e.ask) ≤ t.withdrawn.room
  pub object_room : opens a.effective e.ask ≤ t.exports.room.exports
  pub wait_room : length p.listed.references.items ≤ t.exports.room.waits
