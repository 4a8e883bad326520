-- The end of a turn, by what its parts answered.
use Rattle.std.proofs.Common.{◌≡◌, ℕ, ◌≤◌, List, ◌++◌, length, ap, sym, subst, map, max, arith}
use Rattle.std.specs.Prelude.{Bool, filter}
use Rattle.object_ids.specs.declared.ids.ObjId.{ObjId}
use Rattle.history.specs.declared.asks.SpaceConfig.{SpaceConfig}
use Rattle.history.specs.declared.asks.Event.{Event}
use Rattle.history.specs.declared.places.Withdrawal.{Withdrawal}
use Rattle.history.specs.Places.{now}
use Rattle.history.specs.Table.{places}
use Rattle.dgc_server.specs.Counts.{without_all}
use Rattle.dgc_server.specs.StandsForCalls.{LeaseTable, StandsFor, ForEachLog}
use Rattle.export_table.specs.ExportRows.{is_row_kept as row_kept, held_by, withdrawn_ids as rows_withdrawn}
use Rattle.export_table.specs.Table.{ExportTable}
use Rattle.export_table.specs.Waits.{still_waiting}
use Rattle.space.specs.declared.runs.Run.{Run}
use Rattle.rmi_registry.specs.declared.binding.Binding.{Binding}
use Rattle.rmi_registry.specs.StandsForHistory.{AreBindings}
use Rattle.space.specs.Ahead.{HasRoom}
use Rattle.space.specs.Doubts.{HasLog}
use Rattle.space.specs.Kept.{Keeps}
use Rattle.space.specs.Withdrawing.{HasWithdrawn}
use Rattle.space.proofs.Keeping.{told_calls}
use Rattle.space.proofs.TurnLaws.{HasActed, is-acted}

-- Once an ask has acted there are calls for which the leases stand.
pub has-log : (config : SpaceConfig) (events : List Event) (e : Event) (leases leases1 : LeaseTable) (exports t : ExportTable) (runs : List Run) (withdrawn : List Withdrawal) (reported opened used moment : ℕ) (effective : Bool) →
    HasActed config events e leases leases1 exports t runs withdrawn reported opened used moment effective → HasLog leases1
has-log config events e leases leases1 exports t runs withdrawn reported opened used moment effective a = record {
  lease = config.lease_ms;
  moment = max e.moment (now (places config events));
  calls = told_calls config events e;
  stands = (is-acted config events e leases leases1 exports t runs withdrawn reported opened used moment effective a).leases_stand;
}

-- What was withdrawn of a table was withdrawn of one that has other room.
pub has-withdrawn : {leases1 leases2 : LeaseTable} {t y z : ExportTable} {time : ℕ} {before after : List ObjId} → y ≡ record t { room = y.room } → HasWithdrawn leases1 leases2 y z time before after → HasWithdrawn leases1 leases2 t z time before after
has-withdrawn {leases1} {leases2} {t} {y} {z} {time} {before} {after} e w =
    let K : ExportTable → Type 0 = λ x. ForEachLog leases1 (λ lease moment calls. z ≡ record x { rows = filter (row_kept time (held_by lease (max time moment) calls) x.waits) x.rows; waits = still_waiting time x.waits; room = z.room }) in
    let G : ExportTable → Type 0 = λ x. ForEachLog leases1 (λ lease moment calls. after ≡ before ++ rows_withdrawn time (held_by lease (max time moment) calls) x.waits x.rows) in
    let D : ExportTable → Type 0 = λ x. ForEachLog leases1 (λ lease moment calls. StandsFor lease leases2 moment (map (without_all (rows_withdrawn time (held_by lease (max time moment) calls) x.waits x.rows)) calls)) in
    record { kept = subst K e w.kept; gone = subst G e w.gone; dropped = subst D e w.dropped }

-- What is kept of events, once they are there and there is as much room.
pub appended : (config : SpaceConfig) (events events' : List Event) (leases : LeaseTable) (exports : ExportTable) (runs : List Run) (withdrawn : List Withdrawal) (reported opened used moment room room' withdrawn_room : ℕ) (bindings : List Binding) →
    Keeps config events leases exports runs withdrawn reported opened used moment × HasRoom events room runs withdrawn withdrawn_room exports × AreBindings (places config events) bindings → events' ≡ events → room ≤ room' →
    Keeps config events' leases exports runs withdrawn reported opened used moment × HasRoom events' room' runs withdrawn withdrawn_room exports × AreBindings (places config events') bindings
appended config events events' leases exports runs withdrawn reported opened used moment room room' withdrawn_room bindings (k, r, b) e le =
    let P : List Event → Type 0 = λ es. Keeps config es leases exports runs withdrawn reported opened used moment in
    let N : List Event → Type 0 = λ es. AreBindings (places config es) bindings in
    let ends = r.ends in let same = ap length e in
    (subst P (sym e) k, record { ends = omega (arith, ends, same, le); withdrawals = r.withdrawals }, subst N (sym e) b)
