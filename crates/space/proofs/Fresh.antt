-- What is kept of no events.
use Rattle.std.proofs.Common.{◌≡◌, List, [], length, refl, ap, sym, subst, arith}
use Rattle.history.specs.declared.asks.SpaceConfig.{SpaceConfig}
use Rattle.history.specs.declared.asks.Event.{Event}
use Rattle.history.specs.declared.places.Withdrawal.{Withdrawal}
use Rattle.history.specs.Awaiting.{awaiting_references, references}
use Rattle.history.specs.LeaseCalls.{lease_calls}
use Rattle.history.specs.Leases.{clients, clients_with_time_left, pairs_with}
use Rattle.history.specs.Limits.{reserved_units}
use Rattle.history.specs.Names.{names}
use Rattle.history.specs.Places.{History, now, exported_count}
use Rattle.history.specs.Table.{places}
use Rattle.history.proofs.StepLaws.{IsLegal-none}
use Rattle.history.proofs.GoneLaws.{withdrawals-none, unreported_objects-none}
use Rattle.history.proofs.TableLaws.{places-none, table-none, units-none}
use Rattle.dgc_server.specs.StandsForCalls.{LeaseTable, StandsFor}
use Rattle.export_table.specs.Table.{ExportTable, no_room}
use Rattle.rmi_registry.specs.declared.binding.Binding.{Binding}
use Rattle.rmi_registry.specs.StandsForHistory.{AreBindings}
use Rattle.rmi_registry.proofs.StandLaws.{none-bound}
use Rattle.space.specs.declared.runs.Run.{Run}
use Rattle.space.specs.Kept.{HasDurations, IsWithin, Stands, Keeps}
use Rattle.space.specs.Runs.{caller_of, object_of}
use Rattle.export_table.specs.StandsForHistory.{rows_of}
use Rattle.space.proofs.RunSteps.{runs-none}
use Rattle.export_table.proofs.WaitLaws.{until-none}

abbrev pub nothing_exported : SpaceConfig → ExportTable
nothing_exported config = record { space = config.uid; ack = config.ack_ms; added = 0; rows = []; waits = []; room = no_room }

within-nothing : (config : SpaceConfig) → IsWithin config []
unfolding now reserved_units lease_calls clients_with_time_left clients pairs_with references awaiting_references names
within-nothing config =
    record { history = (let none = units-none in omega arith); countable = (let none = units-none in omega arith); calls = omega arith; exports = (let none = ap length (table-none config) in omega arith); awaits = omega arith; clients = omega arith; pairs = omega arith; names = omega arith }

stands-nothing : (config : SpaceConfig) (leases : LeaseTable) → StandsFor config.lease_ms leases 0 [] → Stands config [] leases (nothing_exported config) [] [] 0 0 0 0
unfolding now exported_count lease_calls
stands-nothing config leases s = record {
  leases_stand = s;
  space_is = refl;
  ack_is = refl;
  added_is = refl;
  opened_is = refl;
  rows_are = sym (ap (rows_of []) (table-none config));
  waits_stand = record { once = tt; each = λ r. rw (until-none config.ack_ms r) refl };
  runs_stand = runs-none caller_of object_of;
  withdrawn_are = sym (withdrawals-none config);
  reported_are = sym (unreported_objects-none config);
  reported_within = omega arith;
  used_is = sym units-none;
  moment_is = refl;
  within = within-nothing config;
}

pub keeps-nothing : (config : SpaceConfig) (leases : LeaseTable) (exports : ExportTable) (events : List Event) (runs : List Run) (withdrawn : List Withdrawal) → HasDurations config → StandsFor config.lease_ms leases 0 [] →
    exports ≡ nothing_exported config → runs ≡ [] → events ≡ [] → withdrawn ≡ [] → Keeps config events leases exports runs withdrawn 0 0 0 0
keeps-nothing config leases exports events runs withdrawn d s x r v w =
    let P : List Event → Type 0 = λ es. Keeps config es leases exports runs withdrawn 0 0 0 0 in
    let X : ExportTable → Type 0 = λ t. Keeps config [] leases t runs withdrawn 0 0 0 0 in
    let R : List Run → Type 0 = λ rs. Keeps config [] leases (nothing_exported config) rs withdrawn 0 0 0 0 in
    let W : List Withdrawal → Type 0 = λ ws. Keeps config [] leases (nothing_exported config) [] ws 0 0 0 0 in
    let S : History → Type 0 = λ g. Stands config g leases (nothing_exported config) [] [] 0 0 0 0 in
    subst P (sym v) (subst X (sym x) (subst R (sym r) (subst W (sym w) (record {
      durations = d;
      stands = subst S (sym (places-none config)) (stands-nothing config leases s);
      early = omega arith;
      few_events = omega arith;
      few_opened = omega arith;
      legal = IsLegal-none config;
    }))))

pub no-bindings : (config : SpaceConfig) (bindings : List Binding) (events : List Event) → bindings ≡ [] → events ≡ [] → AreBindings (places config events) bindings
no-bindings config bindings events b e =
    let P : List Event → Type 0 = λ es. AreBindings (places config es) bindings in
    let H : History → Type 0 = λ h. AreBindings h bindings in
    let B : List Binding → Type 0 = λ bs. AreBindings [] bs in
    subst P (sym e) (subst H (sym (places-none config)) (subst B (sym b) none-bound))
