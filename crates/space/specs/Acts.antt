-- What an event does to what a space keeps.
use Rattle.std.specs.Prelude.{◌≡◌, ◌≤◌, ℕ, ◌+◌, Bool, true, false, not, List, [], ◌∷◌, ◌++◌, length, map, filter, ◌&&◌, nat_lt, nat_le, Option, Some, None, is_some, is_none, option_to_list, unwrap_or, Result, Ok, Err, ◌⊎◌, if◌then◌else◌}
use Rattle.std.specs.List.{list_any}
use Rattle.object_ids.specs.declared.ids.Uid.{Uid}
use Rattle.object_ids.specs.declared.ids.ObjId.{ObjId}
use Rattle.object_ids.specs.declared.ids.FullKind.TheVariants.{Exports, Awaiting, Clients, Pairs, Names as FullNames}
use Rattle.object_ids.specs.Same.{same_id}
use Rattle.history.specs.declared.asks.SpaceConfig.{SpaceConfig}
use Rattle.history.specs.declared.asks.Event.{Event}
use Rattle.history.specs.declared.asks.Ask.{Ask}
use Rattle.history.specs.declared.asks.Ask.TheVariants.{Open, Begin, Finish, Abandon, Dirty, Ack, Bind, Rebind, Unbind, Lookup, List as ListNames}
use Rattle.history.specs.declared.calls.Call.{Call}
use Rattle.history.specs.declared.limits.TheConstants.{MAX_EXPORTS, MAX_AWAITING, MAX_CLIENTS, MAX_PAIRS, MAX_NAMES, MAX_RUNNING_CALLS}
use Rattle.history.specs.declared.places.Withdrawal.{Withdrawal}
use Rattle.history.specs.Awaiting.{same_returned}
use Rattle.history.specs.declared.replies.Refused.{Refused}
use Rattle.history.specs.declared.replies.Refused.TheVariants.{HistoryFull, Full, OutOfMemory}
use Rattle.history.specs.declared.replies.Reply.{Reply}
use Rattle.history.specs.declared.replies.Reply.TheVariants.{Opened, Started, NoObject, Finished, NotRunning, Granted, Done, Bound, AlreadyBound, Unbound, NotBound, Found, Names}
use Rattle.history.specs.Leases.{is_dirty, grant}
use Rattle.history.specs.Limits.{units_of, is_begin, is_end, units_limit}
use Rattle.history.specs.Lists.{distinct}
use Rattle.history.specs.Places.{id_at}
use Rattle.history.specs.Replies.{is_abandon}
use Rattle.dgc_server.specs.Counts.{clients_with_call, pairs_with_call}
use Rattle.dgc_server.specs.StandsForCalls.{LeaseTable, ForEachLog}
use Rattle.export_table.specs.declared.rows.Export.{Export}
use Rattle.export_table.specs.ExportRows.{is_exported, kind_of, new_row, with_row_changed, with_call_begun, with_call_ended, pinned_once, with_pin_removed}
use Rattle.export_table.specs.Table.{ExportTable}
use Rattle.export_table.specs.Waits.{still_waiting, is_waiting, with_each_listed, without_acknowledged}
use Rattle.export_table.specs.declared.waits.Wait.{Wait}
use Rattle.space.specs.declared.runs.Run.{Run}
use Rattle.space.specs.Runs.{is_run, without_first}
use Rattle.export_table.specs.StandsForHistory.{reference_of, references, added_rows}
use Rattle.rmi_registry.specs.declared.binding.Binding.{Binding}
use Rattle.rmi_registry.specs.Bindings.{with_binding, without_name}

abbrev pub event_of : ℕ → ℕ → Ask → Event
event_of by moment ask = record { by = by; moment = moment; ask = ask }

-- ---- what it does

-- Whether an ask of a connection is effective, where its name stands for `stood`.
abbrev pub effective_by : List Export → List Run → Option ObjId → ℕ → Ask → Bool
effective_by rows runs stood by (Begin object) = is_exported rows object
effective_by rows runs stood by (Finish object made listed uid) = list_any (is_run by object) runs
effective_by rows runs stood by (Abandon object) = list_any (is_run by object) runs
effective_by rows runs stood by (Bind name object) = is_exported rows object && is_none stood
effective_by rows runs stood by (Rebind name object) = is_exported rows object
effective_by rows runs stood by (Unbind name) = is_some stood
effective_by rows runs stood by (Lookup name uid) = is_some stood
effective_by rows runs stood by _ = true

-- How many objects it exports.
abbrev pub opens : Bool → Ask → ℕ
opens effective (Open kind pinned) = 1
opens effective (Finish object made listed uid) = if effective then length made else 0
opens effective _ = 0

-- Objects of these kinds as they are added, and their identifiers, the first of them as the space's k-th.
abbrev pub new_rows : Uid → ℕ → List ℕ → List Export
new_rows space k kinds = added_rows space k false kinds

abbrev pub new_ids : Uid → ℕ → List ℕ → List ObjId
new_ids space k [] = []
new_ids space k (kind ∷ kinds) = id_at space k ∷ new_ids space (k + 1) kinds

-- The objects to which an ask returns references, where the next object is the space's k-th: the new ones, and those of `listed` that are
-- exported; or the one for which its name stands.
abbrev pub returned_by : Uid → ℕ → List Export → Option ObjId → Bool → Ask → List ObjId
returned_by space k rows stood effective (Finish object made listed uid) = if effective then new_ids space k made ++ filter (is_exported rows) listed else []
returned_by space k rows stood effective (Lookup name uid) = option_to_list stood
returned_by space k rows stood effective _ = []

-- How many references await at the moment t, with those to objects in a return.
abbrev pub awaiting_with : ℕ → Uid → List ObjId → List Wait → ℕ
awaiting_with t uid os waits = length (distinct same_returned (map reference_of (still_waiting t waits) ++ references uid os))

-- The table after a call of an object returns at the moment t: it has ended, objects of the kinds `made` are added, and references to the
-- objects `os` await.
abbrev pub returned_from : ℕ → ObjId → List ℕ → List ObjId → Uid → ExportTable → ExportTable
returned_from t object made os uid x = record x {
  added = x.added + length made;
  rows = with_row_changed with_call_ended object x.rows ++ new_rows x.space x.added made;
  waits = with_each_listed x.ack t uid os x.waits;
}

-- The export table after an ask at the moment t, whose name stood for `stood`, before anything is withdrawn.
abbrev pub acted_exports : Option ObjId → Bool → ℕ → Ask → ExportTable → ExportTable
acted_exports stood effective t (Open kind pinned) x = record x { added = x.added + 1; rows = x.rows ++ new_row (id_at x.space x.added) kind pinned ∷ [] }
acted_exports stood effective t (Begin object) x = if effective then record x { rows = with_row_changed with_call_begun object x.rows } else x
acted_exports stood effective t (Finish object made listed uid) x =
    if effective then returned_from t object made (new_ids x.space x.added made ++ filter (is_exported x.rows) listed) uid x else x
acted_exports stood effective t (Abandon object) x = if effective then record x { rows = with_row_changed with_call_ended object x.rows } else x
acted_exports stood effective t (Ack uid) x = record x { waits = without_acknowledged uid x.waits }
acted_exports stood effective t (Bind name object) x = if effective then record x { rows = with_pin_removed stood (with_row_changed pinned_once object x.rows) } else x
acted_exports stood effective t (Rebind name object) x = if effective then record x { rows = with_pin_removed stood (with_row_changed pinned_once object x.rows) } else x
acted_exports stood effective t (Unbind name) x = if effective then record x { rows = with_pin_removed stood x.rows } else x
acted_exports stood effective t (Lookup name uid) x = record x { waits = with_each_listed x.ack t uid (option_to_list stood) x.waits }
acted_exports stood effective t _ x = x

-- The bindings after an ask.
abbrev pub acted_names : Bool → Ask → List Binding → List Binding
acted_names effective (Bind name object) bindings = if effective then with_binding bindings name object else bindings
acted_names effective (Rebind name object) bindings = if effective then with_binding bindings name object else bindings
acted_names effective (Unbind name) bindings = if effective then without_name bindings name else bindings
acted_names effective _ bindings = bindings

-- The running calls after an ask of a connection.
abbrev pub acted_runs : Bool → ℕ → Ask → List Run → List Run
acted_runs effective by (Begin object) runs = if effective then runs ++ record { by = by; object = object } ∷ [] else runs
acted_runs effective by (Finish object made listed uid) runs = if effective then without_first (is_run by object) runs else runs
acted_runs effective by (Abandon object) runs = if effective then without_first (is_run by object) runs else runs
acted_runs effective by _ runs = runs

-- The reply to a Begin of an object of this kind, if it is exported.
abbrev pub started_reply : Option ℕ → Reply
started_reply None = NoObject
started_reply (Some kind) = Started kind

-- The reply to a Bind that is not effective, whose object is exported or is not.
abbrev pub unbound_reply : Bool → Reply
unbound_reply exported = if exported then AlreadyBound else NoObject

-- The reply to a Lookup of a name that stands for this.
abbrev pub found_reply : List Export → Option ObjId → Reply
found_reply rows None = NotBound
found_reply rows (Some object) = Found object (unwrap_or (kind_of rows object) 0)

-- The reply to an ask, where the next object is the space's k-th, these are the names, and the ask's name stands for `stood`.
abbrev pub reply_at : SpaceConfig → ℕ → List Export → List (List ℕ) → Option ObjId → Bool → Ask → Reply
reply_at config k rows names stood effective (Open kind pinned) = Opened (id_at config.uid k)
reply_at config k rows names stood effective (Begin object) = started_reply (kind_of rows object)
reply_at config k rows names stood effective (Finish object made listed uid) = if effective then Finished (new_ids config.uid k made) else NotRunning
reply_at config k rows names stood effective (Abandon object) = if effective then Done else NotRunning
reply_at config k rows names stood effective (Dirty client number asked objects) = Granted (grant config.lease_ms asked)
reply_at config k rows names stood effective (Bind name object) = if effective then Bound else unbound_reply (is_exported rows object)
reply_at config k rows names stood effective (Rebind name object) = if effective then Bound else NoObject
reply_at config k rows names stood effective (Unbind name) = if effective then Unbound else NotBound
reply_at config k rows names stood effective (Lookup name uid) = found_reply rows stood
reply_at config k rows names stood effective ListNames = Names names
reply_at config k rows names stood effective _ = Done

-- The object is withdrawn at a place.
abbrev pub withdrawal_at : ℕ → ObjId → Withdrawal
withdrawal_at place o = record { object = o; place = place }

-- How many of all withdrawals were told as gone, once an ask is answered: all, but after an Abandon only those told before it.
abbrev pub reported_after : ℕ → ℕ → Ask → ℕ
reported_after reported all ask = if is_abandon ask then reported else all

-- ---- refusals

-- Whether there is no room for an ask: in the history, which is stored or exists in proofs alone, and has so many units and so many running
-- calls, or among so many exported objects.
abbrev pub room_refusal : Bool → ℕ → ℕ → ℕ → Bool → Ask → Option Refused
room_refusal stored used running exported effective ask =
    if nat_lt (units_limit stored + (if effective && is_end ask then 1 else 0)) (used + running + units_of ask + (if effective && is_begin ask then 1 else 0)) then Some HistoryFull
    else if (effective && is_begin ask) && nat_le MAX_RUNNING_CALLS running then Some HistoryFull
    else if nat_lt MAX_EXPORTS (exported + opens effective ask) then Some (Full Exports)
    else None

-- How many references await at the moment t once so many new objects, and these exported ones, are listed in a return.
abbrev pub awaiting_after : ℕ → Uid → ℕ → List ObjId → List Wait → ℕ
awaiting_after t uid made live waits = length (still_waiting t waits) + made + length (filter (λ o. not (is_waiting t o uid waits)) (distinct same_id live))

abbrev pub return_refusal : ℕ → Uid → ℕ → List ObjId → List Wait → Option Refused
return_refusal t uid made live waits = if nat_lt MAX_AWAITING (awaiting_after t uid made live waits) then Some (Full Awaiting) else None

-- Whether there is no room for the references that an ask returns at the moment t.
abbrev pub await_refusal : ℕ → List Export → List Wait → Option ObjId → Bool → Ask → Option Refused
await_refusal t rows waits stood effective (Finish object made listed uid) =
    if effective then return_refusal t uid (length made) (filter (is_exported rows) listed) waits else None
await_refusal t rows waits stood effective (Lookup name uid) = return_refusal t uid 0 (option_to_list stood) waits
await_refusal t rows waits stood effective _ = None

-- Whether there is no room for a name that stands for nothing, beside so many names.
abbrev pub binding_refusal : ℕ → Option ObjId → Bool → Option Refused
binding_refusal count stood effective = if effective && is_none stood && nat_le MAX_NAMES count then Some (Full FullNames) else None

-- The same of the name that an ask binds, if it binds one.
abbrev pub name_refusal : ℕ → Option ObjId → Bool → Ask → Option Refused
name_refusal count stood effective (Bind name object) = binding_refusal count stood effective
name_refusal count stood effective (Rebind name object) = binding_refusal count stood effective
name_refusal count stood effective _ = None

-- This holds for each duration and calls that a lease table stands for, where no moment so far is later than this one.
abbrev pub ForEachLogBy : ℕ → LeaseTable → (ℕ → List Call → Type 0) → Type 0
ForEachLogBy now table P = ForEachLog table (λ lease moment calls. moment ≤ now → P lease calls)

-- Whether a lease call is refused after others.
abbrev pub call_refusal : ℕ → ℕ → List Call → Call → Option Refused
call_refusal lease now before x =
    if is_dirty x && nat_lt MAX_CLIENTS (clients_with_call lease now before x.client) then Some (Full Clients)
    else if nat_lt MAX_PAIRS (pairs_with_call lease before x) then Some (Full Pairs)
    else None

-- The same of the lease call of an ask, if there is one.
abbrev pub lease_refusal : ℕ → ℕ → List Call → List Call → Option Refused
lease_refusal lease now before [] = None
lease_refusal lease now before (x ∷ more) = call_refusal lease now before x

-- The first of two refusals.
abbrev pub first_of_two : Option Refused → Option Refused → Option Refused
first_of_two None other = other
first_of_two (Some refused) other = Some refused

-- Whether the lease call of an ask is refused after others, or else the name that it binds.
abbrev pub told_refusal : ℕ → ℕ → List Call → List Call → ℕ → Option ObjId → Bool → Ask → Option Refused
told_refusal lease now before call count stood effective ask = first_of_two (lease_refusal lease now before call) (name_refusal count stood effective ask)

-- The answer agrees with a refusal: it is refused for that cause, and want of memory may come in its place.
abbrev pub Agrees : {T : Type 0} → Option Refused → Result T Refused → Type 0
Agrees refusal (Ok value) = refusal ≡ None
Agrees refusal (Err refused) = (refusal ≡ Some refused) ⊎ (refused ≡ OutOfMemory)
