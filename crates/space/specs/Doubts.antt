-- The objects from which an event, or the time that passed, may have taken what kept them. After each event every exported object is kept, so that at
-- the next one no other object can go.
use Rattle.std.specs.Prelude.{◌≡◌, ℕ, true, false, max, List, [], ◌∷◌, Option, option_to_list}
use Rattle.std.specs.List.{list_any}
use Rattle.object_ids.specs.declared.ids.ObjId.{ObjId}
use Rattle.object_ids.specs.Same.{same_id}
use Rattle.history.specs.declared.asks.Ask.{Ask}
use Rattle.history.specs.declared.asks.Ask.TheVariants.{Open, Finish, Abandon, Clean, Ack, Bind, Rebind, Unbind}
use Rattle.history.specs.declared.calls.Call.{Call}
use Rattle.history.specs.Leases.{is_held}
use Rattle.dgc_server.specs.StandsForCalls.{LeaseTable, StandsFor, ForEachLog}
use Rattle.export_table.specs.declared.waits.Wait.{Wait}
use Rattle.export_table.specs.Waits.{ended_waits, of_return, objects}

-- The objects from which an ask may take what keeps them, and those that it exports, where these wait, its new object is this one, its name stood for
-- `stood`, and it returns references to the objects `returned`: the object whose call ends, those that a client gives up, those whose references are
-- acknowledged, or the one from which a name is taken.
abbrev pub taken_by : List Wait → ObjId → Option ObjId → List ObjId → Ask → List ObjId
taken_by waits fresh stood returned (Open kind pinned) = fresh ∷ []
taken_by waits fresh stood returned (Finish object made listed uid) = object ∷ returned
taken_by waits fresh stood returned (Abandon object) = object ∷ []
taken_by waits fresh stood returned (Clean client number named strong) = named
taken_by waits fresh stood returned (Ack uid) = objects (of_return uid waits)
taken_by waits fresh stood returned (Bind name object) = option_to_list stood
taken_by waits fresh stood returned (Rebind name object) = option_to_list stood
taken_by waits fresh stood returned (Unbind name) = option_to_list stood
taken_by waits fresh stood returned _ = []

-- These objects are in doubt as time passes to the moment t: those that clients hold whose leases end by then, those whose waits have ended, and
-- those from which the ask may take what keeps them.
pub record AreInDoubt (leases : LeaseTable) (t : ℕ) (waits : List Wait) (takes os : List ObjId) : Type 0 where
  pub freed : ForEachLog leases (λ lease moment calls. (o : ObjId) → is_held lease moment calls o ≡ true → is_held lease (max t moment) calls o ≡ false → list_any (same_id o) os ≡ true)
  pub ended : (o : ObjId) → list_any (same_id o) (objects (ended_waits t waits)) ≡ true → list_any (same_id o) os ≡ true
  pub taken : (o : ObjId) → list_any (same_id o) takes ≡ true → list_any (same_id o) os ≡ true

-- There are calls for which a table of leases stands.
pub record HasLog (leases : LeaseTable) : Type 0 where
  pub lease : ℕ
  pub moment : ℕ
  pub calls : List Call
  pub stands : StandsFor lease leases moment calls
