-- Lease calls of a remote: the log of its client's table says which is sent.
use Rattle.std.specs.Prelude.{◌≡◌, ◌⊎◌, ℕ, ℤ, min, Bool, true, false, List, ◌∷◌, Option, Some, None, Result, Ok, Err}
use Rattle.wire_io.specs.Wire.{Gave}
use Rattle.object_ids.specs.Client.{Client}
use Rattle.dgc_client.specs.declared.limits.TheConstants.{MAX_GRANTED_MS}
use Rattle.dgc_client.specs.declared.plan.ClientFault.{ClientFault}
use Rattle.dgc_client.specs.declared.plan.Plan.{Plan}
use Rattle.dgc_client.specs.Log.{ClientCall, Answers, Fails, number_of}
use Rattle.dgc_client.specs.StandsForLog.{Parts, StandsFor, ForEachLog, plan_after}
use Rattle.rmi_client.specs.declared.end.ClientEnd.{ClientEnd}
use Rattle.rmi_client.specs.declared.end.ClientEnd.TheVariants.{Over}
use Rattle.rmi_client.specs.Leases.{IsPlanCall, grant_in, want_of_plan}
use Rattle.rmi_client.specs.Requests.{HearsSeen}
use Rattle.rmi_client.specs.Sessions.{LinkState, Asks}
use Rattle.rmi_caller.specs.declared.error.CallError.{CallError}
use Rattle.rmi_caller.specs.declared.remote.TheConstants.{ASKED_MS}
use Rattle.rmi_caller.specs.Errors.{IsErrorOf, table_error}

-- The clock gave this moment first.
abbrev pub GaveFirst : Option (List ℕ) → Option (List ℕ) → ℕ → Type 0
GaveFirst before after moment = (more : List ℕ) × Gave before after (moment ∷ more)

-- A plan's lease call was sent on an open session, and its Return read; on one that is over nothing was done.
pub record SendsPlan (client : Client) (plan : Plan) (was_over : Bool) (old new : LinkState) (heard : Result ℕ ClientEnd) : Type 0 where
  pub over : was_over ≡ true → (heard ≡ Err Over) × (new ≡ old)
  pub asks : was_over ≡ false → Asks (IsPlanCall client plan ASKED_MS) (HearsSeen (grant_in plan) (want_of_plan plan)) old new heard

-- What a table's log has then: for how long the lease was granted and when that came, or that the call failed.
abbrev pub NotesHeard : Client → ℤ → List ClientCall → Plan → Result ℕ ClientEnd → Parts → Type 0
NotesHeard client first log plan (Ok granted) table = (later : ℕ) × StandsFor client first table (Answers (number_of plan) (min granted MAX_GRANTED_MS) later ∷ log)
NotesHeard client first log plan (Err end) table = StandsFor client first table (Fails (number_of plan) ∷ log)

-- What an author is told of it.
abbrev pub TellsLease : Result ℕ ClientEnd → Result (Unit {0}) CallError → Type 0
TellsLease (Ok granted) result = result ≡ Ok tt
TellsLease (Err end) result = (error : CallError) × (result ≡ Err error) × IsErrorOf end error

-- A plan's lease call was sent, and the table notes what was heard.
abbrev pub Leases : Client → ℤ → List ClientCall → Plan → Parts → Bool → LinkState → LinkState → Result (Unit {0}) CallError → Type 0
Leases client first log plan table was_over old new result =
    (heard : Result ℕ ClientEnd) × SendsPlan client plan was_over old new heard × NotesHeard client first log plan heard table × TellsLease heard result

-- What is planned was sent, if anything.
abbrev pub LeasesPlan : Client → ℤ → List ClientCall → Option Plan → Parts → Bool → LinkState → LinkState → Result (Unit {0}) CallError → Type 0
LeasesPlan client first log (Some plan) table was_over old new result = Leases client first log plan table was_over old new result
LeasesPlan client first log None table was_over old new result = StandsFor client first table log × (new ≡ old) × (result ≡ Ok tt)

-- A call of the table was made, and what it plans sent; or the table refused, and nothing was done.
abbrev pub LeasesAfter : ClientCall → Parts → Parts → Bool → LinkState → LinkState → Result (Unit {0}) CallError → Type 0
LeasesAfter call before after was_over old new result =
    ForEachLog before (λ client first log. LeasesPlan client first (call ∷ log) (plan_after first log call) after was_over old new result)
    ⊎ ((fault : ClientFault) × (result ≡ Err (table_error fault)) × (after ≡ before) × (new ≡ old))
