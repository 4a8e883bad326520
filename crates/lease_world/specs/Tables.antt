-- Calls of clients' tables.
use Rattle.std.specs.Prelude.{◌≡◌, ◌⊎◌, ℕ, ℤ, not, ◌&&◌, if◌then◌else◌, List, Option, Some, None, Result, Ok, Err}
use Rattle.dgc_client.specs.Log.{ClientCall, Registers, Drops, Dues}
use Rattle.dgc_client.specs.StandsForLog.{Parts, ForEachLog, Notes, is_there, is_full_after, is_spent_after, plan_after}
use Rattle.dgc_client.specs.declared.plan.ClientFault.{ClientFault}
use Rattle.dgc_client.specs.declared.plan.ClientFault.TheVariants.{NumbersSpent, FullRefs, OutOfMemory}
use Rattle.dgc_client.specs.declared.plan.Plan.{Plan}
use Rattle.lease_world.specs.declared.member.TableCall.{TableCall}
use Rattle.lease_world.specs.declared.member.TableCall.TheVariants as table_calls

-- A call that is made at a moment.
abbrev pub call_of : TableCall → ℕ → ClientCall
call_of (table_calls.Register o) now = Registers o
call_of (table_calls.Release o) now = Drops o now
call_of table_calls.Due now = Dues now

-- The cause for which a table refuses a call, where memory is never wanting.
abbrev pub call_cause : ℤ → List ClientCall → ClientCall → Option ClientFault
call_cause first log (Registers o) = if not (is_there first log o) && is_full_after first log then Some FullRefs else None
call_cause first log x = if is_spent_after first log x then Some NumbersSpent else None

-- The fault is this cause, or want of memory.
abbrev pub IsClientCause : ClientFault → Option ClientFault → Type 0
IsClientCause fault cause = (fault ≡ OutOfMemory) ⊎ (cause ≡ Some fault)

-- The call was taken, and gave this plan.
pub record IsNoted (old : Parts) (x : ClientCall) (plan : Option Plan) (new : Parts) : Type 0 where
  pub notes : Notes old new x
  pub planned : ForEachLog old (λ vmid first log. plan ≡ plan_after first log x)
  pub allowed : ForEachLog old (λ vmid first log. call_cause first log x ≡ None)

-- The call was refused, and left the table.
pub record IsNotNoted (old : Parts) (x : ClientCall) (fault : ClientFault) (new : Parts) : Type 0 where
  pub same : new ≡ old
  pub cause : ForEachLog old (λ vmid first log. IsClientCause fault (call_cause first log x))

-- A call, and its answer.
abbrev pub IsTableCall : Parts → ClientCall → Result (Option Plan) ClientFault → Parts → Type 0
IsTableCall old x (Ok plan) new = IsNoted old x plan new
IsTableCall old x (Err fault) new = IsNotNoted old x fault new
