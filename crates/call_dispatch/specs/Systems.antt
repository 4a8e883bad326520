-- Calls of the two objects that every server has of itself: the registry and the collector (Java RMI Specification, 6.1 and 9.1).
use Rattle.std.specs.Prelude.{◌≡◌, ◌≢◌, ℕ, ◌+◌, List, [], ◌∷◌, Option, None, Some, Result, Ok, Err}
use Rattle.object_ids.specs.declared.ids.Uid.{Uid}
use Rattle.object_ids.specs.Draw.{uid_drawn}
use Rattle.history.specs.declared.asks.Ask.{Ask}
use Rattle.history.specs.declared.replies.Turn.{Turn}
use Rattle.history.specs.declared.replies.Refused.{Refused}
use Rattle.history.specs.declared.replies.Refused.TheVariants.{OutOfMemory}
use Rattle.space.specs.declared.asked.Asked.{Asked}
use Rattle.space.specs.TurnAnswers.{IsAnswerTo}
use Rattle.ports.specs.Ports.{Shows}
use Rattle.jrmp_frames.specs.declared.arguments.Arguments.{Arguments}
use Rattle.jrmp_frames.specs.declared.head.CallHead.{CallHead}
use Rattle.jrmp_frames.specs.Messages.{CallBytes}
use Rattle.system_objects.specs.declared.request.Rejection.{Rejection}
use Rattle.call_dispatch.specs.declared.end.ConnEnd.{ConnEnd}
use Rattle.call_dispatch.specs.declared.end.ConnEnd.TheVariants as ends
use Rattle.system_ids.specs.declared.methods.SystemMethod.{SystemMethod}
use Rattle.call_dispatch.specs.Acts.{Act, acts_of}
use Rattle.system_objects.specs.SystemRequests.{rejection_message, request_of, client_draws}
use Rattle.system_objects.specs.ReturnBytes.{fault_return, no_method}
use Rattle.call_dispatch.specs.Served.{IsHeadOf}
use Rattle.system_objects.specs.SystemReturns.{answer_written}
use Rattle.system_objects.specs.Terms.{Terms}
use Rattle.system_objects.specs.MethodByHead.{system_method}
use Rattle.system_ids.specs.SystemMethods.{params_of}

-- ---- what is done at a call of theirs

-- a call that is rejected: its method, its arguments, and why
pub record RejectedCall : Type 0 where
  pub method : SystemMethod
  pub arguments : Arguments
  pub rejection : Rejection

-- a call that takes a turn: its method and arguments; what its turn asks, its moment and its answer; and the bytes of the Return
pub record TurnedCall : Type 0 where
  pub method : SystemMethod
  pub arguments : Arguments
  pub ask : Ask
  pub moment : ℕ
  pub answer : Result Turn Refused
  pub written : List ℕ

-- There is no such method; or the call is rejected, and no turn is taken; or it takes one turn, whose answer is returned.
pub data System : Type 0 where
  unknown : System
  rejected : RejectedCall → System
  turned : TurnedCall → System

abbrev pub system_acts : System → List Act
system_acts unknown = []
system_acts (rejected bar) = []
system_acts (turned taken) = acts_of taken.moment taken.ask taken.answer

-- how many identifiers are drawn: one for the Return, and one before it for the client of a dirty whose lease names none
abbrev pub system_draws : System → ℕ
system_draws unknown = 1
system_draws (rejected bar) = client_draws bar.method bar.arguments + 1
system_draws (turned taken) = client_draws taken.method taken.arguments + 1

abbrev pub system_written : Uid → System → List ℕ
system_written uid unknown = fault_return uid no_method
system_written uid (rejected bar) = fault_return uid (rejection_message bar.rejection)
system_written uid (turned taken) = taken.written

abbrev pub system_closes : CallHead → System → Option ConnEnd
system_closes head unknown = Some (ends.NoSuchMethod head.operation head.hash)
system_closes head _ = None

-- the identifier that is drawn after so many
abbrev pub drawn_at : Terms → ℕ → Uid
drawn_at terms drawn = uid_drawn terms.unique terms.time drawn

-- A turn that asks this may be answered so: it isn't refused for want of memory, and the answer is one of the ask's.
abbrev pub IsTurned : Ask → Result Turn Refused → Type 0
IsTurned ask answer = (answer ≢ Err OutOfMemory) × ((shown : List Asked) × IsAnswerTo (Shows shown) ask answer)

-- It may come so at the Call of which these bytes were taken behind its code, where so many identifiers were drawn, and this one is the Return's. What is
-- taken of a Call that closes the connection ends with its head. The identifier of a client that has none of its own is the one that is drawn next.
abbrev pub IsSystem : Terms → ℕ → CallHead → List ℕ → Uid → System → Type 0
IsSystem terms drawn head bytes uid unknown = IsHeadOf head bytes × (system_method head ≡ None) × (uid ≡ drawn_at terms drawn)
IsSystem terms drawn head bytes uid (rejected bar) = (system_method head ≡ Some bar.method) × CallBytes head (params_of bar.method) bar.arguments (0x50 ∷ bytes)
    × (uid ≡ drawn_at terms (drawn + client_draws bar.method bar.arguments)) × (request_of terms bar.method bar.arguments (drawn_at terms drawn) uid ≡ Err bar.rejection)
IsSystem terms drawn head bytes uid (turned taken) = (system_method head ≡ Some taken.method) × CallBytes head (params_of taken.method) taken.arguments (0x50 ∷ bytes)
    × (uid ≡ drawn_at terms (drawn + client_draws taken.method taken.arguments)) × (request_of terms taken.method taken.arguments (drawn_at terms drawn) uid ≡ Ok taken.ask)
    × IsTurned taken.ask taken.answer × (taken.written ≡ answer_written terms uid taken.ask taken.answer)
