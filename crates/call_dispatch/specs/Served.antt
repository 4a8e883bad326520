-- What is done at a call of an object that is exported.
use Rattle.std.specs.Prelude.{◌≡◌, ◌≢◌, ℕ, ◌⊎◌, true, false, List, [], ◌∷◌, ◌++◌, length, slice_get, Option, None, Some, Ok, Err, FitsSigned}
use Rattle.std.specs.Int.{w16, w32, w64}
use Rattle.class_desc.specs.declared.field.TypeCode.{TypeCode}
use Rattle.method_hash.specs.declared.method.Method.{Method}
use Rattle.object_ids.specs.declared.ids.ObjId.{ObjId}
use Rattle.object_ids.specs.declared.ids.Uid.{Uid}
use Rattle.history.specs.declared.asks.Ask.TheVariants.{Begin}
use Rattle.history.specs.declared.replies.Reply.{Reply}
use Rattle.history.specs.declared.replies.Reply.TheVariants.{Started, NoObject, Finished}
use Rattle.history.specs.declared.replies.Turn.{Turn}
use Rattle.history.specs.declared.replies.Refused.{Refused}
use Rattle.history.specs.declared.replies.Refused.TheVariants as refusals
use Rattle.jrmp_frames.specs.declared.arguments.Arguments.{Arguments}
use Rattle.ser_read.specs.Heading.{EndsInBlock}
use Rattle.jrmp_frames.specs.declared.head.CallHead.{CallHead}
use Rattle.jrmp_frames.specs.Messages.{head_bytes, CallBytes}
use Rattle.system_objects.specs.declared.book.Kind.{Kind}
use Rattle.call_dispatch.specs.declared.end.ConnEnd.{ConnEnd}
use Rattle.call_dispatch.specs.declared.end.ConnEnd.TheVariants as ends
use Rattle.call_dispatch.specs.declared.outcome.Invocation.{Invocation}
use Rattle.call_dispatch.specs.declared.outcome.Outcome.{Outcome}
use Rattle.call_dispatch.specs.declared.outcome.Outcome.TheVariants.{OutOfMemory}
use Rattle.call_dispatch.specs.Acts.{Act, called, invokes, acts_of, abandon_act}
use Rattle.system_objects.specs.Book.{methods_of, first_with}
use Rattle.call_dispatch.specs.Results.{made_by, listed_by, finish_with, normal_return}
use Rattle.call_dispatch.specs.Returns.{fits, fault_message}
use Rattle.system_objects.specs.ReturnBytes.{fault_return, no_object, no_method, full}
use Rattle.system_objects.specs.Terms.{Terms}
use Rattle.system_ids.specs.SystemMethods.{minus_one}

-- The bytes, which stand behind a Call's code, end with this head: the stream's magic number and version, and then whole blocks and a front of
-- one, with so many of its bytes left, which hold the head's 34 bytes.
pub record EndsWithHead (head : CallHead) (bytes : List ℕ) (left : ℕ) : Type 0 where
  pub contents : List ℕ
  pub headed : bytes ≡ 0xAC ∷ 0xED ∷ 0x00 ∷ 0x05 ∷ contents
  pub ends : EndsInBlock 34 contents (head_bytes head) left

-- the same, whatever is left of the present block
abbrev pub IsHeadOf : CallHead → List ℕ → Type 0
IsHeadOf head bytes = (left : ℕ) × EndsWithHead head bytes left

-- The head's numbers are in range, so that its bytes tell them.
pub record FitsHead (head : CallHead) : Type 0 where
  pub number : FitsSigned w64 head.id.number
  pub unique : FitsSigned w32 head.id.space.unique
  pub time : FitsSigned w64 head.id.space.time
  pub count : FitsSigned w16 head.id.space.count
  pub operation : FitsSigned w32 head.operation
  pub hash : FitsSigned w64 head.hash

-- a call that is given up: the moment, and the place of the history
pub record GivenUp : Type 0 where
  pub moment : ℕ
  pub place : ℕ

-- a Finish that was answered: the objects that it lists, its moment, its turn, and the bytes of the normal Return
pub record FinishedCall : Type 0 where
  pub listed : List ObjId
  pub moment : ℕ
  pub turn : Turn
  pub bytes : List ℕ

-- a Finish that was refused: the objects that it lists, its moment, and why it was refused; then the moment and the place of the history at which
-- the call is given up
pub record DeniedCall : Type 0 where
  pub listed : List ObjId
  pub moment : ℕ
  pub refused : Refused
  pub end_moment : ℕ
  pub place : ℕ

-- How a running call goes on once its worker answered: Finish is answered; or it is refused, and the call is given up; or the outcome is a fault or
-- doesn't fit, and the call is given up.
pub data Conclusion : Type 0 where
  finished : FinishedCall → Conclusion
  denied : DeniedCall → Conclusion
  faulted : GivenUp → Conclusion

abbrev pub conclusion_acts : ObjId → Uid → Outcome → Conclusion → List Act
conclusion_acts object uid outcome (finished finish) = acts_of finish.moment (finish_with object outcome finish.listed uid) (Ok finish.turn)
conclusion_acts object uid outcome (denied denial) = acts_of denial.moment (finish_with object outcome denial.listed uid) (Err denial.refused) ++ abandon_act denial.end_moment object denial.place ∷ []
conclusion_acts object uid outcome (faulted given_up) = abandon_act given_up.moment object given_up.place ∷ []

abbrev pub conclusion_written : Uid → Outcome → Conclusion → List ℕ
conclusion_written uid outcome (finished finish) = finish.bytes
conclusion_written uid outcome (denied denial) = fault_return uid (full denial.refused)
conclusion_written uid outcome (faulted given_up) = fault_return uid (fault_message uid outcome)

-- The reply is that the call was finished, with an identifier for each object that its Return makes.
abbrev pub IsFinished : List ℕ → Reply → Type 0
IsFinished made (Finished objects) = length objects ≡ length made
IsFinished made _ = ⊥

-- Finish, which lists what the outcome's Return refers to, is answered, and the bytes are those of the Return; or it is refused for a limit.
abbrev pub IsGranted : Terms → Uid → Outcome → Conclusion → Type 0
IsGranted terms uid outcome (finished finish) = (finish.listed ≡ listed_by terms outcome) × IsFinished (made_by outcome) finish.turn.reply × (finish.bytes ≡ normal_return terms uid outcome finish.turn.reply)
IsGranted terms uid outcome (denied denial) = (denial.listed ≡ listed_by terms outcome) × (denial.refused ≢ refusals.OutOfMemory)
IsGranted terms uid outcome (faulted given_up) = ⊥

-- It may come so of an outcome of a method with this result.
abbrev pub IsConclusion : Terms → Uid → Option TypeCode → Outcome → Conclusion → Type 0
IsConclusion terms uid result outcome (finished finish) = (fits terms uid result outcome ≡ true) × IsGranted terms uid outcome (finished finish)
IsConclusion terms uid result outcome (denied denial) = (fits terms uid result outcome ≡ true) × IsGranted terms uid outcome (denied denial)
IsConclusion terms uid result outcome (faulted given_up) = (fits terms uid result outcome ≡ false) × (outcome ≢ OutOfMemory)

-- ---- a Call

-- a call of the worker: the method's place in its kind, the arguments, and the outcome
pub record InvokedCall : Type 0 where
  pub place : ℕ
  pub arguments : Arguments
  pub outcome : Outcome

-- How a running call goes on: its kind has no such method, and it is given up; or the worker is invoked, and the call is concluded.
pub data Running : Type 0 where
  unknown : GivenUp → Running
  ran : InvokedCall → Conclusion → Running

abbrev pub invocation_of : ObjId → ℕ → ℕ → Arguments → Invocation
invocation_of object kind method arguments = record { object = object; kind = kind; method = method; arguments = arguments }

abbrev pub running_acts : CallHead → Uid → ℕ → Running → List Act
running_acts head uid kind (unknown given_up) = abandon_act given_up.moment head.id given_up.place ∷ []
running_acts head uid kind (ran invoked conclusion) =
    called (invokes (invocation_of head.id kind invoked.place invoked.arguments) invoked.outcome) ∷ conclusion_acts head.id uid invoked.outcome conclusion

abbrev pub running_written : Uid → Running → List ℕ
running_written uid (unknown given_up) = fault_return uid no_method
running_written uid (ran invoked conclusion) = conclusion_written uid invoked.outcome conclusion

abbrev pub running_closes : CallHead → Running → Option ConnEnd
running_closes head (unknown given_up) = Some (ends.NoSuchMethod head.operation head.hash)
running_closes head (ran invoked conclusion) = None

-- The kind's method at this place is the first with the head's hash.
abbrev pub IsMethodOf : List Kind → ℕ → CallHead → ℕ → Type 0
IsMethodOf kinds kind head place = (head.operation ≡ minus_one) × (first_with head.hash (methods_of kinds kind) ≡ Some place)

-- The kind has no method for the head.
abbrev pub HasNoMethod : List Kind → ℕ → CallHead → Type 0
HasNoMethod kinds kind head = (head.operation ≢ minus_one) ⊎ (first_with head.hash (methods_of kinds kind) ≡ None)

-- It may come so where these bytes were taken of the Call behind its code.
abbrev pub IsRunning : Terms → CallHead → ℕ → List ℕ → Uid → Running → Type 0
IsRunning terms head kind bytes uid (unknown given_up) = IsHeadOf head bytes × HasNoMethod terms.kinds kind head
IsRunning terms head kind bytes uid (ran invoked conclusion) = IsMethodOf terms.kinds kind head invoked.place
    × ((method : Method) × (slice_get (methods_of terms.kinds kind) invoked.place ≡ Some method) × CallBytes head method.params invoked.arguments (0x50 ∷ bytes)
    × IsConclusion terms uid method.result invoked.outcome conclusion)

-- a Begin that found no object: its moment and its turn
pub record MissedCall : Type 0 where
  pub moment : ℕ
  pub turn : Turn

-- a Begin that started a call: its moment, its turn, and the kind of the object
pub record BegunCall : Type 0 where
  pub moment : ℕ
  pub turn : Turn
  pub kind : ℕ

-- What is done at a Call's head: Begin is answered that there is no such object; or it is refused; or the call of an object of this kind runs.
pub data AtHead : Type 0 where
  absent : MissedCall → AtHead
  refused : (moment : ℕ) → AtHead
  begun : BegunCall → Running → AtHead

abbrev pub served_acts : CallHead → Uid → AtHead → List Act
served_acts head uid (absent missed) = acts_of missed.moment (Begin head.id) (Ok missed.turn)
served_acts head uid (refused moment) = acts_of moment (Begin head.id) (Err refusals.HistoryFull)
served_acts head uid (begun begin running) = acts_of begin.moment (Begin head.id) (Ok begin.turn) ++ running_acts head uid begin.kind running

abbrev pub served_written : Uid → AtHead → List ℕ
served_written uid (absent missed) = fault_return uid no_object
served_written uid (refused moment) = fault_return uid (full refusals.HistoryFull)
served_written uid (begun begin running) = running_written uid running

abbrev pub served_closes : CallHead → AtHead → Option ConnEnd
served_closes head (absent missed) = Some (ends.NoSuchObject head.id)
served_closes head (refused moment) = Some ends.SpaceFull
served_closes head (begun begin running) = running_closes head running

-- It may come so at the Call of which these bytes were taken behind its code. What is taken of a Call that closes the connection ends with its head.
abbrev pub IsServed : Terms → CallHead → List ℕ → Uid → AtHead → Type 0
IsServed terms head bytes uid (absent missed) = IsHeadOf head bytes × (missed.turn.reply ≡ NoObject)
IsServed terms head bytes uid (refused moment) = IsHeadOf head bytes
IsServed terms head bytes uid (begun begin running) = (begin.turn.reply ≡ Started begin.kind) × IsRunning terms head begin.kind bytes uid running
