-- Which outcomes fit a method, and which are those of a service's answer.
use Rattle.std.specs.Prelude.{◌≡◌, ◌⊎◌, Bool, true, false, ◌||◌, codes, List, slice_get, Option, Some, None, Result}
use Rattle.class_desc.specs.declared.field.TypeCode.{TypeCode}
use Rattle.method_hash.specs.declared.method.Method.{Method}
use Rattle.system_objects.specs.Book.{methods_of}
use Rattle.system_objects.specs.declared.book.Kind.{Kind}
use Rattle.call_dispatch.specs.Returns.{suits}
use Rattle.call_dispatch.specs.declared.outcome.Invocation.{Invocation}
use Rattle.call_dispatch.specs.declared.outcome.Outcome.{Outcome}
use Rattle.call_dispatch.specs.declared.outcome.Outcome.TheVariants.{Fault, OutOfMemory}
use Rattle.rmi_server.specs.declared.fault.CallFault.{CallFault}
use Rattle.rmi_server.specs.declared.fault.CallFault.TheVariants.{UnknownMethod}
use Rattle.rmi_server.specs.declared.reply.Reply.{Reply}
use Rattle.rmi_server.specs.Faults.{FaultGives}
use Rattle.rmi_server.specs.Replies.{AnswerGives}

-- the fault of a result that is none of its method
abbrev pub wrong_result : Outcome
wrong_result = Fault (codes "java.rmi.MarshalException: the result does not fit its method")

-- The outcome ends a call of any method: an exception, or no memory.
abbrev pub ends_call : Outcome → Bool
ends_call (Fault text) = true
ends_call OutOfMemory = true
ends_call _ = false

-- The outcome is one of a method with this result, or ends a call of any.
abbrev pub fits : List Kind → Option TypeCode → Outcome → Bool
fits kinds result_type outcome = suits kinds result_type outcome || ends_call outcome

-- An outcome that fits stays; in place of any other comes the exception that says so, or there was no memory for it.
abbrev pub IsFitted : List Kind → Option TypeCode → Outcome → Outcome → Type 0
IsFitted kinds result_type outcome after =
    ((fits kinds result_type outcome ≡ true) × (after ≡ outcome))
    ⊎ ((fits kinds result_type outcome ≡ false) × ((after ≡ wrong_result) ⊎ (after ≡ OutOfMemory)))

-- The outcome fits this method, where there is one; else it ends the call.
abbrev pub fits_method : List Kind → Option Method → Outcome → Bool
fits_method kinds (Some method) outcome = fits kinds method.result outcome
fits_method kinds None outcome = ends_call outcome

-- The outcome fits the method that is called, of these kinds, or ends the call.
abbrev pub FitsCall : List Kind → Invocation → Outcome → Type 0
FitsCall kinds call outcome = fits_method kinds (slice_get (methods_of kinds call.kind) call.method) outcome ≡ true

-- A service answers the call of this method, and the outcome is that of its answer; an exception comes in place of one that doesn't fit. Where the
-- kind has no such method, the service is not asked.
abbrev pub AnswersBy : (Invocation → Method → Result Reply CallFault → Type 0) → List Kind → Option Method → Invocation → Outcome → Type 0
AnswersBy may_answer kinds (Some method) call outcome =
    (answer : Result Reply CallFault) × may_answer call method answer × ((given : Outcome) × AnswerGives answer given × IsFitted kinds method.result given outcome)
AnswersBy may_answer kinds None call outcome = FaultGives UnknownMethod outcome

-- The outcome is that of a service's answer to the call.
abbrev pub IsAnswer : (Invocation → Method → Result Reply CallFault → Type 0) → List Kind → Invocation → Outcome → Type 0
IsAnswer may_answer kinds call outcome = AnswersBy may_answer kinds (slice_get (methods_of kinds call.kind) call.method) call outcome

-- Which outcomes a call may have: one that fits the method of this place, of the kind of this number, in some book, and is that of an answer that
-- the service may give to the call.
abbrev pub May : (Invocation → Method → Result Reply CallFault → Type 0) → Invocation → Outcome → Type 0
May may_answer call outcome = (kinds : List Kind) × FitsCall kinds call outcome × IsAnswer may_answer kinds call outcome
