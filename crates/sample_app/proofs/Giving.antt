-- Which outcomes adding may have.
use Rattle.std.proofs.Common.{◌≡◌, ◌≢◌, ◌⊎◌, inl, inr, subst, sym, Option, Some}
use Rattle.std.specs.Prelude.{ℤ, pos, ◌+ℤ◌}
use Rattle.object_ids.specs.declared.ids.ObjId.{ObjId}
use Rattle.call_dispatch.specs.declared.outcome.Invocation.{Invocation}
use Rattle.call_dispatch.specs.declared.outcome.Outcome.{Outcome}
use Rattle.call_dispatch.specs.declared.outcome.Outcome.TheVariants.{OutOfMemory}
use Rattle.call_dispatch.specs.Acts.{States}
use Rattle.sample_app.specs.declared.sample_call.SampleCall.{SampleCall}
use Rattle.sample_app.specs.declared.sample_call.SampleCall.TheVariants.{Add}
use Rattle.sample_app.specs.Counters.{count_of}
use Rattle.sample_app.specs.Does.{call_of, overflow, MayGive, May, Adds}

pub adding_may : (call : Invocation) (before after : States) (object : ObjId) (number : ℤ) (outcome : Outcome) → call_of call ≡ Some (Add number)
    → ((outcome ≡ OutOfMemory) × (after ≡ before)) ⊎ Adds before object number outcome after → (outcome ≡ overflow → number ≢ pos 0) → May call outcome
adding_may call before after object number outcome asked (inl wanting) not_zero = inl wanting.0
adding_may call before after object number outcome asked (inr (inl (fits, gives, now))) not_zero =
    let P : Option SampleCall → Type 0 = λ a. MayGive call.arguments.graph a outcome in
    inr (subst P (sym asked) (inl (count_of before object +ℤ number, gives)))
adding_may call before after object number outcome asked (inr (inr (past, gives, now))) not_zero =
    let P : Option SampleCall → Type 0 = λ a. MayGive call.arguments.graph a outcome in
    inr (subst P (sym asked) (inr (not_zero gives, gives)))
