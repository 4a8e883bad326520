-- The status of a connection whose dialogue is told.
use Rattle.std.proofs.Common.{ℕ, List, refl, sym, subst, ◌⊎◌, inl, inr}
use Rattle.wire_io.specs.Wire.{Wires}
use Rattle.call_dispatch.specs.declared.end.ConnEnd.{ConnEnd}
use Rattle.call_dispatch.specs.declared.end.ConnEnd.TheVariants.{Ended, BadHeader, UnknownProtocol, BadMessage, BadStream, TooLarge, Truncated, NoSuchObject, NoSuchMethod, SpaceFull, MessageLimit, ReadFault, WriteFault, OutOfMemory}
use Rattle.call_dispatch.specs.End.{IsSettled}
use Rattle.rmi_cli.specs.Statuses.{status_of}
use Rattle.rmi_cli.specs.Answer.{ServesExactly, AnswersExactly, IsOutsideStatus}
use Rattle.rmi_cli.specs.Told.{Reported, TellsExactly, TellsEnd}
use Rattle.rmi_cli.specs.declared.end.RunEnd.TheVariants.{Answered}
use Rattle.rmi_words.specs.declared.options.LeaseOptions.{LeaseOptions}

settled_or_outside : (end : ConnEnd) → IsSettled end ⊎ IsOutsideStatus (status_of end)
settled_or_outside Ended = inl tt
settled_or_outside (BadHeader at) = inl tt
settled_or_outside (UnknownProtocol byte) = inl tt
settled_or_outside (BadMessage byte at) = inl tt
settled_or_outside (BadStream kind at) = inl tt
settled_or_outside (TooLarge what at) = inl tt
settled_or_outside (Truncated at) = inl tt
settled_or_outside (NoSuchObject id) = inl tt
settled_or_outside (NoSuchMethod operation hash) = inl tt
settled_or_outside SpaceFull = inl tt
settled_or_outside MessageLimit = inl tt
settled_or_outside ReadFault = inr (inl refl)
settled_or_outside (WriteFault sent) = inr (inr (inl refl))
settled_or_outside OutOfMemory = inr (inr (inr refl))

-- A connection that went as its settled dialogue says is told so.
pub told_settles : (seed : List ℕ) (options : LeaseOptions) (old new : Wires) (told : Reported) (result : ConnEnd) → ServesExactly seed options old new result → TellsEnd told (Answered result) → AnswersExactly seed options old new told
unfolding ServesExactly AnswersExactly
told_settles seed options old new told result settles (inr memory) other rest end is dialogue quiet settled = inr (inr (inr memory.1.0))
told_settles seed options old new told result settles (inl tells) other rest end is dialogue quiet settled =
    elim (settled_or_outside result) [
      | inl ok ↦ let went = settles other rest end is dialogue quiet settled ok in
          let P : ConnEnd → Type 0 = λ x. TellsExactly told (Answered x) in inl (subst P went.0 tells, went.1, went.2)
      | inr not ↦ inr (subst IsOutsideStatus (sym tells.0) not)
    ]
