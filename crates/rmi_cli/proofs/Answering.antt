-- A connection that was served, and how its end is told.
use Rattle.std.proofs.Common.{◌≡◌, ◌⊎◌, ℕ, List, Option, refl, sym, subst, ◌∙◌, inl, inr}
use Rattle.wire_io.specs.Wire.{Wires, Rose}
use Rattle.call_dispatch.specs.End.{IsWriteFault}
use Rattle.call_dispatch.specs.Complete.{IsUnfailed}
use Rattle.call_dispatch.specs.declared.end.ConnEnd.{ConnEnd}
use Rattle.call_dispatch.specs.declared.end.ConnEnd.TheVariants.{Ended, BadHeader, UnknownProtocol, BadMessage, BadStream, TooLarge, Truncated, NoSuchObject, NoSuchMethod, SpaceFull, MessageLimit, ReadFault, WriteFault, OutOfMemory}
use Rattle.rmi_cli.specs.Answer.{IsOutsideStatus, ServesOne, AnswersWhole, Answers}
use Rattle.rmi_cli.specs.Statuses.{status_of}
use Rattle.rmi_cli.specs.Told.{Failures, Reported, TellsExactly, TellsEnd}
use Rattle.rmi_cli.specs.declared.end.RunEnd.TheVariants.{Answered}
use Rattle.rmi_words.specs.declared.command.Command.{Command}
use Rattle.rmi_words.specs.declared.command.Command.TheVariants.{Answer}
use Rattle.rmi_words.specs.declared.options.LeaseOptions.{LeaseOptions}

unfailed_or_outside : (end : ConnEnd) → IsUnfailed end ⊎ IsOutsideStatus (status_of end)
unfailed_or_outside Ended = inl (record { source = (λ same. cc); sink = (λ w. w) })
unfailed_or_outside (BadHeader at) = inl (record { source = (λ same. cc); sink = (λ w. w) })
unfailed_or_outside (UnknownProtocol byte) = inl (record { source = (λ same. cc); sink = (λ w. w) })
unfailed_or_outside (BadMessage byte at) = inl (record { source = (λ same. cc); sink = (λ w. w) })
unfailed_or_outside (BadStream kind at) = inl (record { source = (λ same. cc); sink = (λ w. w) })
unfailed_or_outside (TooLarge what at) = inl (record { source = (λ same. cc); sink = (λ w. w) })
unfailed_or_outside (Truncated at) = inl (record { source = (λ same. cc); sink = (λ w. w) })
unfailed_or_outside (NoSuchObject id) = inl (record { source = (λ same. cc); sink = (λ w. w) })
unfailed_or_outside (NoSuchMethod operation hash) = inl (record { source = (λ same. cc); sink = (λ w. w) })
unfailed_or_outside SpaceFull = inl (record { source = (λ same. cc); sink = (λ w. w) })
unfailed_or_outside MessageLimit = inl (record { source = (λ same. cc); sink = (λ w. w) })
unfailed_or_outside ReadFault = inr (inl refl)
unfailed_or_outside (WriteFault sent) = inr (inr (inl refl))
unfailed_or_outside OutOfMemory = inr (inr (inr refl))

-- A whole input's end is told.
told_whole : (seed : List ℕ) (options : LeaseOptions) (old new : Wires) (given given_after : Option (List ℕ)) (told : Reported) (end : ConnEnd) → (one : ServesOne seed options old new given given_after end) → TellsEnd told (Answered end)
    → AnswersWhole seed options old one.course new told
unfolding AnswersWhole
told_whole seed options old new given given_after told end one (inr memory) opening sents input is whole finds = inr (inr (inr memory.1.0))
told_whole seed options old new given given_after told end one (inl tells) opening sents input is whole finds =
    let outside : ConnEnd → Type 0 = λ x. TellsExactly told (Answered x) in
    elim (unfailed_or_outside end) [
      | inl unfailed ↦ elim (one.complete unfailed opening sents input is whole finds) [
        | inl (ended, left, answers) ↦ inl (subst outside ended tells, left, answers)
        | inr none ↦ let lacks : TellsExactly told (Answered OutOfMemory) = subst outside none tells in inr (inr (inr lacks.0))
      ]
      | inr not ↦ inr (subst IsOutsideStatus (sym tells.0) not)
    ]

pub answered : (seed : List ℕ) (options : LeaseOptions) (old new : Wires) (failed failed_after : Failures) (given given_after : Option (List ℕ)) (told : Reported) (end : ConnEnd) → ServesOne seed options old new given given_after end
    → (end ≡ ReadFault → Rose failed.input failed_after.input) → (IsWriteFault end → Rose failed.output failed_after.output) → TellsEnd told (Answered end)
    → Answers seed options old new failed failed_after given given_after told
answered seed options old new failed failed_after given given_after told end one read written tells =
    record { end = end; serves = one; read_fault = read; write_fault = written; tells = tells; whole = told_whole seed options old new given given_after told end one tells }

same_options : (t t2 : LeaseOptions) → Answer t ≡ Answer t2 → t ≡ t2
same_options t t2 same = cc

pub answers_asked : (seed : List ℕ) (command : Command) (t t2 : LeaseOptions) (old new : Wires) (failed failed_after : Failures) (given given_after : Option (List ℕ)) (told : Reported) → command ≡ Answer t → command ≡ Answer t2
    → Answers seed t old new failed failed_after given given_after told → Answers seed t2 old new failed failed_after given given_after told
answers_asked seed command t t2 old new failed failed_after given given_after told is is2 answers =
    let P : LeaseOptions → Type 0 = λ x. Answers seed x old new failed failed_after given given_after told in subst P (same_options t t2 (sym is ∙ is2)) answers
