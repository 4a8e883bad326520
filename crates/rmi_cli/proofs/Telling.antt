-- What writing the line of an end does.
use Rattle.std.proofs.Common.{◌≡◌, ◌≢◌, ◌<◌, ℕ, List, [], ◌∷◌, ◌++◌, length, take, Result, Ok, Err, refl, sym, subst, ◌∙◌, inl, inr}
use Rattle.std.specs.Prelude.{OnOk, IfErr}
use Rattle.wire_io.specs.Wire.{with_end, Rose}
use Rattle.wire_io.specs.declared.put.PutFault.{PutFault}
use Rattle.rmi_cli.specs.Line.{line_of, status_of_run}
use Rattle.rmi_cli.specs.Told.{Reported, Took, told_line, TellsEnd}
use Rattle.rmi_cli.specs.declared.end.RunEnd.{RunEnd}
use Rattle.rmi_cli.specs.declared.end.RunEnd.TheVariants.{Usage, Answered, Talked, Done, BadLine, Refused, TooLarge, NotShown, ListenFault, AcceptFault, ReadFault, WriteFault, OutOfMemory}

pub took : (result : Result (Unit {0}) PutFault) (told : Reported) (bytes : List ℕ) → OnOk result (told.after ≡ with_end told.before bytes)
    → IfErr result (λ e. (e.sent < length bytes) × (told.after ≡ with_end told.before (take e.sent bytes)))
    → IfErr result (λ e. Rose told.faults_before told.faults_after) → Took told bytes
took (Ok u) told bytes ok sent fault = inl ok
took (Err e) told bytes ok sent fault = inr (record { sent = e.sent; less = sent.0; held = sent.1; rose = fault })

-- An end with a line is told by it and an LF.
line_told : (end : RunEnd) → end ≢ Done → told_line end ≡ line_of end ++ 10 ∷ []
line_told Done not = absurd (not refl)
line_told Usage not = refl
line_told (Answered end) not = refl
line_told (Talked end) not = refl
line_told (BadLine line) not = refl
line_told Refused not = refl
line_told (TooLarge limit) not = refl
line_told (NotShown fault) not = refl
line_told ListenFault not = refl
line_told AcceptFault not = refl
line_told ReadFault not = refl
line_told WriteFault not = refl
line_told OutOfMemory not = refl

-- The line of an end was written.
pub told_so : (told : Reported) (end : RunEnd) (bytes : List ℕ) → end ≢ Done → bytes ≡ line_of end ++ 10 ∷ [] → told.status ≡ status_of_run end → Took told bytes → TellsEnd told end
told_so told end bytes not is status took = inl (status, subst (Took told) (is ∙ sym (line_told end not)) took)
