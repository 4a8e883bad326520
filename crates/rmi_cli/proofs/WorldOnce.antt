-- What a world's script comes to is determined by the script.
use Rattle.std.proofs.Common.{◌≡◌, ◌≢◌, ℕ, ◌≤◌, ◌<◌, List, [], length, Some, Result, Ok, Err, ◌⊎◌, inl, inr, ap, sym, subst, ◌∙◌, arith}
use Rattle.lease_world.proofs.Scripts.{comes_once, failed}
use Rattle.lease_world.specs.Script.{ComesTo}
use Rattle.lease_world.specs.declared.fault.WorldFault.{WorldFault}
use Rattle.lease_world.specs.declared.fault.WorldFault.TheVariants as faults
use Rattle.wire_io.specs.Wire.{Wires, with_end, with_end-nothing}
use Rattle.rmi_cli.specs.declared.journal_input.TheConstants.{JOURNAL_BYTES}
use Rattle.rmi_cli.specs.declared.end.RunEnd.{RunEnd}
use Rattle.rmi_cli.specs.declared.end.RunEnd.TheVariants as ends
use Rattle.rmi_cli.specs.Answer.{IsOutsideStatus}
use Rattle.rmi_cli.specs.Replayed.{TakesWhole}
use Rattle.rmi_cli.specs.Told.{Reported, TellsExactly, TellsEnd}
use Rattle.rmi_cli.specs.Line.{status_of_run}
use Rattle.rmi_cli.specs.Worlds.{MakesWorldExactly, PrintsKeptWorld, StopsSo, WorldEnds, end_of, end_of_fault, text_of}
use Rattle.rmi_cli.proofs.Once.{all_taken, front_short, no_room}

-- The end is told as the answer's.
abbrev Ends : Wires → Wires → Reported → Result (List ℕ) WorldFault → Type 0
Ends old new told answer = TellsExactly told (end_of answer) × (new.left ≡ Some []) × (new.held ≡ with_end old.held (text_of answer))

abbrev printed : List ℕ → Result (List ℕ) WorldFault
printed text = Ok text

-- A fault that ends so is not want of memory.
is_known : (fault : WorldFault) (end : RunEnd) → end_of_fault fault ≡ end → end ≢ ends.OutOfMemory → failed fault ≢ failed faults.OutOfMemory
is_known faults.BadStep end is not e = cc
is_known (faults.BadLine line) end is not e = cc
is_known (faults.SpaceRefused refused) end is not e = cc
is_known (faults.ClientRefused refused) end is not e = cc
is_known faults.OutOfMemory end is not e = not (sym is)

text_known : (text : List ℕ) → printed text ≢ failed faults.OutOfMemory
text_known text e = cc

module _ (old new : Wires) (told : Reported) (script : List ℕ) (answer : Result (List ℕ) WorldFault) (left : old.left ≡ Some script) (runs : ComesTo script answer) (known : answer ≢ Err faults.OutOfMemory) where
  at_whole : (taken : List ℕ) (mine : Result (List ℕ) WorldFault) → TakesWhole old new taken → ComesTo taken mine → mine ≢ Err faults.OutOfMemory
      → TellsExactly told (end_of mine) → new.held ≡ with_end old.held (text_of mine) → Ends old new told answer
  at_whole taken mine whole mines known_mine tells held =
      let all = all_taken old new script taken left whole in
      let same : mine ≡ answer = comes_once script mine answer known_mine known (subst (λ (s : List ℕ). ComesTo s mine) all.0 mines) runs in
      subst (λ (x : Result (List ℕ) WorldFault). Ends old new told x) same (tells, all.1, held)

  at_stop : (taken : List ℕ) (end : RunEnd) → TakesWhole old new taken → StopsSo taken end → end ≢ ends.OutOfMemory → TellsExactly told end → new.held ≡ old.held → Ends old new told answer
  at_stop taken end whole (fault, mines, is) not tells held =
      at_whole taken (Err fault) whole mines (is_known fault end is not) (subst (λ (e : RunEnd). TellsExactly told e) (sym is) tells) (held ∙ sym (with_end-nothing old.held))

  within : (end : RunEnd) → WorldEnds old new end → TellsExactly told end → length script ≤ JOURNAL_BYTES → Ends old new told answer ⊎ IsOutsideStatus told.status
  within ends.Done (taken, text, whole, mines, held) tells short = inl (at_whole taken (Ok text) whole mines (text_known text) tells held)
  within ends.Usage e tells short = absurd e
  within (ends.Answered end) e tells short = absurd e
  within (ends.Talked end) e tells short = absurd e
  within (ends.BadLine n) (taken, whole, stops, held) tells short = inl (at_stop taken (ends.BadLine n) whole stops (λ e. cc) tells held)
  within ends.Refused (taken, whole, stops, held) tells short = inl (at_stop taken ends.Refused whole stops (λ e. cc) tells held)
  within (ends.TooLarge limit) (is, (front, long, most, front_is), held) tells short =
      absurd (omega (arith, front_short script front new.left (sym left ∙ front_is), long, short))
  within (ends.NotShown fault) e tells short = absurd e
  within ends.ListenFault e tells short = absurd e
  within ends.AcceptFault e tells short = absurd e
  within ends.ReadFault e tells short = inr (inl tells.0)
  within ends.WriteFault e tells short = inr (inr (inl tells.0))
  within ends.OutOfMemory e tells short = inr (inr (inr tells.0))

-- An end of a status other than 0 leaves none that is 0.
never_ends_well : (told : Reported) (end : RunEnd) → TellsEnd told end → 0 < status_of_run end → told.status ≡ 0 → ⊥
never_ends_well told end (inl tells) bad ok = omega (arith, tells.0, bad, ok)
never_ends_well told end (inr memory) bad ok = omega (arith, memory.1.0, ok)

past : (old new : Wires) (told : Reported) (end : RunEnd) → WorldEnds old new end → TellsExactly told end → (script : List ℕ) → old.left ≡ Some script → JOURNAL_BYTES < length script
    → (TellsExactly told (ends.TooLarge JOURNAL_BYTES) × (new.held ≡ old.held)) ⊎ IsOutsideStatus told.status
past old new told ends.Done (taken, text, whole, runs, held) tells script left long = absurd (no_room old new script taken left long whole)
past old new told ends.Usage e tells script left long = absurd e
past old new told (ends.Answered end) e tells script left long = absurd e
past old new told (ends.Talked end) e tells script left long = absurd e
past old new told (ends.BadLine n) (taken, whole, stops, held) tells script left long = absurd (no_room old new script taken left long whole)
past old new told ends.Refused (taken, whole, stops, held) tells script left long = absurd (no_room old new script taken left long whole)
past old new told (ends.TooLarge limit) (is, front, held) tells script left long = inl (subst (λ n. TellsExactly told (ends.TooLarge n)) is tells, held)
past old new told (ends.NotShown fault) e tells script left long = absurd e
past old new told ends.ListenFault e tells script left long = absurd e
past old new told ends.AcceptFault e tells script left long = absurd e
past old new told ends.ReadFault e tells script left long = inr (inl tells.0)
past old new told ends.WriteFault e tells script left long = inr (inr (inl tells.0))
past old new told ends.OutOfMemory e tells script left long = inr (inr (inr tells.0))

-- Where the status is 0, the world that was printed keeps its promise.
pub keeps_promise : (old new : Wires) (told : Reported) (end : RunEnd) → WorldEnds old new end → TellsEnd told end → told.status ≡ 0 → PrintsKeptWorld old new
keeps_promise old new told ends.Done (script, text, whole, of_world, held) tells ok = record {
  script = script;
  taken = whole;
  course = of_world.course;
  played = of_world.played;
  kept = of_world.promise;
  written = held ∙ ap (λ (t : List ℕ). with_end old.held t) of_world.text_is;
}
keeps_promise old new told ends.Usage e tells ok = absurd e
keeps_promise old new told (ends.Answered end) e tells ok = absurd e
keeps_promise old new told (ends.Talked end) e tells ok = absurd e
keeps_promise old new told (ends.BadLine n) e tells ok = absurd (never_ends_well told (ends.BadLine n) tells (omega arith) ok)
keeps_promise old new told ends.Refused e tells ok = absurd (never_ends_well told ends.Refused tells (omega arith) ok)
keeps_promise old new told (ends.TooLarge limit) e tells ok = absurd (never_ends_well told (ends.TooLarge limit) tells (omega arith) ok)
keeps_promise old new told (ends.NotShown fault) e tells ok = absurd e
keeps_promise old new told ends.ListenFault e tells ok = absurd e
keeps_promise old new told ends.AcceptFault e tells ok = absurd e
keeps_promise old new told ends.ReadFault e tells ok = absurd (never_ends_well told ends.ReadFault tells (omega arith) ok)
keeps_promise old new told ends.WriteFault e tells ok = absurd (never_ends_well told ends.WriteFault tells (omega arith) ok)
keeps_promise old new told ends.OutOfMemory e tells ok = absurd (never_ends_well told ends.OutOfMemory tells (omega arith) ok)

-- A world that was made to such an end, which is told, is exact.
pub makes_exactly : (old new : Wires) (told : Reported) (end : RunEnd) → WorldEnds old new end → TellsEnd told end → MakesWorldExactly old new told
makes_exactly old new told end e (inl tells) = record {
  within = λ script answer left short runs known. within old new told script answer left runs known end e tells short;
  past = past old new told end e tells;
}
makes_exactly old new told end e (inr memory) = record {
  within = λ script answer left short runs known. inr (inr (inr memory.1.0));
  past = λ script left long. inr (inr (inr memory.1.0));
}
