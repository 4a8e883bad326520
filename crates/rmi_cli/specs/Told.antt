-- How the end of a run is told: by the status of the process, and by a line on the errors' sink.
use Rattle.std.specs.Prelude.{◌≡◌, ◌≢◌, ℕ, ◌<◌, ◌⊎◌, List, [], ◌∷◌, ◌++◌, length, take, Option}
use Rattle.wire_io.specs.Links.{Listening}
use Rattle.wire_io.specs.Wire.{ReadHalf, WriteHalf, with_end, Rose}
use Rattle.rmi_cli.specs.Line.{line_of, status_of_run}
use Rattle.rmi_words.specs.declared.command.WordsFault.{WordsFault}
use Rattle.rmi_words.specs.declared.command.WordsFault.TheVariants as words
use Rattle.rmi_cli.specs.declared.end.RunEnd.{RunEnd}
use Rattle.rmi_cli.specs.declared.end.RunEnd.TheVariants.{Usage, Answered, Talked, Done, BadLine, Refused, TooLarge, NotShown, ListenFault, AcceptFault, ReadFault, WriteFault, OutOfMemory}

-- What a run answered, and what it did to the errors' sink: what that held, where it tells it, and its count of faults, before and after.
pub record Reported : Type 0 where
  pub status : ℕ
  pub before : Option (List ℕ)
  pub after : Option (List ℕ)
  pub faults_before : ℕ
  pub faults_after : ℕ

-- the same of what a sink shows
abbrev pub told_of_halves : WriteHalf → WriteHalf → ℕ → Reported
told_of_halves before after status =
    record { status = status; before = before.held; after = after.held; faults_before = before.faults; faults_after = after.faults }

-- the same of a sink
abbrev pub told_by : {E : Type 0} → (E → WriteHalf) → E → E → ℕ → Reported
told_by half before after status = told_of_halves (half before) (half after) status

-- The errors' sink failed after it took exactly a front of these bytes.
pub record TookFront (told : Reported) (bytes : List ℕ) : Type 0 where
  pub sent : ℕ
  pub less : sent < length bytes
  pub held : told.after ≡ with_end told.before (take sent bytes)
  pub rose : Rose told.faults_before told.faults_after

-- The errors' sink took exactly these bytes, or failed after a front of them.
abbrev pub Took : Reported → List ℕ → Type 0
Took told bytes = (told.after ≡ with_end told.before bytes) ⊎ TookFront told bytes

-- The line of an end, with its LF. No line tells that all was done.
abbrev pub told_line : RunEnd → List ℕ
told_line Done = []
told_line Usage = line_of Usage ++ 10 ∷ []
told_line (Answered end) = line_of (Answered end) ++ 10 ∷ []
told_line (Talked end) = line_of (Talked end) ++ 10 ∷ []
told_line (BadLine line) = line_of (BadLine line) ++ 10 ∷ []
told_line Refused = line_of Refused ++ 10 ∷ []
told_line (TooLarge limit) = line_of (TooLarge limit) ++ 10 ∷ []
told_line (NotShown fault) = line_of (NotShown fault) ++ 10 ∷ []
told_line ListenFault = line_of ListenFault ++ 10 ∷ []
told_line AcceptFault = line_of AcceptFault ++ 10 ∷ []
told_line ReadFault = line_of ReadFault ++ 10 ∷ []
told_line WriteFault = line_of WriteFault ++ 10 ∷ []
told_line OutOfMemory = line_of OutOfMemory ++ 10 ∷ []

-- The status is the end's, and the line is its line.
abbrev pub TellsExactly : Reported → RunEnd → Type 0
TellsExactly told end = (told.status ≡ status_of_run end) × Took told (told_line end)

-- So an end is told; where it has a line for which there is no memory, want of memory is told in its place.
abbrev pub TellsEnd : Reported → RunEnd → Type 0
TellsEnd told end = TellsExactly told end ⊎ ((end ≢ Done) × TellsExactly told OutOfMemory)

-- How a run ends where the words gave no command.
abbrev pub end_of_words : WordsFault → RunEnd
end_of_words words.Usage = Usage
end_of_words words.OutOfMemory = OutOfMemory

-- It is told that the words are no command line, or that there was no memory to read them.
abbrev pub TellsNoCommand : Reported → Type 0
TellsNoCommand told = TellsExactly told Usage ⊎ TellsExactly told OutOfMemory

-- The input, the output or the listener failed meanwhile: its count of faults rose.
abbrev pub ReadFailed : {I : Type 0} → (I → ReadHalf) → I → I → Type 0
ReadFailed half old new = Rose (half old).faults (half new).faults

abbrev pub WriteFailed : {O : Type 0} → (O → WriteHalf) → O → O → Type 0
WriteFailed half old new = Rose (half old).faults (half new).faults

abbrev pub ListenerFailed : {L : Type 0} → (L → Listening) → L → L → Type 0
ListenerFailed listening old new = Rose (listening old).faults (listening new).faults

-- How often the input and the output have failed.
pub record Failures : Type 0 where
  pub input : ℕ
  pub output : ℕ

abbrev pub failures : {I O : Type 0} → (I → ReadHalf) → (O → WriteHalf) → I → O → Failures
failures read_half write_half input output = record { input = (read_half input).faults; output = (write_half output).faults }

-- Neither the input nor the output was shut.
abbrev pub StayOpen : {I O : Type 0} → (I → ReadHalf) → (O → WriteHalf) → I → O → I → O → Type 0
StayOpen read_half write_half input output input2 output2 =
    ((read_half input2).shut ≡ (read_half input).shut) × ((write_half output2).shut ≡ (write_half output).shut)

-- A command ran to an end, of which this holds, and which is told. It is a fault of reading or of writing only where the input or the output failed.
pub record Ran (Holds : RunEnd → Type 0) (failed failed_after : Failures) (told : Reported) : Type 0 where
  pub end : RunEnd
  pub holds : Holds end
  pub read_fault : status_of_run end ≡ 3 → Rose failed.input failed_after.input
  pub write_fault : status_of_run end ≡ 4 → Rose failed.output failed_after.output
  pub tells : TellsEnd told end
