-- What `rmi replay` takes and writes.
use Rattle.std.specs.Prelude.{◌≡◌, ◌≢◌, ℕ, ◌+◌, ◌<◌, ◌≤◌, ◌⊎◌, List, [], length, take, Some, Result, Ok, Err}
use Rattle.wire_io.specs.Wire.{Wires, with_front, with_end, NothingLeft}
use Rattle.wire_io.specs.declared.whole.TheConstants.{READ_BLOCK}
use Rattle.rmi_cli.specs.Answer.{IsOutsideStatus}
use Rattle.rmi_cli.specs.Replay.{Outlines, IsBadLine, IsTurnRefused, Replays}
use Rattle.rmi_cli.specs.Told.{Failures, Ran, Reported, TellsExactly}
use Rattle.rmi_cli.specs.declared.journal_input.TheConstants.{JOURNAL_BYTES}
use Rattle.rmi_cli.specs.declared.outlines.ReplayFault.{ReplayFault}
use Rattle.rmi_cli.specs.declared.outlines.ReplayFault.TheVariants as faults
use Rattle.rmi_cli.specs.declared.end.RunEnd.{RunEnd}
use Rattle.rmi_cli.specs.declared.end.RunEnd.TheVariants.{Done, Usage, Answered, Talked, BadLine, Refused, TooLarge, NotShown, ListenFault, AcceptFault, ReadFault, WriteFault, OutOfMemory}

-- The whole input was taken, within the limit.
pub record TakesWhole (old new : Wires) (input : List ℕ) : Type 0 where
  pub left : old.left ≡ with_front input new.left
  pub nothing : NothingLeft new.left
  pub short : length input ≤ JOURNAL_BYTES

-- Some front of the input was taken, at most 4,096 bytes more than the limit, and nothing was written.
abbrev pub TakesInputFront : Wires → Wires → Type 0
TakesInputFront old new = (front : List ℕ) × (length front ≤ JOURNAL_BYTES + READ_BLOCK) × (old.left ≡ with_front front new.left) × (new.held ≡ old.held)

-- What each end says of the input, and what was written.
abbrev pub ReplayEnds : Wires → Wires → RunEnd → Type 0
ReplayEnds old new Done =
    (input : List ℕ) × (output : List ℕ) × TakesWhole old new input × Outlines input output × (new.held ≡ with_end old.held output)
ReplayEnds old new Usage = ⊥
ReplayEnds old new (Answered end) = ⊥
ReplayEnds old new (Talked end) = ⊥
ReplayEnds old new (BadLine line) = (input : List ℕ) × TakesWhole old new input × IsBadLine input line × (new.held ≡ old.held)
ReplayEnds old new Refused = (input : List ℕ) × TakesWhole old new input × IsTurnRefused input × (new.held ≡ old.held)
ReplayEnds old new (TooLarge limit) =
    (limit ≡ JOURNAL_BYTES) × ((front : List ℕ) × (JOURNAL_BYTES < length front) × (length front ≤ JOURNAL_BYTES + READ_BLOCK) × (old.left ≡ with_front front new.left)) × (new.held ≡ old.held)
ReplayEnds old new (NotShown fault) = ⊥
ReplayEnds old new ListenFault = ⊥
ReplayEnds old new AcceptFault = ⊥
ReplayEnds old new ReadFault = TakesInputFront old new
ReplayEnds old new WriteFault =
    (input : List ℕ) × (output : List ℕ) × (sent : ℕ) × TakesWhole old new input × Outlines input output
    × (sent < length output) × (new.held ≡ with_end old.held (take sent output))
ReplayEnds old new OutOfMemory = TakesInputFront old new

-- The input was replayed to an end, which is told.
abbrev pub ReplaysInput : Wires → Wires → Failures → Failures → Reported → Type 0
ReplaysInput old new = Ran (ReplayEnds old new)

-- The end that an answer makes, and the outline that is written, if any.
abbrev pub end_of : Result (List ℕ) ReplayFault → RunEnd
end_of (Ok output) = Done
end_of (Err (faults.BadLine line)) = BadLine line
end_of (Err faults.Refused) = Refused
end_of (Err faults.OutOfMemory) = OutOfMemory

abbrev pub output_of : Result (List ℕ) ReplayFault → List ℕ
output_of (Ok output) = output
output_of (Err fault) = []

-- Where the input is told: if it is within the limit, and this is what a replay of it answers with ample memory, then all of it was taken,
-- the outline was written, and the end is told; if it is past the limit, nothing was written, and that is told. Unless the outside failed.
pub record ReplaysExactly (old new : Wires) (told : Reported) : Type 0 where
  pub within : (input : List ℕ) (answer : Result (List ℕ) ReplayFault) → old.left ≡ Some input → length input ≤ JOURNAL_BYTES → Replays input answer → answer ≢ Err faults.OutOfMemory
      → (TellsExactly told (end_of answer) × (new.left ≡ Some []) × (new.held ≡ with_end old.held (output_of answer))) ⊎ IsOutsideStatus told.status
  pub past : (input : List ℕ) → old.left ≡ Some input → JOURNAL_BYTES < length input → (TellsExactly told (TooLarge JOURNAL_BYTES) × (new.held ≡ old.held)) ⊎ IsOutsideStatus told.status
