-- What `rmi world` takes and writes.
use Rattle.std.specs.Prelude.{◌≡◌, ◌≢◌, ℕ, ◌+◌, ◌<◌, ◌≤◌, ◌⊎◌, List, [], length, take, Some, Result, Ok, Err}
use Rattle.lease_world.specs.Script.{ComesTo, IsPlayed, end_text}
use Rattle.lease_world.specs.World.{Course, WorldKeepsPromise, world}
use Rattle.lease_world.specs.declared.fault.WorldFault.{WorldFault}
use Rattle.lease_world.specs.declared.fault.WorldFault.TheVariants as faults
use Rattle.wire_io.specs.Wire.{Wires, with_front, with_end}
use Rattle.wire_io.specs.declared.whole.TheConstants.{READ_BLOCK}
use Rattle.rmi_cli.specs.Answer.{IsOutsideStatus}
use Rattle.rmi_cli.specs.Replayed.{TakesWhole, TakesInputFront}
use Rattle.rmi_cli.specs.Told.{Failures, Ran, Reported, TellsExactly}
use Rattle.rmi_cli.specs.declared.journal_input.TheConstants.{JOURNAL_BYTES}
use Rattle.rmi_cli.specs.declared.end.RunEnd.{RunEnd}
use Rattle.rmi_cli.specs.declared.end.RunEnd.TheVariants.{Done, Usage, Answered, Talked, BadLine, Refused, TooLarge, NotShown, ListenFault, AcceptFault, ReadFault, WriteFault, OutOfMemory}

-- How a run ends where a script has this fault. A script's bad step is a bad line.
abbrev pub end_of_fault : WorldFault → RunEnd
end_of_fault faults.BadStep = Refused
end_of_fault (faults.BadLine line) = BadLine line
end_of_fault (faults.SpaceRefused refused) = Refused
end_of_fault (faults.ClientRefused refused) = Refused
end_of_fault faults.OutOfMemory = OutOfMemory

-- The script comes to a fault at which a run ends so.
abbrev pub StopsSo : List ℕ → RunEnd → Type 0
StopsSo script end = (fault : WorldFault) × ComesTo script (Err fault) × (end_of_fault fault ≡ end)

-- What each end says of the input, and what was written.
abbrev pub WorldEnds : Wires → Wires → RunEnd → Type 0
WorldEnds old new Done =
    (script : List ℕ) × (text : List ℕ) × TakesWhole old new script × ComesTo script (Ok text) × (new.held ≡ with_end old.held text)
WorldEnds old new Usage = ⊥
WorldEnds old new (Answered end) = ⊥
WorldEnds old new (Talked end) = ⊥
WorldEnds old new (BadLine line) = (script : List ℕ) × TakesWhole old new script × StopsSo script (BadLine line) × (new.held ≡ old.held)
WorldEnds old new Refused = (script : List ℕ) × TakesWhole old new script × StopsSo script Refused × (new.held ≡ old.held)
WorldEnds old new (TooLarge limit) =
    (limit ≡ JOURNAL_BYTES) × ((front : List ℕ) × (JOURNAL_BYTES < length front) × (length front ≤ JOURNAL_BYTES + READ_BLOCK) × (old.left ≡ with_front front new.left)) × (new.held ≡ old.held)
WorldEnds old new (NotShown fault) = ⊥
WorldEnds old new ListenFault = ⊥
WorldEnds old new AcceptFault = ⊥
WorldEnds old new ReadFault = TakesInputFront old new
WorldEnds old new WriteFault =
    (script : List ℕ) × (text : List ℕ) × (sent : ℕ) × TakesWhole old new script × ComesTo script (Ok text)
    × (sent < length text) × (new.held ≡ with_end old.held (take sent text))
WorldEnds old new OutOfMemory = TakesInputFront old new

-- A world was made to an end, which is told.
abbrev pub MakesWorld : Wires → Wires → Failures → Failures → Reported → Type 0
MakesWorld old new = Ran (WorldEnds old new)

-- The whole input was taken as a script, and the end of its world was written, in which each object that is promised to a client is exported: it is
-- usable, and it was exported at a delivery of the dirty call that made it sure.
pub record PrintsKeptWorld (old new : Wires) : Type 0 where
  pub script : List ℕ
  pub taken : TakesWhole old new script
  pub course : Course
  pub played : IsPlayed script course []
  pub kept : WorldKeepsPromise course
  pub written : new.held ≡ with_end old.held (end_text (world course))

-- The end that an answer makes, and what is written, if anything.
abbrev pub end_of : Result (List ℕ) WorldFault → RunEnd
end_of (Ok text) = Done
end_of (Err fault) = end_of_fault fault

abbrev pub text_of : Result (List ℕ) WorldFault → List ℕ
text_of (Ok text) = text
text_of (Err fault) = []

-- Where the input is told: if it is within the limit, and this is what its script comes to with ample memory, then all of it was taken, the end of
-- the world was written, and the end is told; if it is past the limit, nothing was written, and that is told. Unless the outside failed.
pub record MakesWorldExactly (old new : Wires) (told : Reported) : Type 0 where
  pub within : (script : List ℕ) (answer : Result (List ℕ) WorldFault) → old.left ≡ Some script → length script ≤ JOURNAL_BYTES → ComesTo script answer → answer ≢ Err faults.OutOfMemory
      → (TellsExactly told (end_of answer) × (new.left ≡ Some []) × (new.held ≡ with_end old.held (text_of answer))) ⊎ IsOutsideStatus told.status
  pub past : (script : List ℕ) → old.left ≡ Some script → JOURNAL_BYTES < length script → (TellsExactly told (TooLarge JOURNAL_BYTES) × (new.held ≡ old.held)) ⊎ IsOutsideStatus told.status
