-- Where reading ends inside a Call.
use Rattle.std.specs.Prelude.{◌≡◌, ℕ, ◌+◌, ◌≤◌, List, [], ◌∷◌, ◌++◌, length, Option, Result, Err}
use Rattle.wire_io.specs.Wire.{NothingLeft}
use Rattle.stream_grammar.specs.Reading.{short, too_many, too_deep}
use Rattle.ser_read.specs.declared.fault.Large.TheVariants.{Bytes, Nodes, Depth}
use Rattle.ser_read.specs.Here.{NeedsAll}
use Rattle.ser_read.specs.Wants.{WantFault, inside, WantIsBad}
use Rattle.call_dispatch.specs.declared.end.ConnEnd.{ConnEnd}
use Rattle.call_dispatch.specs.declared.end.ConnEnd.TheVariants.{BadStream, TooLarge, Truncated, ReadFault, OutOfMemory}

-- These bytes, which begin at a position, are all that was taken of what `read` reads, and reading ends there by this end. What is wrong or
-- too deep, or one node too many, is decided by them, whatever comes after them, and by no fewer. The input ends behind them, or they reach
-- `stop` and the input goes on, and reading them wants more; or a read failed, or there was no memory, and none of them could be left out. None
-- of them stands behind `stop`, but for the byte that shows that the input goes on there.
abbrev pub BreaksAt : {Y : Type 0} → (ℕ → List ℕ → Result Y WantFault) → ℕ → ℕ → List ℕ → Option (List ℕ) → ConnEnd → Type 0
BreaksAt read at stop more rest (BadStream kind p) = ((r : List ℕ) → WantIsBad (read (at + length more + length r) (more ++ r)) kind p) × NeedsAll (inside short) at more read × (at + length more ≤ stop)
BreaksAt read at stop more rest (TooLarge Nodes p) = ((r : List ℕ) → read (at + length more + length r) (more ++ r) ≡ Err (inside (too_many p))) × NeedsAll (inside short) at more read × (at + length more ≤ stop)
BreaksAt read at stop more rest (TooLarge Depth p) = ((r : List ℕ) → read (at + length more + length r) (more ++ r) ≡ Err (inside (too_deep p))) × NeedsAll (inside short) at more read × (at + length more ≤ stop)
BreaksAt read at stop more rest (TooLarge Bytes p) = (front : List ℕ) × (dropped : ℕ) × (more ≡ front ++ dropped ∷ []) × (p ≡ at + length front) × (p ≡ stop) × (read p front ≡ Err (inside short))
BreaksAt read at stop more rest (Truncated p) = (p ≡ at + length more) × (p ≤ stop) × (read p more ≡ Err (inside short)) × NothingLeft rest
BreaksAt read at stop more rest ReadFault = (read (at + length more) more ≡ Err (inside short)) × (at + length more ≤ stop)
BreaksAt read at stop more rest OutOfMemory = NeedsAll (inside short) at more read × (at + length more ≤ stop)
BreaksAt read at stop more rest _ = ⊥
