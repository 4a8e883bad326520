-- What a connection's steps say of the outside's failures, and of its halves' ends.
use Rattle.std.specs.Prelude.{◌≡◌, ℕ, ◌≤◌, Result, Ok, Err}
use Rattle.wire_io.specs.Wire.{ReadHalf, WriteHalf, Rose}
use Rattle.call_dispatch.specs.declared.connection.Connection.{Connection}
use Rattle.call_dispatch.specs.declared.end.ConnEnd.{ConnEnd}
use Rattle.call_dispatch.specs.declared.end.ConnEnd.TheVariants.{ReadFault}
use Rattle.call_dispatch.specs.End.{IsWriteFault}

-- how often the source and the sink failed
pub record FaultCounts : Type 0 where
  pub source : ℕ
  pub sink : ℕ

-- the counts of a connection
abbrev pub counts_of : {S K C P W : Type 0} → (S → ReadHalf) → (K → WriteHalf) → Connection S K C P W → FaultCounts
counts_of read_half write_half c = record { source = (read_half c.pull.source.now).faults; sink = (write_half c.sink.now).faults }

-- No count fell.
pub record Grew (before after : FaultCounts) : Type 0 where
  pub source : before.source ≤ after.source
  pub sink : before.sink ≤ after.sink

-- The end tells a fault of the source, or of the sink, only where its count rose; no count fell.
pub record Blames (before after : FaultCounts) (end : ConnEnd) : Type 0 where
  pub read_fault : end ≡ ReadFault → Rose before.source after.source
  pub write_fault : IsWriteFault end → Rose before.sink after.sink
  pub source : before.source ≤ after.source
  pub sink : before.sink ≤ after.sink

-- The same of a step, after which the connection goes on or ended.
abbrev pub BlamesIn : {T : Type 0} → FaultCounts → FaultCounts → Result T ConnEnd → Type 0
BlamesIn before after (Ok x) = Grew before after
BlamesIn before after (Err end) = Blames before after end

-- Neither half of a connection was shut in a step: what each had when it was first shut is what it was before.
abbrev pub KeepsShut : {S K C P W : Type 0} → (S → ReadHalf) → (K → WriteHalf) → Connection S K C P W → Connection S K C P W → Type 0
KeepsShut read_half write_half old new =
    ((read_half new.pull.source.now).shut ≡ (read_half old.pull.source.now).shut) × ((write_half new.sink.now).shut ≡ (write_half old.sink.now).shut)
