-- What a call that reads from a Pull answers, beside reading as a function on lists.
use Rattle.std.specs.Prelude.{◌≡◌, ℕ, ◌+◌, ◌-◌, ◌≤◌, ◌<◌, Bool, true, false, List, [], ◌∷◌, ◌++◌, length, take, drop, Option, None, Some, Result, Ok, Err, IfOk, IfErr}
use Rattle.wire_io.specs.Wire.{ReadHalf, Rose, NothingLeft}
use Rattle.wire_io.specs.Pulled.{PullState, pull_state, Takes, Passes}
use Rattle.wire_io.specs.declared.pull.Pull.{Pull}
use Rattle.wire_io.specs.declared.pull.PullEnd.{PullEnd}
use Rattle.wire_io.specs.declared.pull.PullEnd.TheVariants as ends
use Rattle.ser_read.specs.declared.fault.StreamKind.{StreamKind}
use Rattle.ser_read.specs.declared.fault.StreamKind.TheVariants as kinds
use Rattle.ser_read.specs.declared.fault.StreamFault.{StreamFault}
use Rattle.ser_read.specs.declared.fault.StreamFault.TheVariants.{Bad, TooLarge, Truncated, ReadFault, OutOfMemory}
use Rattle.ser_read.specs.declared.fault.Large.TheVariants.{Bytes, Nodes, Depth}
use Rattle.stream_grammar.specs.Faults.{AreBytes}
use Rattle.stream_grammar.specs.Reading.{Fault, short, bad, too_many, too_deep, FaultKind, bad_magic, bad_code, bad_handle, wrong_handle_kind, bad_desc, bad_utf, negative_length, reset, inner_exception, old_external}

-- ---- the bytes before a Pull, where they are told

-- those to come, up to the message's limit
abbrev pub coming_at : Option (List ℕ) → ℕ → ℕ → List ℕ
coming_at None at stop = []
coming_at (Some bs) at stop = take (stop - at) bs

-- the fault of who wants one byte more: the input ends, or goes on past the limit
abbrev pub fault_after : List ℕ → ℕ → StreamFault
fault_after [] at = Truncated at
fault_after (b ∷ bs) at = TooLarge Bytes at

-- Whether the bytes are told, the position at which they end, and the fault of who wants one more.
pub record Env : Type 0 where
  pub told : Bool
  pub end : ℕ
  pub after : StreamFault

abbrev pub env_at : Option (List ℕ) → ℕ → ℕ → Env
env_at None at stop = record { told = false; end = 0; after = Truncated 0 }
env_at (Some bs) at stop = record { told = true; end = at + length (take (stop - at) bs); after = fault_after (drop (stop - at) bs) (at + length (take (stop - at) bs)) }

unfoldable pub coming : {S : Type 0} → (S → ReadHalf) → Pull S → List ℕ
coming half p = coming_at (half p.source.now).left p.at p.stop

unfoldable pub env : {S : Type 0} → (S → ReadHalf) → Pull S → Env
env half p = env_at (half p.source.now).left p.at p.stop

abbrev pub IsTold : {S : Type 0} → (S → ReadHalf) → Pull S → Type 0
IsTold half p = (env half p).told ≡ true

-- the fault of a Pull that gave no byte
abbrev pub fault_of : PullEnd → StreamFault
fault_of (ends.End at) = Truncated at
fault_of (ends.Limit at) = TooLarge Bytes at
fault_of ends.ReadFault = ReadFault
fault_of ends.OutOfMemory = OutOfMemory

-- ---- what is answered

-- A read fault comes only where the count of faults rose, and it never falls.
abbrev pub Caused : {A : Type 0} → ℕ → ℕ → Result A StreamFault → Type 0
Caused before after (Ok x) = before ≤ after
Caused before after (Err ReadFault) = Rose before after
Caused before after (Err e) = before ≤ after

-- Want of memory and failed reads are the outside's.
abbrev pub IsOutside : StreamFault → Type 0
IsOutside OutOfMemory = Unit {0}
IsOutside ReadFault = Unit {0}
IsOutside _ = ⊥

-- the kind of a fault in the bytes of a stream that is read whole
abbrev pub kind_of : StreamKind → FaultKind
kind_of kinds.BadMagic = bad_magic
kind_of kinds.BadCode = bad_code
kind_of kinds.BadHandle = bad_handle
kind_of kinds.WrongHandleKind = wrong_handle_kind
kind_of kinds.BadDesc = bad_desc
kind_of kinds.BadUtf = bad_utf
kind_of kinds.NegativeLength = negative_length
kind_of kinds.BlockLeft = bad_code
kind_of kinds.MissingBlock = bad_code
kind_of kinds.Reset = reset
kind_of kinds.InnerException = inner_exception
kind_of kinds.OldExternal = old_external

-- the kind of a fault of the grammar
abbrev pub stream_kind : FaultKind → StreamKind
stream_kind bad_magic = kinds.BadMagic
stream_kind bad_code = kinds.BadCode
stream_kind bad_handle = kinds.BadHandle
stream_kind wrong_handle_kind = kinds.WrongHandleKind
stream_kind bad_desc = kinds.BadDesc
stream_kind bad_utf = kinds.BadUtf
stream_kind negative_length = kinds.NegativeLength
stream_kind reset = kinds.Reset
stream_kind inner_exception = kinds.InnerException
stream_kind old_external = kinds.OldExternal

-- a kind that comes where a stream is read whole
abbrev pub IsInBytes : StreamKind → Type 0
IsInBytes kinds.BlockLeft = ⊥
IsInBytes kinds.MissingBlock = ⊥
IsInBytes _ = Unit {0}

-- Reading gives this fault; `after` is the fault of who wants one byte more. What is the outside's may come anywhere.
-- `said` says a fault of what is read, and `of_kind` whether reading gives the fault of a kind at a position.
abbrev pub FailsBy : {Y F : Type 0} → (Fault → F) → (Result Y F → StreamKind → ℕ → Type 0) → StreamFault → StreamFault → Result Y F → Type 0
FailsBy said of_kind after OutOfMemory read = Unit {0}
FailsBy said of_kind after ReadFault read = Unit {0}
FailsBy said of_kind after (Truncated at) read = (read ≡ Err (said short)) × (after ≡ Truncated at)
FailsBy said of_kind after (TooLarge Bytes at) read = (read ≡ Err (said short)) × (after ≡ TooLarge Bytes at)
FailsBy said of_kind after (TooLarge Nodes at) read = read ≡ Err (said (too_many at))
FailsBy said of_kind after (TooLarge Depth at) read = read ≡ Err (said (too_deep at))
FailsBy said of_kind after (Bad kind at) read = of_kind read kind at

-- the fault of a kind, where a stream is read whole
abbrev pub IsBad : {Y : Type 0} → Result Y Fault → StreamKind → ℕ → Type 0
IsBad read kind at = (read ≡ Err (bad (kind_of kind) at)) × IsInBytes kind

abbrev pub Fails : {Y : Type 0} → StreamFault → StreamFault → Result Y Fault → Type 0
Fails after e read = FailsBy (λ f. f) IsBad after e read

-- What a call answers, seen by `view`, is what reading gives; `fails` says that it gives a fault.
abbrev pub GivesBy : {X Y F : Type 0} → (StreamFault → Result Y F → Type 0) → (X → Y) → Result X StreamFault → Result Y F → Type 0
GivesBy fails view (Ok x) read = read ≡ Ok (view x)
GivesBy fails view (Err e) read = fails e read

abbrev pub Gives : {X Y : Type 0} → StreamFault → (X → Y) → Result X StreamFault → Result Y Fault → Type 0
Gives after view result read = GivesBy (Fails after) view result read

-- Where the bytes are told, a call answers what reading gives of those to come: `out` of what is answered and of those that come then.
-- `read` is told the position at which the bytes end.
abbrev pub GivesToldBy : {S X Y F : Type 0} → (StreamFault → StreamFault → Result Y F → Type 0) → (S → ReadHalf) → Pull S → Pull S → Result X StreamFault → (ℕ → List ℕ → Result Y F) → (X → List ℕ → Y) → Type 0
GivesToldBy fails half old new result read out = IsTold half old → GivesBy (fails (env half old).after) (λ x. out x (coming half new)) result (read (env half old).end (coming half old))

abbrev pub GivesTold : {S X Y : Type 0} → (S → ReadHalf) → Pull S → Pull S → Result X StreamFault → (ℕ → List ℕ → Result Y Fault) → (X → List ℕ → Y) → Type 0
GivesTold half old new result read out = GivesToldBy Fails half old new result read out

-- None of these bytes, which begin at this position, can be left out: reading any front that lacks one wants more. `more` says that.
abbrev pub NeedsAll : {Y F : Type 0} → F → ℕ → List ℕ → (ℕ → List ℕ → Result Y F) → Type 0
NeedsAll more at taken read = (front : List ℕ) (next : ℕ) (others : List ℕ) → taken ≡ front ++ next ∷ others → read (at + length front) front ≡ Err more

-- Bytes were taken, and whatever comes after them, reading gives `out` of that. None of them could be left out.
pub record Reads {Y F : Type 0} (more : F) (old new : PullState) (read : ℕ → List ℕ → Result Y F) (out : List ℕ → Y) : Type 0 where
  pub taken : List ℕ
  pub bytes : AreBytes taken
  pub takes : Takes old new taken
  pub is : (rest : List ℕ) → read (new.at + length rest) (taken ++ rest) ≡ Ok (out rest)
  pub least : NeedsAll more old.at taken read

-- Whether the bytes are told or not, what a call answers is read from those that it took.
abbrev pub ReadsTaken : {S X Y : Type 0} → (S → ReadHalf) → Pull S → Pull S → Result X StreamFault → (ℕ → List ℕ → Result Y Fault) → (X → List ℕ → Y) → Type 0
ReadsTaken half old new result read out = IfOk result (λ x. Reads short (pull_state half old) (pull_state half new) read (out x))

-- ---- what was taken on a fault, and why reading ends there

-- Bytes were taken, and whatever comes after them, reading gives the fault of which this is said. None of them could be left out.
pub record Decides {Y F : Type 0} (more : F) (old new : PullState) (read : ℕ → List ℕ → Result Y F) (is_fault : Result Y F → Type 0) : Type 0 where
  pub taken : List ℕ
  pub bytes : AreBytes taken
  pub takes : Takes old new taken
  pub is : (rest : List ℕ) → is_fault (read (new.at + length rest) (taken ++ rest))
  pub least : NeedsAll more old.at taken read

-- Bytes were taken up to this place, at which the fault stands, and reading wants more of them.
pub record FallsShort {Y F : Type 0} (old new : PullState) (at : ℕ) (read : ℕ → List ℕ → Result Y F) (fault : F) : Type 0 where
  pub taken : List ℕ
  pub takes : Takes old new taken
  pub here : at ≡ new.at
  pub is : read new.at taken ≡ Err fault

-- Bytes were taken, and none of them could be left out.
pub record TakesNeeded {Y F : Type 0} (more : F) (old new : PullState) (read : ℕ → List ℕ → Result Y F) : Type 0 where
  pub taken : List ℕ
  pub takes : Takes old new taken
  pub least : NeedsAll more old.at taken read

-- What was taken where this fault is answered, and why reading ends there. `said` says a fault of what is read, and `of_kind` whether reading
-- gives the fault of a kind at a position. What is wrong, or too deep, or one node too many, is decided by the bytes taken, whatever comes
-- after them, and by no fewer of them. The input ends behind the bytes taken, or goes on there past the limit, or the source fails there, and
-- reading them wants more. Where there is no memory, none of the bytes taken could be left out.
abbrev pub BreaksBy : {Y F : Type 0} → (Fault → F) → (Result Y F → StreamKind → ℕ → Type 0) → PullState → PullState → StreamFault → (ℕ → List ℕ → Result Y F) → Type 0
BreaksBy said of_kind old new (Bad kind at) read = Decides (said short) old new read (λ r. of_kind r kind at)
BreaksBy said of_kind old new (TooLarge Nodes at) read = Decides (said short) old new read (λ r. r ≡ Err (said (too_many at)))
BreaksBy said of_kind old new (TooLarge Depth at) read = Decides (said short) old new read (λ r. r ≡ Err (said (too_deep at)))
BreaksBy said of_kind old new (TooLarge Bytes at) read = (mid : PullState) × FallsShort old mid at read (said short) × Passes mid new
BreaksBy said of_kind old new (Truncated at) read = FallsShort old new at read (said short) × NothingLeft new.left
BreaksBy said of_kind old new ReadFault read = FallsShort old new new.at read (said short) × Rose old.faults new.faults
BreaksBy said of_kind old new OutOfMemory read = TakesNeeded (said short) old new read

-- the same where a stream is read whole
pub record Breaks {Y : Type 0} (old new : PullState) (fault : StreamFault) (read : ℕ → List ℕ → Result Y Fault) : Type 0 where
  pub is : BreaksBy (λ f. f) IsBad old new fault read

-- Whether the bytes are told or not, a fault that a call answers is what the bytes that it took come to.
abbrev pub StopsTaken : {S X Y : Type 0} → (S → ReadHalf) → Pull S → Pull S → Result X StreamFault → (ℕ → List ℕ → Result Y Fault) → Type 0
StopsTaken half old new result read = IfErr result (λ e. Breaks (pull_state half old) (pull_state half new) e read)
