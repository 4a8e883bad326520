-- Why a client has no answer, beside the faults of what is read.
use Rattle.std.specs.Prelude.{◌≡◌, ◌⊎◌, ℕ, ◌≤◌, Bool, true, false, Result, Ok, Err}
use Rattle.wire_io.specs.Wire.{Rose}
use Rattle.stream_grammar.specs.Reading.{short, bad, too_many, too_deep}
use Rattle.ser_read.specs.declared.fault.StreamKind.{StreamKind}
use Rattle.ser_read.specs.declared.fault.StreamKind.TheVariants as kinds
use Rattle.ser_read.specs.declared.fault.StreamFault.{StreamFault}
use Rattle.ser_read.specs.declared.fault.StreamFault.TheVariants as faults
use Rattle.ser_read.specs.declared.fault.Large.TheVariants as larges
use Rattle.ser_read.specs.Here.{stream_kind}
use Rattle.ser_read.specs.Wants.{WantFault, inside, missing_block, block_left}
use Rattle.rmi_client.specs.declared.end.ReplyKind.TheVariants as replies
use Rattle.rmi_client.specs.declared.end.ClientEnd.{ClientEnd}
use Rattle.rmi_client.specs.declared.end.ClientEnd.TheVariants as ends

-- the end for a fault in reading a stream, or a byte in front of one
abbrev pub end_of : StreamFault → ClientEnd
end_of (faults.Bad kind at) = ends.BadReply (replies.Stream kind) at
end_of (faults.TooLarge what at) = ends.TooLarge what at
end_of (faults.Truncated at) = ends.Truncated at
end_of faults.ReadFault = ends.ReadFault
end_of faults.OutOfMemory = ends.OutOfMemory

-- ---- the end that bytes come to

-- the end where reading a stream gives this; `after` is the fault of who wants one byte more than there are
abbrev pub end_by : StreamFault → WantFault → ClientEnd
end_by after (inside short) = end_of after
end_by after (inside (bad kind at)) = ends.BadReply (replies.Stream (stream_kind kind)) at
end_by after (inside (too_many at)) = ends.TooLarge larges.Nodes at
end_by after (inside (too_deep at)) = ends.TooLarge larges.Depth at
end_by after (missing_block at) = ends.BadReply (replies.Stream kinds.MissingBlock) at
end_by after (block_left at) = ends.BadReply (replies.Stream kinds.BlockLeft) at

-- Want of memory and the faults of a link's half are the outside's.
abbrev pub IsOutside : ClientEnd → Type 0
IsOutside ends.OutOfMemory = Unit {0}
IsOutside ends.ReadFault = Unit {0}
IsOutside _ = ⊥

-- What a call answers is what reading the bytes to come gives, or its end is the outside's.
abbrev pub Agrees : {A Y : Type 0} → (A → Y → Type 0) → Result A ClientEnd → Result Y ClientEnd → Type 0
Agrees {A} {Y} Is (Ok a) read = (y : Y) × (read ≡ Ok y) × Is a y
Agrees Is (Err end) read = IsOutside end ⊎ (read ≡ Err end)

-- A source's count of faults went from `before` to `after` in a call that answers this: a read fault comes only where it rose.
abbrev pub BlamesRead : {A : Type 0} → ℕ → ℕ → Result A ClientEnd → Type 0
BlamesRead before after result = (before ≤ after) × (result ≡ Err ends.ReadFault → Rose before after)

-- A session is over after this: neither an answer nor an exception of the server.
abbrev pub is_end : {A : Type 0} → Result A ClientEnd → Bool
is_end (Ok answer) = false
is_end (Err (ends.RemoteFault text)) = false
is_end (Err end) = true
