-- The statuses of a process that served one connection.
use Rattle.std.specs.Prelude.{ℕ}
use Rattle.call_dispatch.specs.declared.end.ConnEnd.{ConnEnd}
use Rattle.call_dispatch.specs.declared.end.ConnEnd.TheVariants.{Ended, BadHeader, UnknownProtocol, BadMessage, BadStream, TooLarge, Truncated, NoSuchObject, NoSuchMethod, SpaceFull, MessageLimit, ReadFault, WriteFault, OutOfMemory}

-- The status of a process whose one connection ends so.
abbrev pub status_of : ConnEnd → ℕ
status_of Ended = 0
status_of (BadHeader at) = 2
status_of (UnknownProtocol byte) = 2
status_of (BadMessage byte at) = 2
status_of (BadStream kind at) = 2
status_of (Truncated at) = 2
status_of ReadFault = 3
status_of (WriteFault sent) = 4
status_of OutOfMemory = 5
status_of (TooLarge what at) = 6
status_of SpaceFull = 6
status_of MessageLimit = 6
status_of (NoSuchObject id) = 7
status_of (NoSuchMethod operation hash) = 7
