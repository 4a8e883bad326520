-- The line that says how a run ended, and the status of the process.
use Rattle.std.specs.Prelude.{ℕ, codes, List, ◌++◌, decimal}
use Rattle.rmi_cli.specs.Statuses.{status_of}
use Rattle.rmi_cli.specs.TalkEnds.{line_of_talk, status_of_talk}
use Rattle.call_dispatch.specs.Words.{words_of}
use Rattle.ser_read.specs.declared.fault.StreamFault.{StreamFault}
use Rattle.ser_read.specs.declared.fault.StreamFault.TheVariants as faults
use Rattle.ser_read.specs.Words as streams
use Rattle.rmi_cli.specs.declared.end.RunEnd.{RunEnd}
use Rattle.rmi_cli.specs.declared.end.RunEnd.TheVariants.{Usage, Answered, Talked, Done, BadLine, Refused, TooLarge, NotShown, ListenFault, AcceptFault, ReadFault, WriteFault, OutOfMemory}

-- The words of a run's end.
abbrev pub line_of : RunEnd → List ℕ
line_of Usage = codes "usage"
line_of (Answered end) = words_of end
line_of (Talked end) = line_of_talk end
line_of Done = codes "done"
line_of (BadLine line) = codes "bad line " ++ decimal line
line_of Refused = codes "refused"
line_of (TooLarge limit) = codes "too large bytes at " ++ decimal limit
line_of (NotShown fault) = streams.words_of fault
line_of ListenFault = codes "listen fault"
line_of AcceptFault = codes "accept fault"
line_of ReadFault = codes "read fault"
line_of WriteFault = codes "write fault"
line_of OutOfMemory = codes "out of memory"

-- The status of the process where a stream could not be read.
abbrev pub status_of_fault : StreamFault → ℕ
status_of_fault (faults.Bad kind at) = 2
status_of_fault (faults.Truncated at) = 2
status_of_fault faults.ReadFault = 3
status_of_fault faults.OutOfMemory = 5
status_of_fault (faults.TooLarge what at) = 6

-- The status of the process.
abbrev pub status_of_run : RunEnd → ℕ
status_of_run Usage = 1
status_of_run (Answered end) = status_of end
status_of_run (Talked end) = status_of_talk end
status_of_run Done = 0
status_of_run (BadLine line) = 2
status_of_run Refused = 6
status_of_run (TooLarge limit) = 6
status_of_run (NotShown fault) = status_of_fault fault
status_of_run ListenFault = 3
status_of_run AcceptFault = 3
status_of_run ReadFault = 3
status_of_run WriteFault = 4
status_of_run OutOfMemory = 5
