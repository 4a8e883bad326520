-- The line and the status of a process whose talk with a server ended so.
use Rattle.std.specs.Prelude.{ℕ, codes, List, ◌++◌, decimal}
use Rattle.std.specs.Char.Utf16.{utf16_lossy_chars}
use Rattle.std.specs.Str.{encode_utf8_all}
use Rattle.ser_read.specs.declared.fault.StreamFault.TheVariants as faults
use Rattle.ser_read.specs.Words as streams
use Rattle.dgc_client.specs.declared.plan.ClientFault.{ClientFault}
use Rattle.dgc_client.specs.declared.plan.ClientFault.TheVariants as refusals
use Rattle.rmi_client.specs.declared.end.ClientEnd.{ClientEnd}
use Rattle.rmi_client.specs.declared.end.ClientEnd.TheVariants as ends
use Rattle.client_talk.specs.declared.end.CommandEnd.{CommandEnd}
use Rattle.client_talk.specs.declared.end.CommandEnd.TheVariants.{DialFault, Session, Table}

-- A text in UTF-8, with U+FFFD for each surrogate that has no partner.
abbrev pub shown : List ℕ → List ℕ
shown units = encode_utf8_all (utf16_lossy_chars units)

-- ---- lines

abbrev pub line_of_session : ClientEnd → List ℕ
line_of_session ends.Nack = codes "nack"
line_of_session (ends.BadReply kind at) = codes "bad reply at " ++ decimal at
line_of_session (ends.TooLarge what at) = streams.words_of (faults.TooLarge what at)
line_of_session (ends.Truncated at) = codes "truncated at " ++ decimal at
line_of_session (ends.RemoteFault text) = codes "remote fault " ++ shown text
line_of_session ends.ReadFault = codes "read fault"
line_of_session (ends.WriteFault sent) = codes "write fault"
line_of_session ends.Over = codes "refused"
line_of_session ends.OutOfMemory = codes "out of memory"

abbrev pub line_of_table : ClientFault → List ℕ
line_of_table refusals.NumbersSpent = codes "refused"
line_of_table refusals.FullRefs = codes "refused"
line_of_table refusals.OutOfMemory = codes "out of memory"

abbrev pub line_of_talk : CommandEnd → List ℕ
line_of_talk DialFault = codes "dial fault"
line_of_talk (Session end) = line_of_session end
line_of_talk (Table fault) = line_of_table fault

-- ---- statuses

abbrev pub status_of_session : ClientEnd → ℕ
status_of_session ends.Nack = 2
status_of_session (ends.BadReply kind at) = 2
status_of_session (ends.Truncated at) = 2
status_of_session ends.ReadFault = 3
status_of_session (ends.WriteFault sent) = 4
status_of_session ends.OutOfMemory = 5
status_of_session (ends.TooLarge what at) = 6
status_of_session ends.Over = 6
status_of_session (ends.RemoteFault text) = 7

abbrev pub status_of_table : ClientFault → ℕ
status_of_table refusals.NumbersSpent = 6
status_of_table refusals.FullRefs = 6
status_of_table refusals.OutOfMemory = 5

abbrev pub status_of_talk : CommandEnd → ℕ
status_of_talk DialFault = 3
status_of_talk (Session end) = status_of_session end
status_of_talk (Table fault) = status_of_table fault
