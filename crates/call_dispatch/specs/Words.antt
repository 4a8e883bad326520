-- The words that tell how a connection ended.
use Rattle.std.specs.Prelude.{ℕ, ◌^◌, ◌-◌, codes, List, [], ◌++◌, false}
use Rattle.std.specs.Fmt.{decimal, digits, padded_integral, format_spec}
use Rattle.ser_read.specs.Words.{words_of_kind, words_of_large}
use Rattle.call_dispatch.specs.declared.end.ConnEnd.{ConnEnd}
use Rattle.call_dispatch.specs.declared.end.ConnEnd.TheVariants.{Ended, BadHeader, UnknownProtocol, BadMessage, BadStream, TooLarge, Truncated, NoSuchObject, NoSuchMethod, SpaceFull, MessageLimit, ReadFault, WriteFault, OutOfMemory}

-- a byte as two lower-case hexadecimal digits
abbrev pub hexadecimal : ℕ → List ℕ
hexadecimal byte = padded_integral (format_spec 32 0 4 2 (2 ^ 64 - 1)) false [] (digits 16 false byte)

-- the end in words, with its byte in hexadecimal and its position in decimals
abbrev pub words_of : ConnEnd → List ℕ
words_of Ended = codes "ended"
words_of (BadHeader at) = codes "bad header at " ++ decimal at
words_of (UnknownProtocol byte) = codes "unknown protocol " ++ hexadecimal byte
words_of (BadMessage byte at) = codes "bad message " ++ hexadecimal byte ++ codes " at " ++ decimal at
words_of (BadStream kind at) = codes "bad stream " ++ words_of_kind kind ++ codes " at " ++ decimal at
words_of (TooLarge what at) = codes "too large " ++ words_of_large what ++ codes " at " ++ decimal at
words_of (Truncated at) = codes "truncated at " ++ decimal at
words_of (NoSuchObject id) = codes "no such object"
words_of (NoSuchMethod operation hash) = codes "no such method"
words_of SpaceFull = codes "space full"
words_of MessageLimit = codes "message limit"
words_of ReadFault = codes "read fault"
words_of (WriteFault sent) = codes "write fault"
words_of OutOfMemory = codes "out of memory"
