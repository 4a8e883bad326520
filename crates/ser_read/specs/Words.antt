-- The words that tell why a stream could not be read.
use Rattle.std.specs.Prelude.{ℕ, codes, List, ◌++◌}
use Rattle.std.specs.Fmt.{decimal}
use Rattle.ser_read.specs.declared.fault.Large.{Large}
use Rattle.ser_read.specs.declared.fault.Large.TheVariants.{Bytes, Nodes, Depth}
use Rattle.ser_read.specs.declared.fault.StreamKind.{StreamKind}
use Rattle.ser_read.specs.declared.fault.StreamKind.TheVariants.{BadMagic, BadCode, BadHandle, WrongHandleKind, BadDesc, BadUtf, NegativeLength, BlockLeft, MissingBlock, Reset, InnerException, OldExternal}
use Rattle.ser_read.specs.declared.fault.StreamFault.{StreamFault}
use Rattle.ser_read.specs.declared.fault.StreamFault.TheVariants.{Bad, TooLarge, Truncated, ReadFault, OutOfMemory}

abbrev pub words_of_large : Large → List ℕ
words_of_large Bytes = codes "bytes"
words_of_large Nodes = codes "nodes"
words_of_large Depth = codes "depth"

abbrev pub words_of_kind : StreamKind → List ℕ
words_of_kind BadMagic = codes "bad magic"
words_of_kind BadCode = codes "bad code"
words_of_kind BadHandle = codes "bad handle"
words_of_kind WrongHandleKind = codes "wrong handle kind"
words_of_kind BadDesc = codes "bad desc"
words_of_kind BadUtf = codes "bad utf"
words_of_kind NegativeLength = codes "negative length"
words_of_kind BlockLeft = codes "block left"
words_of_kind MissingBlock = codes "missing block"
words_of_kind Reset = codes "reset"
words_of_kind InnerException = codes "inner exception"
words_of_kind OldExternal = codes "old external"

-- the fault in words, with its position in decimals
abbrev pub words_of : StreamFault → List ℕ
words_of (Bad kind at) = codes "bad stream " ++ words_of_kind kind ++ codes " at " ++ decimal at
words_of (TooLarge what at) = codes "too large " ++ words_of_large what ++ codes " at " ++ decimal at
words_of (Truncated at) = codes "truncated at " ++ decimal at
words_of ReadFault = codes "read fault"
words_of OutOfMemory = codes "out of memory"
