use Rattle.std.proofs.Common.{◌^◌, arith}
use Rattle.journal.proofs.Bytes.{number_lacks_comma}
use Rattle.journal.proofs.items.KindsField.read.Goals as goal

pub read_list-requires : goal.read_list-requires
read_list-requires c n word spells = number_lacks_comma (2 ^ 32) n word (omega arith) spells
