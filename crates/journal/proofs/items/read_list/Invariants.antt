use Rattle.std.proofs.Common.{length}
use Rattle.journal.proofs.Lists.{ReadSoFar}
use Rattle.journal.proofs.items.read_list.Given as goal

abbrev pub invariant-loop-part : goal.invariant-loop-part
invariant-loop-part g l = ReadSoFar (g.A.Field.spells l.space) l.fn.word l.items l.left

abbrev pub decreases-loop-part : goal.decreases-loop-part
decreases-loop-part g l = length l.left
