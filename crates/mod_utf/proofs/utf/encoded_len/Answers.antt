use Rattle.mod_utf.proofs.Spelling.{counted_whole}
use Rattle.mod_utf.proofs.utf.encoded_len.Goals as goal

pub returns-clause-spelled : goal.returns-clause-spelled
returns-clause-spelled c = let same = c.as_slice-unit-items.ensures in rw (← same) (counted_whole _ _ _ c.loop-unit-test.false c.loop-unit.invariant.0)
