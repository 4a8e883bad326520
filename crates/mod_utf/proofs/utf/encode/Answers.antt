use Rattle.mod_utf.proofs.Spelling.{written_more}
use Rattle.mod_utf.proofs.utf.encode.Goals as goal

pub loop-unit-preserved : goal.loop-unit-preserved
loop-unit-preserved c = written_more _ _ _ _ c.loop-unit-test.true c.loop-unit.invariant c.in_ok-push_unit.ensures.spelled c.in_ok-push_unit.ensures.ok
