use Rattle.std.proofs.Common.{length}
use Rattle.ser_read.proofs.table.+has.Given as goal

abbrev pub decreases-has : goal.decreases-has
decreases-has l = length l.numbers.now
