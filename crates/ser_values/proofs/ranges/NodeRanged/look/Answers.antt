use Rattle.ser_values.proofs.ranges.NodeRanged.look.Goals as goal

pub returns-in-Object : goal.returns-in-Object
returns-in-Object c = rw c.in-Object.is (c.look-in-Object.ensures, tt)
