use Rattle.std.proofs.Common.{◌≡◌, ◌+◌, ◌≤◌, drop}
use Rattle.ser_read.specs.ObjectRows.{sizes_by}
use Rattle.ser_read.proofs.reading.objects.sizes_of.Given as goal

abbrev pub invariant-loop-row : goal.invariant-loop-row
invariant-loop-row l = record {
  small : l.total ≤ 1048576;
  told : l.total + sizes_by (drop l.row-index l.rows) ≡ sizes_by l.rows;
}
