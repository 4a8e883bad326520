use Rattle.std.proofs.Common.{◌≡◌, ◌+◌, ◌≤◌, drop}
use Rattle.ser_values.specs.Finished.{parts_at}
use Rattle.ser_values.proofs.finishing.has_few_parts.Given as goal

abbrev pub invariant-loop-number : goal.invariant-loop-number
invariant-loop-number l = record {
  small : l.total ≤ 1048576;
  told : l.total + parts_at l.loose.nodes.now (drop l.number-index l.order) ≡ parts_at l.loose.nodes.now l.order + l.beside;
}
