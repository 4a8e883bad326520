use Rattle.std.proofs.Common.{refl}
use Rattle.std.proofs.lemmas.List.{map-set, length-set}
use Rattle.ser_read.proofs.table.Table.fill_desc.Goals as goal

pub invariant_of-self : goal.invariant_of-self
invariant_of-self c = record {
  known = rw (c.element_code.ensures.value, c.write_desc.ensures, map-set, c.args.self.now.known) refl;
  few_nodes = simp length-set c.args.self.now.few_nodes;
  few_parts = c.args.self.now.few_parts;
}
