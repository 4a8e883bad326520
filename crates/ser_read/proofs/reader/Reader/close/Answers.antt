use Rattle.std.proofs.Common.{◌≡◌, None, rules}
use Rattle.std.proofs.Math.Logic.{∥∥₁_map}
use Rattle.ser_read.specs.ReaderStand.{stand_of}
use Rattle.ser_read.proofs.Served.{served_graph}
use Rattle.ser_read.proofs.reader.Reader.close.Goals as goal

pub from_parts-requires : goal.from_parts-requires
from_parts-requires g c =
    let none : c.self.inside.refused ≡ None = search rules in
    rw (c.into_nodes.ensures, c.from_vec.ensures) (∥∥₁_map (c.self.invariant none).1 (λ s. served_graph (stand_of c.self.inside.stand) s c.self.inside.stand.table.few_nodes))
