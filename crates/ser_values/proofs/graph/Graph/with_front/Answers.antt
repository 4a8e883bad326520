use Rattle.std.proofs.Common.{rules, ◌≡◌}
use Rattle.std.proofs.Math.Logic.{∥∥₁_map}
use Rattle.ser_values.specs.Fronts.{put_block}
use Rattle.ser_values.proofs.FrontLaws.{with_graph, front_undone}
use Rattle.ser_values.proofs.Reached.{joined_items}
use Rattle.ser_values.proofs.graph.Graph.with_front.Goals as goal

pub from_parts-requires : goal.from_parts-requires
from_parts-requires c =
    let put : c.from_vec.result ≡ put_block c.args.bytes.now c.args.self.items = search rules in
    rw put (∥∥₁_map (search rules) (λ g. with_graph c.into_parts-nodes.result.0 c.args.bytes.now c.args.self.items c.look_at_each.ensures g))

pub returns-clause-undone : goal.returns-clause-undone
returns-clause-undone c =
    let put : c.from_parts.result.items ≡ put_block c.args.bytes.now c.args.self.items = search rules in
    rw put (front_undone c.args.bytes.now c.args.self.items (joined_items c.args.self.nodes c.args.self.items c.args.self.numbered))
