use Rattle.std.proofs.Common.{rules, ◌≡◌, Some}
use Rattle.std.proofs.Math.Logic.{∥∥₁_map}
use Rattle.ser_values.specs.Fronts.{without_front}
use Rattle.ser_values.proofs.FrontLaws.{without_graph, cut_front}
use Rattle.ser_values.proofs.Reached.{joined_items}
use Rattle.ser_values.proofs.graph.Graph.without_front.Goals as goal

pub from_parts-requires : goal.from_parts-requires
from_parts-requires c =
    let cut : without_front c.args.n c.args.self.items ≡ Some c.from_vec.result = search rules in
    ∥∥₁_map (search rules) (λ g. without_graph c.into_parts-nodes.result.0 c.args.n c.args.self.items c.from_vec.result g cut)

pub returns-clause-some : goal.returns-clause-some
returns-clause-some c =
    let cut : without_front c.args.n c.args.self.items ≡ Some c.from_parts.result.items = search rules in
    cut_front c.args.n c.args.self.items c.from_parts.result.items (joined_items c.args.self.nodes c.args.self.items c.args.self.numbered) cut
