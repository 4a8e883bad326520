use Rattle.std.proofs.Common.{rules, ◌≡◌, ◌<◌, ◌^◌, ◌∙◌, Some, ap, sym, List}
use Rattle.std.proofs.Math.Logic.{∥∥₁_map}
use Rattle.ser_values.specs.declared.node.Node.{Node}
use Rattle.ser_values.specs.NoteBytes.{with_note_byte}
use Rattle.ser_values.proofs.Bare.{byte_graph}
use Rattle.ser_values.proofs.graph.Graph.with_note_byte.Goals as goal

pub from_parts-requires : goal.from_parts-requires
from_parts-requires c =
    let told : with_note_byte c.args.self.nodes c.args.at c.args.byte ≡ Some c.in-Some.nodes =
    ap (λ (nodes : List Node). with_note_byte nodes c.args.at c.args.byte) (sym c.into_parts-nodes.ensures.nodes) ∙ (sym c.nodes_with_byte.ensures ∙ c.in-Some.is) in
    let small : c.args.byte < 2 ^ 8 = search rules in
    rw c.into_parts-nodes.ensures.items (∥∥₁_map c.args.self.numbered (λ g. byte_graph c.args.self.nodes c.in-Some.nodes c.args.self.items c.args.at c.args.byte small told g))
