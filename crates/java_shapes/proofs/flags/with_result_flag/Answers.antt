use Rattle.std.proofs.Common.{◌≡◌, ◌∙◌, ap, sym, List, None, Some, option_map}
use Rattle.ser_values.specs.declared.graph.Graph.{Graph}
use Rattle.ser_values.specs.declared.node.Node.{Node}
use Rattle.ser_values.specs.declared.note_bytes.NotePlace.{NotePlace}
use Rattle.java_shapes.specs.Flags.{flags_in, set_flags}
use Rattle.java_shapes.proofs.Flagged.{all_set}
use Rattle.java_shapes.proofs.FlagViews.{refs_flagged}
use Rattle.java_shapes.proofs.flags.with_result_flag.Goals as goal

abbrev nodes_of : Graph → List Node
nodes_of g = g.nodes

pub unreachable-requires : goal.unreachable-requires
unreachable-requires c =
    let w = all_set c.args.graph.nodes in
    let places = c.deref.ensures.value ∙ c.in_ok-places.ensures in
    let none = sym (ap (λ (l : List NotePlace). set_flags c.args.graph.nodes l) places) ∙ (sym c.set_flags.ensures.nodes ∙ ap (option_map nodes_of) c.in-None.is) in
    let z : Some w.0 ≡ None = sym w.1 ∙ none in
    absurd cc

pub returns-clause-viewed : goal.returns-clause-viewed
returns-clause-viewed c s =
    let places = c.deref.ensures.value ∙ c.in_ok-places.ensures in
    let done : set_flags c.args.graph.nodes (flags_in c.args.graph.nodes) ≡ Some c.in-Some.flagged.nodes =
    sym (ap (λ (l : List NotePlace). set_flags c.args.graph.nodes l) places) ∙ (sym c.set_flags.ensures.nodes ∙ ap (option_map nodes_of) c.in-Some.is) in
    refs_flagged c.args.graph.nodes c.in-Some.flagged.nodes done s
