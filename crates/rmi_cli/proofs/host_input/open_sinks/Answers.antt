use Rattle.std.proofs.Common.{ℕ, List, [], ◌∷◌, subst}
use Rattle.rmi_cli.specs.LinkLine.{listening_line}
use Rattle.rmi_cli.specs.Sinks.{Goes}
use Rattle.rmi_cli.specs.declared.sink_state.SinkState.TheVariants.{Whole}
use Rattle.rmi_cli.proofs.Sinking.{one_piece}
use Rattle.rmi_cli.proofs.host_input.open_sinks.Goals as goal

pub returns-clause-told : goal.returns-clause-told
returns-clause-told g c =
    let old = g.E.Sink.half c.args.errors.now in
    let new = g.E.Sink.half c.write_made-told.new.sink in
    let line = listening_line c.as_str.result.now c.args.parts.now.port in
    subst (λ (address : List ℕ). Goes old new (listening_line address c.args.parts.now.port ∷ []) Whole c.write_made-told.result) c.as_str.ensures
    (c.write_made-told.ensures line [] (one_piece _ line c.listening_line-line.ensures))
