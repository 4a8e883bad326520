use Rattle.std.proofs.Common.{refl, rules}
use Rattle.wire_io.specs.Wire.{wires}
use Rattle.rmi_cli.specs.declared.end.RunEnd.TheVariants.{Done, NotShown}
use Rattle.rmi_cli.proofs.ShownOnce.{ends_exactly}
use Rattle.rmi_cli.proofs.stream_input.show_input.Goals as goal

pub returns-in-Err-clause-exact : goal.returns-in-Err-clause-exact
returns-in-Err-clause-exact g c =
    ends_exactly (wires g.S.Source.half g.K.Sink.half c.args.source.now c.args.sink.now) (wires g.S.Source.half g.K.Sink.half c.read_input.new.source c.args.sink.now) (NotShown c.in-Err.fault)
    (c.in-Err.ensures.fault, c.in-Err.ensures.stops, refl)

pub returns-in-Ok-put_all-clause-exact : goal.returns-in-Ok-put_all-clause-exact
returns-in-Ok-put_all-clause-exact g c =
    ends_exactly (wires g.S.Source.half g.K.Sink.half c.args.source.now c.args.sink.now) (wires g.S.Source.half g.K.Sink.half c.read_input.new.source c.put_all.new.sink) Done
    (c.in-Ok.graph.nodes, c.in-Ok.graph.items, c.in-Ok.ensures.taken, search rules)
