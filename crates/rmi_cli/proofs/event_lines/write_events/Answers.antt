use Rattle.journal.specs.Written.{event_line}
use Rattle.rmi_cli.proofs.Sinking.{lines_on}
use Rattle.rmi_cli.proofs.event_lines.write_events.Goals as goal

pub loop-rest-preserved : goal.loop-rest-preserved
loop-rest-preserved g c after final goes =
    c.loop-rest.invariant after final (
    lines_on (g.K.Sink.half c.loop-rest.sink) (g.K.Sink.half c.write_made-state.new.sink) after c.lines_of.result (event_line c.args.space) c.split_front.result.0.now c.split_front.result.1.now c.loop-rest.rest.now
    c.loop-rest.state c.write_made-state.result final c.split_front.ensures.parts c.split_front.ensures.some_front c.lines_of.ensures c.write_made-state.ensures goes
    )
