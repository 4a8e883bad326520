use Rattle.std.proofs.Common.{◌+◌, length}
use Rattle.wire_io.specs.Pulled.{pull_state}
use Rattle.ser_read.proofs.Streams.{stream_at_complete}
use Rattle.ser_read.proofs.ToEnd.{gives_within, gives_past, is_read, graph_parts, taken_streams, whole_of, whole_caused}
use Rattle.ser_read.proofs.whole.read_to_end.Goals as goal

pub returns-clause-cause : goal.returns-clause-cause
returns-clause-cause g c = whole_caused (pull_state g.S.Source.half c.args.pull.now) (pull_state g.S.Source.half c.graph.new.pull) graph_parts c.graph.result c.graph.ensures.reads c.graph.ensures.stops

pub returns-clause-gives : goal.returns-clause-gives
returns-clause-gives g c = λ bytes told within. gives_within g.S.Source.half c.args.pull.now bytes graph_parts c.graph.result told within (whole_of g.S.Source.half c.args.pull.now c.graph.new.pull graph_parts c.graph.result c.graph.new.pull.within c.graph.ensures.reads c.graph.ensures.stops)

pub returns-clause-limited : goal.returns-clause-limited
returns-clause-limited g c = λ bytes told past. gives_past g.S.Source.half c.args.pull.now bytes graph_parts c.graph.result told c.args.pull.now.within past (whole_of g.S.Source.half c.args.pull.now c.graph.new.pull graph_parts c.graph.result c.graph.new.pull.within c.graph.ensures.reads c.graph.ensures.stops)

pub returns-clause-taken : goal.returns-clause-taken
returns-clause-taken g c = taken_streams _ _ c.graph.result c.graph.ensures.reads

pub returns-clause-complete : goal.returns-clause-complete
returns-clause-complete g c = λ bytes nodes items told within stream.
    let end = c.args.pull.now.at + length bytes in
    is_read _ end bytes nodes items c.graph.result (stream_at_complete end nodes items bytes stream)
    (gives_within g.S.Source.half c.args.pull.now bytes graph_parts c.graph.result told within (whole_of g.S.Source.half c.args.pull.now c.graph.new.pull graph_parts c.graph.result c.graph.new.pull.within c.graph.ensures.reads c.graph.ensures.stops))
