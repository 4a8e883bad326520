use Rattle.std.proofs.Common.{arith, rules}
use Rattle.wire_io.specs.Pulled.{pull_state}
use Rattle.rmi_cli.proofs.Showing.{graph_taken, fault_told, stops_there}
use Rattle.rmi_cli.proofs.stream_input.read_marked.Goals as goal

pub returns-clause-taken : goal.returns-clause-taken
returns-clause-taken g c =
    rw (← c.mark.ensures.source) (graph_taken (pull_state g.S.Source.half c.mark.new.self) (pull_state g.S.Source.half c.read_to_end.new.pull) c.read_to_end.result (search rules) (search (rules, arith)) c.read_to_end.new.pull.within c.read_to_end.ensures.taken)

pub returns-clause-fault : goal.returns-clause-fault
returns-clause-fault g c =
    rw (← c.mark.ensures.source) (fault_told (g.S.Source.half c.mark.new.self.source.now).left c.mark.new.self.at c.mark.new.self.stop c.read_to_end.result (search rules) (search (rules, arith)) c.read_to_end.ensures.gives c.read_to_end.ensures.limited)

pub returns-clause-stops : goal.returns-clause-stops
returns-clause-stops g c =
    rw (← c.mark.ensures.source) (stops_there (pull_state g.S.Source.half c.mark.new.self) (pull_state g.S.Source.half c.read_to_end.new.pull) c.read_to_end.result (search rules) (search (rules, arith)) c.read_to_end.ensures.stops)
