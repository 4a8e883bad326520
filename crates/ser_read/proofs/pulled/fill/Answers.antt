use Rattle.wire_io.specs.Pulled.{pull_state}
use Rattle.ser_read.proofs.Breaking.{bytes_break, raised}
use Rattle.ser_read.proofs.pulled.fill.Goals as goal

pub returns-in_err-take_into-clause-stops : goal.returns-in_err-take_into-clause-stops
returns-in_err-take_into-clause-stops g c = raised c.from_residual.result c.from_residual.ensures.1 (bytes_break (pull_state g.S.Source.half c.args.pull.now) (pull_state g.S.Source.half c.take_into.new.self) _ c.in_err-take_into.field-0.0 c.in_err-take_into.ensures.gives)
