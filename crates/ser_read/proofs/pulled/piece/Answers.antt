use Rattle.wire_io.specs.Pulled.{pull_state}
use Rattle.ser_read.proofs.Breaking.{bytes_break, raised}
use Rattle.ser_read.proofs.pulled.piece.Goals as goal

pub returns-in_err-bytes-clause-stops : goal.returns-in_err-bytes-clause-stops
returns-in_err-bytes-clause-stops g c = raised c.from_residual.result c.from_residual.ensures.1 (bytes_break (pull_state g.S.Source.half c.args.pull.now) (pull_state g.S.Source.half c.take.new.self) c.args.n c.in_err-bytes.field-0.0 c.in_err-bytes.ensures.gives)
