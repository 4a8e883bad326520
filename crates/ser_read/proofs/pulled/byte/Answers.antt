use Rattle.wire_io.specs.Pulled.{pull_state}
use Rattle.ser_read.proofs.Breaking.{byte_comes, byte_breaks, raised}
use Rattle.ser_read.proofs.pulled.byte.Goals as goal

pub returns-in_err-byte-clause-stops : goal.returns-in_err-byte-clause-stops
returns-in_err-byte-clause-stops g c = raised c.from_residual.result c.from_residual.ensures.1 (byte_breaks (pull_state g.S.Source.half c.args.pull.now) (pull_state g.S.Source.half c.byte.new.self) c.in_err-byte.field-0.0 c.in_err-byte.ensures.gives)

pub returns-clause-reads : goal.returns-clause-reads
returns-clause-reads g c = byte_comes (pull_state g.S.Source.half c.args.pull.now) (pull_state g.S.Source.half c.byte.new.self) _ c.in_ok-byte.ensures.gives
