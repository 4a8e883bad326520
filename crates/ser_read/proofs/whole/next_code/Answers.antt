use Rattle.wire_io.specs.Pulled.{pull_state}
use Rattle.ser_read.proofs.Breaking.{byte_comes}
use Rattle.ser_read.proofs.whole.next_code.Goals as goal

pub returns-in-Ok-clause-reads : goal.returns-in-Ok-clause-reads
returns-in-Ok-clause-reads g c = byte_comes (pull_state g.S.Source.half c.args.pull.now) (pull_state g.S.Source.half c.byte.new.self) _ c.in-Ok.ensures.gives
