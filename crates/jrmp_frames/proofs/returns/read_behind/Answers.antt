use Rattle.std.proofs.Common.{sym, arith}
use Rattle.jrmp_frames.proofs.ReturnReading.{behind_other, behind_read, behind_breaks}
use Rattle.jrmp_frames.proofs.returns.read_behind.Goals as goal

pub returns-in_default-clause-stops : goal.returns-in_default-clause-stops
returns-in_default-clause-stops g c = behind_other _ c.args.result_type c.args.byte _ c.args.reader.stand (sym c.in_default.ensures) (omega (arith, c.requires.moved))

pub returns-in-Ok-clause-reads : goal.returns-in-Ok-clause-reads
returns-in-Ok-clause-reads g c = behind_read c.args.result_type c.args.byte c.in-Some.normal c.args.reader.stand c.in-Ok.contents.0 c.in-Ok.contents.1 (sym c.in-Some.ensures) (rw c.carried_type.ensures at c.in-Ok.ensures.reads)

pub returns-in-Err-clause-stops : goal.returns-in-Err-clause-stops
returns-in-Err-clause-stops g c = behind_breaks c.args.result_type c.args.byte c.in-Some.normal c.args.reader.stand (sym c.in-Some.ensures) (rw c.carried_type.ensures at c.in-Err.ensures.stops)
