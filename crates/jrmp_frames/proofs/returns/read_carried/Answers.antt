use Rattle.ser_read.proofs.Breaking.{want_raised}
use Rattle.jrmp_frames.proofs.ReturnReading.{nothing_carried, one_carried, one_breaks}
use Rattle.jrmp_frames.proofs.returns.read_carried.Goals as goal

pub returns-in-None-clause-reads : goal.returns-in-None-clause-reads
returns-in-None-clause-reads g c = rw c.in-None.is (nothing_carried _ c.args.reader.now.stand)

pub returns-in_err-arg-in-Some-clause-stops : goal.returns-in_err-arg-in-Some-clause-stops
returns-in_err-arg-in-Some-clause-stops g c = rw c.in-Some.is (want_raised c.from_residual.result c.from_residual.ensures.1 (one_breaks c.args.reader.now.stand c.in-Some.code c.in_err-arg-in-Some.ensures.stops))

pub returns-in_ok-arg-in-Some-clause-reads : goal.returns-in_ok-arg-in-Some-clause-reads
returns-in_ok-arg-in-Some-clause-reads g c =
    let read = c.in_ok-arg-in-Some.ensures.reads in
    rw c.in-Some.is (one_carried c.args.reader.now.stand c.read_arg.new.reader.stand c.in-Some.code read.answer c.in_ok-arg-in-Some.arg read.reads read.value)
