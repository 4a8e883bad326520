use Rattle.jrmp_frames.proofs.ReturnReading.{return_first, reads_of, breaks_of, caused_of, gives_of}
use Rattle.jrmp_frames.proofs.ReturnLaws.{taken_of}
use Rattle.ser_read.proofs.Breaking.{want_breaks_fails}
use Rattle.jrmp_frames.proofs.returns.read_return.Goals as goal

pub returns-in-Ok-clause-reads : goal.returns-in-Ok-clause-reads
returns-in-Ok-clause-reads g c = reads_of _ c.args.result_type c.in-Ok.start.0 c.in-Ok.start.1.stand c.read_behind.result c.in-Ok.ensures.reads c.read_behind.ensures.reads

pub returns-in-Ok-clause-message : goal.returns-in-Ok-clause-message
returns-in-Ok-clause-message g c = taken_of _ _ c.args.result_type c.read_behind.result (reads_of _ c.args.result_type c.in-Ok.start.0 c.in-Ok.start.1.stand c.read_behind.result c.in-Ok.ensures.reads c.read_behind.ensures.reads)

pub returns-in-Ok-clause-stops : goal.returns-in-Ok-clause-stops
returns-in-Ok-clause-stops g c = breaks_of _ c.args.result_type c.in-Ok.start.0 c.in-Ok.start.1.stand c.read_behind.result c.in-Ok.ensures.reads c.read_behind.ensures.stops

pub returns-in-Ok-clause-gives : goal.returns-in-Ok-clause-gives
returns-in-Ok-clause-gives g c =
    gives_of g.S.Source.half c.args.pull.now c.read_behind.new.pull c.args.result_type c.read_behind.result c.read_behind.new.pull.within
    (reads_of _ c.args.result_type c.in-Ok.start.0 c.in-Ok.start.1.stand c.read_behind.result c.in-Ok.ensures.reads c.read_behind.ensures.reads)
    (breaks_of _ c.args.result_type c.in-Ok.start.0 c.in-Ok.start.1.stand c.read_behind.result c.in-Ok.ensures.reads c.read_behind.ensures.stops)

pub returns-in-Ok-clause-cause : goal.returns-in-Ok-clause-cause
returns-in-Ok-clause-cause g c =
    caused_of _ _ c.args.result_type c.read_behind.result
    (reads_of _ c.args.result_type c.in-Ok.start.0 c.in-Ok.start.1.stand c.read_behind.result c.in-Ok.ensures.reads c.read_behind.ensures.reads)
    (breaks_of _ c.args.result_type c.in-Ok.start.0 c.in-Ok.start.1.stand c.read_behind.result c.in-Ok.ensures.reads c.read_behind.ensures.stops)

pub returns-in-Err-clause-stops : goal.returns-in-Err-clause-stops
returns-in-Err-clause-stops g c = return_first c.args.result_type c.in-Err.ensures.stops

pub returns-in-Err-clause-gives : goal.returns-in-Err-clause-gives
returns-in-Err-clause-gives g c = λ told. want_breaks_fails g.S.Source.half c.args.pull.now c.read_kind.new.pull c.in-Err.fault (return_first c.args.result_type c.in-Err.ensures.stops) c.read_kind.new.pull.within told
