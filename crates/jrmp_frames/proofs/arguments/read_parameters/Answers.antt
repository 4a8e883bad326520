use Rattle.jrmp_frames.specs.Messages.{wants_of}
use Rattle.jrmp_frames.proofs.Calls.{call_taken, call_breaks}
use Rattle.jrmp_frames.proofs.arguments.read_parameters.Goals as goal

pub returns-in-Ok-clause-call : goal.returns-in-Ok-clause-call
returns-in-Ok-clause-call g c = λ before head reads. call_taken head c.args.params.now c.args.reader.stand c.in-Ok.arguments reads c.in-Ok.ensures.reads

pub returns-in-Err-clause-cut : goal.returns-in-Err-clause-cut
returns-in-Err-clause-cut g c = λ before head reads. call_breaks head (wants_of c.args.params.now) c.args.reader.stand reads c.in-Err.ensures.stops
