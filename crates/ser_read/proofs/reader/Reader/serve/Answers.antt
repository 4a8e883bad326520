use Rattle.std.proofs.Common.{List}
use Rattle.class_desc.specs.declared.slot.Item.{Item}
use Rattle.ser_read.proofs.Steps.{reads_gives}
use Rattle.ser_read.proofs.Breaking.{reads_env, want_breaks_fails, want_breaks_caused}
use Rattle.ser_read.proofs.reader.Reader.serve.Goals as goal

pub returns-in-Ok-clause-env : goal.returns-in-Ok-clause-env
returns-in-Ok-clause-env g c = reads_env g.S.Source.half c.args.pull.now c.serve_all.new.pull c.in-Ok.ensures.reads c.serve_all.new.pull.within

pub returns-in-Ok-clause-gives : goal.returns-in-Ok-clause-gives
returns-in-Ok-clause-gives g c = λ none told. reads_gives g.S.Source.half c.args.pull.now c.serve_all.new.pull c.in-Ok.ensures.reads c.serve_all.new.pull.within told

pub returns-in-Err-clause-cause : goal.returns-in-Err-clause-cause
returns-in-Err-clause-cause g c = λ none. want_breaks_caused (List Item) c.in-Err.ensures.stops

pub returns-in-Err-clause-gives : goal.returns-in-Err-clause-gives
returns-in-Err-clause-gives g c = λ none told. want_breaks_fails g.S.Source.half c.args.pull.now c.serve_all.new.pull c.in-Err.fault c.in-Err.ensures.stops c.serve_all.new.pull.within told
