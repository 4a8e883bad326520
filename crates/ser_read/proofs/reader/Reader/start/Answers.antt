use Rattle.ser_read.proofs.Steps.{reads_gives}
use Rattle.ser_read.proofs.Breaking.{raised, reads_env, breaks_fails, fails_raised, caused_raised}
use Rattle.ser_read.proofs.reader.Reader.start.Goals as goal

pub returns-in_err-magic-clause-stops : goal.returns-in_err-magic-clause-stops
returns-in_err-magic-clause-stops g c = raised c.from_residual.result c.from_residual.ensures.1 c.in_err-magic.ensures.stops

pub returns-in_err-magic-clause-cause : goal.returns-in_err-magic-clause-cause
returns-in_err-magic-clause-cause g c = caused_raised c.from_residual.result c.from_residual.ensures.1 c.in_err-magic.ensures.stops

pub returns-in_err-magic-clause-gives : goal.returns-in_err-magic-clause-gives
returns-in_err-magic-clause-gives g c = λ told. fails_raised _ c.in_err-magic.field-0.0 _ c.from_residual.result _ c.from_residual.ensures.1 (breaks_fails g.S.Source.half c.args.pull.now c.magic.new.pull c.in_err-magic.field-0.0 c.in_err-magic.ensures.stops c.magic.new.pull.within told)

pub returns-clause-env : goal.returns-clause-env
returns-clause-env g c = reads_env g.S.Source.half c.args.pull.now c.magic.new.pull c.in_ok-magic.ensures.reads c.magic.new.pull.within

pub returns-clause-gives : goal.returns-clause-gives
returns-clause-gives g c = λ told. reads_gives g.S.Source.half c.args.pull.now c.magic.new.pull c.in_ok-magic.ensures.reads c.magic.new.pull.within told
