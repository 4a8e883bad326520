use Rattle.stream_grammar.specs.Reading.{long_at}
use Rattle.ser_read.proofs.Steps.{last}
use Rattle.ser_read.proofs.Breaking.{raised, first, later_last}
use Rattle.ser_read.proofs.pulled.long_text.Goals as goal

pub returns-in_err-n-clause-stops : goal.returns-in_err-n-clause-stops
unfolding long_at
returns-in_err-n-clause-stops g c = raised c.from_residual.result c.from_residual.ensures.1 (first _ c.in_err-n.ensures.stops)

pub returns-clause-reads : goal.returns-clause-reads
unfolding long_at
returns-clause-reads g c = last _ _ _ c.units.result c.in_ok-n.ensures.reads c.units.ensures.reads

pub returns-clause-stops : goal.returns-clause-stops
unfolding long_at
returns-clause-stops g c = later_last _ _ c.units.result c.in_ok-n.ensures.reads c.units.ensures.stops
