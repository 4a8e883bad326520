use Rattle.stream_grammar.specs.Reading.{short_at}
use Rattle.ser_read.proofs.Steps.{last}
use Rattle.ser_read.proofs.Breaking.{raised, first, later_last}
use Rattle.ser_read.proofs.pulled.short_text.Goals as goal

pub returns-in_err-n-clause-stops : goal.returns-in_err-n-clause-stops
unfolding short_at
returns-in_err-n-clause-stops g c = raised c.from_residual.result c.from_residual.ensures.1 (first _ c.in_err-n.ensures.stops)

pub returns-then-is_few-clause-reads : goal.returns-then-is_few-clause-reads
unfolding short_at
returns-then-is_few-clause-reads g c = last _ _ _ c.few_units.result c.in_ok-n.ensures.reads c.few_units.ensures.reads

pub returns-then-is_few-clause-stops : goal.returns-then-is_few-clause-stops
unfolding short_at
returns-then-is_few-clause-stops g c = later_last _ _ c.few_units.result c.in_ok-n.ensures.reads c.few_units.ensures.stops

pub returns-else-is_few-clause-reads : goal.returns-else-is_few-clause-reads
unfolding short_at
returns-else-is_few-clause-reads g c = last _ _ _ c.units.result c.in_ok-n.ensures.reads (rw c.from.ensures at c.units.ensures.reads)

pub returns-else-is_few-clause-stops : goal.returns-else-is_few-clause-stops
unfolding short_at
returns-else-is_few-clause-stops g c = later_last _ _ c.units.result c.in_ok-n.ensures.reads (rw c.from.ensures at c.units.ensures.stops)
