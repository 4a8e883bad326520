use Rattle.stream_grammar.specs.Reading.{handle_at}
use Rattle.ser_read.proofs.Breaking.{raised, first}
use Rattle.ser_read.proofs.pieces.handle.Goals as goal

pub returns-in_err-handle-clause-stops : goal.returns-in_err-handle-clause-stops
unfolding handle_at
returns-in_err-handle-clause-stops g c = raised c.from_residual.result c.from_residual.ensures.1 (first _ c.in_err-handle.ensures.stops)
