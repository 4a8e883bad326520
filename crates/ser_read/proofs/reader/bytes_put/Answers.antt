use Rattle.ser_read.specs.Wants.{bytes_at}
use Rattle.ser_read.proofs.Breaking.{want_raised, want_first, want_took}
use Rattle.ser_read.proofs.reader.bytes_put.Goals as goal

pub returns-in_err-run_into-clause-stops : goal.returns-in_err-run_into-clause-stops
unfolding bytes_at
returns-in_err-run_into-clause-stops g c = want_raised c.from_residual.result c.from_residual.ensures.1 (want_first _ c.in_err-run_into.ensures.stops)

pub returns-in_err-copy-clause-stops : goal.returns-in_err-copy-clause-stops
unfolding bytes_at
returns-in_err-copy-clause-stops g c = want_raised c.from_residual-in_err-copy.result c.from_residual-in_err-copy.ensures.1 (want_first _ (want_took c.in_ok-run_into.ensures.reads))

pub returns-in_err-add-clause-stops : goal.returns-in_err-add-clause-stops
unfolding bytes_at
returns-in_err-add-clause-stops g c = want_raised c.from_residual-in_err-add.result c.from_residual-in_err-add.ensures.1 (want_first _ (want_took c.in_ok-run_into.ensures.reads))
