use Rattle.ser_read.proofs.Breaking.{raised}
use Rattle.ser_read.proofs.Stopping.{units_stop_by, front_long}
use Rattle.ser_read.proofs.pulled.few_units.Goals as goal

pub returns-in_err-fill-clause-stops : goal.returns-in_err-fill-clause-stops
returns-in_err-fill-clause-stops g c = raised c.from_residual.result c.from_residual.ensures.1 (units_stop_by c.args.n c.in_err-fill.ensures.stops (front_long c.args.n _ _ c.from.ensures c.requires))
