use Rattle.history.specs.Texts.{unit_text}
use Rattle.journal.proofs.Fronts.{on_err, front_of_all}
use Rattle.journal.proofs.put.put_units.Goals as goal

pub returns-in_err-put_unit-clause-err : goal.returns-in_err-put_unit-clause-err
returns-in_err-put_unit-clause-err c = on_err c.from_residual.result
    (front_of_all unit_text c.args.out.now c.args.units.now c.loop-unit.unit-index c.loop-unit.out c.put_unit.new.out c.loop-unit.invariant.0 (c.in_err-put_unit.ensures {u = tt}).err)
