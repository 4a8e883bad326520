use Rattle.journal.specs.Written.{further_object}
use Rattle.journal.proofs.Fronts.{on_err, front_at_copy}
use Rattle.journal.proofs.listed.put_further_objects.Goals as goal

pub returns-in_err-put_further_object-clause-err : goal.returns-in_err-put_further_object-clause-err
returns-in_err-put_further_object-clause-err c = on_err c.from_residual.result
    (front_at_copy (further_object c.args.space) c.args.out.now c.args.objects.now c.loop-object.object-index c.loop-object.out c.put_further_object.new.out _
    c.loop-object-test.true c.loop-object.invariant.0 (c.in_err-put_further_object.ensures {u = tt}).err)
