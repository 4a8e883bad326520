use Rattle.journal.specs.Written.{further_kind}
use Rattle.journal.proofs.Fronts.{on_err, front_at_copy}
use Rattle.journal.proofs.listed.put_further_kinds.Goals as goal

pub returns-in_err-put_further_kind-clause-err : goal.returns-in_err-put_further_kind-clause-err
returns-in_err-put_further_kind-clause-err c = on_err c.from_residual.result
    (front_at_copy further_kind c.args.out.now c.args.kinds.now c.loop-kind.kind-index c.loop-kind.out c.put_further_kind.new.out _
    c.loop-kind-test.true c.loop-kind.invariant.0 (c.in_err-put_further_kind.ensures {u = tt}).err)
