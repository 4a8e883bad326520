use Rattle.std.proofs.Common.{Some, None, length, ap, arith}
use Rattle.std.proofs.lemmas.Result.{err_from_is_err_and}
use Rattle.call_dispatch.proofs.CallSteps.{sends_cut, sends_whole}
use Rattle.call_dispatch.proofs.messages.send.Goals as goal

pub returns-in_err-after-clause-sends : goal.returns-in_err-after-clause-sends
returns-in_err-after-clause-sends g c =
    let p = err_from_is_err_and c.from_residual.result c.from_residual.ensures.1 in
    rw (p.1, p.2) (sends_cut _ _ _ _ _ c.args.answer _ (rw c.as_slice.ensures at c.in_err-after.ensures.writes) c.in_err-after.ensures.write_fault c.in_err-after.ensures.sink_faults)

pub returns-in-Some-clause-sends : goal.returns-in-Some-clause-sends
returns-in-Some-clause-sends g c = sends_whole _ _ _ _ _ _ c.args.answer (Some c.in-Some.end) (rw c.as_slice.ensures at c.in_ok-after.ensures.writes) c.in_ok-after.ensures.sink_faults c.in-Some.is

pub returns-clause-sends : goal.returns-clause-sends
returns-clause-sends g c = sends_whole _ _ _ _ _ _ c.args.answer None (rw c.as_slice.ensures at c.in_ok-after.ensures.writes) c.in_ok-after.ensures.sink_faults c.in-None.is

pub returns-clause-most : goal.returns-clause-most
returns-clause-most g c = omega (arith, c.in_ok-after.ensures.writes.1, ap length c.as_slice.ensures, c.requires.short)
