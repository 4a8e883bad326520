use Rattle.system_objects.proofs.FixedReturns.{reference_is}
use Rattle.system_objects.proofs.fixed_returns.reference_bytes.Goals as goal

pub returns : goal.returns
returns c = reference_is c.args.uid c.args.interface.now _ _ (rw (c.as_slice.ensures, c.in_ok-note.ensures) at c.in_ok-bytes.ensures)
