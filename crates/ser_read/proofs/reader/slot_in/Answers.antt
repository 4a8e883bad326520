use Rattle.std.proofs.Common.{arith}
use Rattle.ser_read.specs.ReaderStand.{stand_of}
use Rattle.ser_read.proofs.Slots.{slot_none}
use Rattle.ser_read.proofs.Breaking.{want_raised, want_said, want_first, want_took}
use Rattle.ser_read.proofs.reader.slot_in.Goals as goal

pub returns-in_err-slot-clause-stops : goal.returns-in_err-slot-clause-stops
returns-in_err-slot-clause-stops g c = want_raised c.from_residual.result c.from_residual.ensures.1 (want_said (λ end bs here. slot_none end (stand_of c.args.stand.now) bs (omega arith)) (want_first _ c.in_err-slot.ensures.stops))

pub returns-in_err-push-clause-stops : goal.returns-in_err-push-clause-stops
returns-in_err-push-clause-stops g c = want_raised c.from_residual-in_err-push.result c.from_residual-in_err-push.ensures.1 (want_said (λ end bs here. slot_none end (stand_of c.args.stand.now) bs (omega arith)) (want_first _ (want_took c.in_ok-slot.ensures.reads)))
