use Rattle.std.proofs.Common.{refl}
use Rattle.ser_read.proofs.Steps.{done, then}
use Rattle.ser_read.proofs.Slots.{otherwise}
use Rattle.ser_read.proofs.Breaking.{raised, first, later, many_here}
use Rattle.ser_read.proofs.reader.counted.Goals as goal

pub returns-clause-reads : goal.returns-clause-reads
returns-clause-reads g c = then _ (rw c.requires.read at c.in_ok-slot.ensures.reads) (otherwise _ c.in_ok-count_parts.ensures.room (done (λ end bs. rw c.in_ok-count_parts.ensures.ok refl)))

pub returns-in_err-slot-clause-stops : goal.returns-in_err-slot-clause-stops
returns-in_err-slot-clause-stops g c = raised c.from_residual.result c.from_residual.ensures.1 (first _ (rw c.requires.read at c.in_err-slot.ensures.stops))

pub returns-in_err-count_parts-clause-stops : goal.returns-in_err-count_parts-clause-stops
returns-in_err-count_parts-clause-stops g c = raised c.from_residual-in_err-count_parts.result c.from_residual-in_err-count_parts.ensures.1
    (later _ (rw c.requires.read at c.in_ok-slot.ensures.reads) (rw c.in_err-count_parts.ensures.err.0 (many_here c.args.at (λ end bs here. rw c.in_err-count_parts.ensures.err.1 refl))))
