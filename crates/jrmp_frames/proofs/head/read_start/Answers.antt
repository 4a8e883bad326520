use Rattle.ser_read.specs.Wants.{nothing_read, bytes_at}
use Rattle.ser_read.proofs.Wants.{want_then}
use Rattle.ser_read.proofs.Breaking.{want_raised, inside_later}
use Rattle.jrmp_frames.specs.Calls.{head_at}
use Rattle.jrmp_frames.proofs.head.read_start.Goals as goal

pub returns-in_err-bytes_into-clause-stops : goal.returns-in_err-bytes_into-clause-stops
unfolding head_at
returns-in_err-bytes_into-clause-stops g c =
    want_raised c.from_residual-in_err-bytes_into.result c.from_residual-in_err-bytes_into.ensures.1
    (inside_later (λ end. bytes_at end 34 nothing_read) c.in_ok-reader.ensures.reads (rw (c.in_ok-reader.ensures.stand, c.requires) at (c.in_err-bytes_into.ensures.stops c.in_ok-reader.ensures.kept)))

pub returns-clause-reads : goal.returns-clause-reads
unfolding head_at
returns-clause-reads g c = want_then (λ end. bytes_at end 34 nothing_read) c.in_ok-reader.ensures.reads (rw (c.in_ok-reader.ensures.stand, c.requires) at c.in_ok-bytes_into.ensures.reads)
