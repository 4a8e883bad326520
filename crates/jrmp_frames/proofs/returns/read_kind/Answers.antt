use Rattle.ser_read.specs.Wants.{nothing_read, bytes_at}
use Rattle.ser_read.proofs.Wants.{want_then}
use Rattle.ser_read.proofs.Breaking.{want_raised, inside_later}
use Rattle.jrmp_frames.specs.Returns.{kind_at}
use Rattle.jrmp_frames.proofs.ReturnReading.{kind_moves, kind_read, byte_read}
use Rattle.jrmp_frames.proofs.returns.read_kind.Goals as goal

pub returns-in_err-bytes_into-clause-stops : goal.returns-in_err-bytes_into-clause-stops
unfolding kind_at
returns-in_err-bytes_into-clause-stops g c =
    want_raised c.from_residual-in_err-bytes_into.result c.from_residual-in_err-bytes_into.ensures.1
    (inside_later (λ end. bytes_at end 1 nothing_read) c.in_ok-reader.ensures.reads (rw c.in_ok-reader.ensures.stand at (c.in_err-bytes_into.ensures.stops c.in_ok-reader.ensures.kept)))

pub returns-clause-kept : goal.returns-clause-kept
unfolding kind_at
returns-clause-kept g c =
    let read = kind_read c.bytes_into.new.buf c.bytes_into.new.self.stand (want_then (λ end. bytes_at end 1 nothing_read) c.in_ok-reader.ensures.reads (rw c.in_ok-reader.ensures.stand at c.in_ok-bytes_into.ensures.reads)) in
    (c.in_ok-bytes_into.ensures.kept, _, read.1)

pub returns-clause-moved : goal.returns-clause-moved
unfolding kind_at
returns-clause-moved g c = kind_moves (want_then (λ end. bytes_at end 1 nothing_read) c.in_ok-reader.ensures.reads (rw c.in_ok-reader.ensures.stand at c.in_ok-bytes_into.ensures.reads))

pub returns-clause-reads : goal.returns-clause-reads
unfolding kind_at
returns-clause-reads g c = byte_read c.bytes_into.new.buf _ c.bytes_into.new.self.stand (want_then (λ end. bytes_at end 1 nothing_read) c.in_ok-reader.ensures.reads (rw c.in_ok-reader.ensures.stand at c.in_ok-bytes_into.ensures.reads))
