use Rattle.std.proofs.Common.{◌≡◌, ◌-◌, length, [], Err, refl, ap, arith}
use Rattle.ser_read.specs.declared.fault.StreamKind.TheVariants.{BlockLeft}
use Rattle.ser_read.specs.Tables.{now_of}
use Rattle.ser_read.specs.Wants.{block_left, counted_at, reference_at, only_slot}
use Rattle.ser_read.proofs.Wants.{want_last}
use Rattle.ser_read.proofs.Breaking.{want_raised, inside_first, inside_later, want_here, want_last_stops}
use Rattle.ser_read.proofs.reader.reference.Goals as goal

pub returns-in-Code-clause-reads : goal.returns-in-Code-clause-reads
unfolding reference_at
returns-in-Code-clause-reads g c =
    want_last _ (λ end. only_slot end (now_of c.args.table.now)) (λ end. counted_at end c.in-Code.at c.in-Code.code (now_of c.args.table.now)) _ c.counted.result
    (rw c.in-Code.is at c.in_ok-next_head.ensures.reads) (λ end bs. refl) c.counted.ensures.reads

pub returns-in_err-next_head-clause-stops : goal.returns-in_err-next_head-clause-stops
unfolding reference_at
returns-in_err-next_head-clause-stops g c = want_raised c.from_residual.result c.from_residual.ensures.1 (inside_first _ c.in_err-next_head.ensures.stops)

pub returns-in-Block-clause-stops : goal.returns-in-Block-clause-stops
unfolding reference_at
returns-in-Block-clause-stops g c = rw c.bad.ensures (inside_later (λ end. only_slot end (now_of c.args.table.now)) (rw c.in-Block.is at c.in_ok-next_head.ensures.reads) (want_here BlockLeft c.next_head.new.pull.at (λ end bs here.
    let at : end - length bs ≡ c.next_head.new.pull.at = omega (arith, here) in ap (λ n. Err (block_left n)) at)))

pub returns-in-Code-clause-stops : goal.returns-in-Code-clause-stops
unfolding reference_at
returns-in-Code-clause-stops g c =
    want_last_stops _ (λ end. only_slot end (now_of c.args.table.now)) (λ end. counted_at end c.in-Code.at c.in-Code.code (now_of c.args.table.now)) c.counted.result
    (rw c.in-Code.is at c.in_ok-next_head.ensures.reads) (λ end bs. refl) c.counted.ensures.stops
