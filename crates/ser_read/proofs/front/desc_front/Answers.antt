use Rattle.std.proofs.Common.{◌≡◌, ◌+◌, nat_lt, true, false, refl, rules}
use Rattle.ser_read.specs.declared.fault.StreamKind.TheVariants.{NegativeLength}
use Rattle.ser_read.proofs.Steps.{then, said, done}
use Rattle.ser_read.proofs.Breaking.{raised, first, later, bad_here, breaks_said}
use Rattle.ser_read.proofs.Fronts.{count_in, front_is}
use Rattle.ser_read.proofs.front.desc_front.Goals as goal

pub returns-in_err-fill-clause-stops : goal.returns-in_err-fill-clause-stops
returns-in_err-fill-clause-stops g c = raised c.from_residual.result c.from_residual.ensures.1 (breaks_said (λ end bs here. front_is end c.args.pull.now.at bs here) (first _ c.in_err-fill.ensures.stops))

pub returns-then-fields-ge32768-clause-stops : goal.returns-then-fields-ge32768-clause-stops
returns-then-fields-ge32768-clause-stops g c =
    let great : nat_lt (count_in c.fill.new.buf) 32768 ≡ false = search rules in
    rw c.negative_length.ensures (breaks_said (λ end bs here. front_is end c.args.pull.now.at bs here) (later _ c.in_ok-fill.ensures.reads (bad_here NegativeLength (c.args.pull.now.at + 9) tt (λ end bs here. rw great refl))))

pub returns-clause-reads : goal.returns-clause-reads
returns-clause-reads g c =
    let low : nat_lt (count_in c.fill.new.buf) 32768 ≡ true = search rules in
    rw (c.from_be_bytes.ensures, c.from_be_bytes-fields.ensures) (said (λ end bs here. front_is end c.args.pull.now.at bs here) (then _ c.in_ok-fill.ensures.reads (done (λ end rest. rw low refl))))
