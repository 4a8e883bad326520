use Rattle.std.proofs.Common.{refl}
use Rattle.std.specs.Int.{w16, w32, w64}
use Rattle.ser_values.specs.declared.value.Values.TheVariants as kinds
use Rattle.stream_grammar.specs.Reading.{plain, byte_at, number_at, many_at, elements_at}
use Rattle.ser_read.specs.Signed.{signed_at, truth_at}
use Rattle.ser_read.proofs.Steps.{said}
use Rattle.ser_read.proofs.Values.{mapped_reads, mapped_stops}
use Rattle.ser_read.proofs.Breaking.{raised, breaks_said}
use Rattle.ser_read.proofs.numbers.primitives.Goals as goal

pub returns-in_ok-bytes-in-Byte-clause-reads : goal.returns-in_ok-bytes-in-Byte-clause-reads
unfolding elements_at
returns-in_ok-bytes-in-Byte-clause-reads g c = λ inner now. said (λ end bs here. rw c.in-Byte.is refl) (mapped_reads kinds.Bytes (many_at (plain byte_at) c.args.n) now c.in_ok-bytes-in-Byte.field-0 (c.in_ok-bytes-in-Byte.ensures.reads now))

pub returns-in_ok-numbers-in-Char-clause-reads : goal.returns-in_ok-numbers-in-Char-clause-reads
unfolding elements_at
returns-in_ok-numbers-in-Char-clause-reads g c = λ inner now. said (λ end bs here. rw c.in-Char.is refl) (mapped_reads kinds.Chars (many_at (plain (number_at w16)) c.args.n) now c.in_ok-numbers-in-Char.field-0 (c.in_ok-numbers-in-Char.ensures.reads now))

pub returns-in_ok-numbers-in-Double-clause-reads : goal.returns-in_ok-numbers-in-Double-clause-reads
unfolding elements_at
returns-in_ok-numbers-in-Double-clause-reads g c = λ inner now. said (λ end bs here. rw c.in-Double.is refl) (mapped_reads kinds.Doubles (many_at (plain (number_at w64)) c.args.n) now c.in_ok-numbers-in-Double.field-0 (c.in_ok-numbers-in-Double.ensures.reads now))

pub returns-in_ok-numbers-in-Float-clause-reads : goal.returns-in_ok-numbers-in-Float-clause-reads
unfolding elements_at
returns-in_ok-numbers-in-Float-clause-reads g c = λ inner now. said (λ end bs here. rw c.in-Float.is refl) (mapped_reads kinds.Floats (many_at (plain (number_at w32)) c.args.n) now c.in_ok-numbers-in-Float.field-0 (c.in_ok-numbers-in-Float.ensures.reads now))

pub returns-in_ok-numbers-in-Int-clause-reads : goal.returns-in_ok-numbers-in-Int-clause-reads
unfolding elements_at
returns-in_ok-numbers-in-Int-clause-reads g c = λ inner now. said (λ end bs here. rw c.in-Int.is refl) (mapped_reads kinds.Ints (many_at (signed_at w32) c.args.n) now c.in_ok-numbers-in-Int.field-0 (c.in_ok-numbers-in-Int.ensures.reads now))

pub returns-in_ok-numbers-in-Long-clause-reads : goal.returns-in_ok-numbers-in-Long-clause-reads
unfolding elements_at
returns-in_ok-numbers-in-Long-clause-reads g c = λ inner now. said (λ end bs here. rw c.in-Long.is refl) (mapped_reads kinds.Longs (many_at (signed_at w64) c.args.n) now c.in_ok-numbers-in-Long.field-0 (c.in_ok-numbers-in-Long.ensures.reads now))

pub returns-in_ok-numbers-in-Short-clause-reads : goal.returns-in_ok-numbers-in-Short-clause-reads
unfolding elements_at
returns-in_ok-numbers-in-Short-clause-reads g c = λ inner now. said (λ end bs here. rw c.in-Short.is refl) (mapped_reads kinds.Shorts (many_at (signed_at w16) c.args.n) now c.in_ok-numbers-in-Short.field-0 (c.in_ok-numbers-in-Short.ensures.reads now))

pub returns-in_ok-numbers-in-Boolean-clause-reads : goal.returns-in_ok-numbers-in-Boolean-clause-reads
unfolding elements_at
returns-in_ok-numbers-in-Boolean-clause-reads g c = λ inner now. said (λ end bs here. rw c.in-Boolean.is refl) (mapped_reads kinds.Bools (many_at (truth_at) c.args.n) now c.in_ok-numbers-in-Boolean.field-0 (c.in_ok-numbers-in-Boolean.ensures.reads now))

pub returns-in_err-bytes-in-Byte-clause-stops : goal.returns-in_err-bytes-in-Byte-clause-stops
unfolding elements_at
returns-in_err-bytes-in-Byte-clause-stops g c = λ inner now. raised c.from_residual.result c.from_residual.ensures.1 (breaks_said (λ end bs here. rw c.in-Byte.is refl) (mapped_stops kinds.Bytes (many_at (plain byte_at) c.args.n) now (c.in_err-bytes-in-Byte.ensures.stops now)))

pub returns-in_err-numbers-in-Char-clause-stops : goal.returns-in_err-numbers-in-Char-clause-stops
unfolding elements_at
returns-in_err-numbers-in-Char-clause-stops g c = λ inner now. raised c.from_residual-in_err-numbers-in-Char.result c.from_residual-in_err-numbers-in-Char.ensures.1 (breaks_said (λ end bs here. rw c.in-Char.is refl) (mapped_stops kinds.Chars (many_at (plain (number_at w16)) c.args.n) now (c.in_err-numbers-in-Char.ensures.stops now)))

pub returns-in_err-numbers-in-Double-clause-stops : goal.returns-in_err-numbers-in-Double-clause-stops
unfolding elements_at
returns-in_err-numbers-in-Double-clause-stops g c = λ inner now. raised c.from_residual-in_err-numbers-in-Double.result c.from_residual-in_err-numbers-in-Double.ensures.1 (breaks_said (λ end bs here. rw c.in-Double.is refl) (mapped_stops kinds.Doubles (many_at (plain (number_at w64)) c.args.n) now (c.in_err-numbers-in-Double.ensures.stops now)))

pub returns-in_err-numbers-in-Float-clause-stops : goal.returns-in_err-numbers-in-Float-clause-stops
unfolding elements_at
returns-in_err-numbers-in-Float-clause-stops g c = λ inner now. raised c.from_residual-in_err-numbers-in-Float.result c.from_residual-in_err-numbers-in-Float.ensures.1 (breaks_said (λ end bs here. rw c.in-Float.is refl) (mapped_stops kinds.Floats (many_at (plain (number_at w32)) c.args.n) now (c.in_err-numbers-in-Float.ensures.stops now)))

pub returns-in_err-numbers-in-Int-clause-stops : goal.returns-in_err-numbers-in-Int-clause-stops
unfolding elements_at
returns-in_err-numbers-in-Int-clause-stops g c = λ inner now. raised c.from_residual-in_err-numbers-in-Int.result c.from_residual-in_err-numbers-in-Int.ensures.1 (breaks_said (λ end bs here. rw c.in-Int.is refl) (mapped_stops kinds.Ints (many_at (signed_at w32) c.args.n) now (c.in_err-numbers-in-Int.ensures.stops now)))

pub returns-in_err-numbers-in-Long-clause-stops : goal.returns-in_err-numbers-in-Long-clause-stops
unfolding elements_at
returns-in_err-numbers-in-Long-clause-stops g c = λ inner now. raised c.from_residual-in_err-numbers-in-Long.result c.from_residual-in_err-numbers-in-Long.ensures.1 (breaks_said (λ end bs here. rw c.in-Long.is refl) (mapped_stops kinds.Longs (many_at (signed_at w64) c.args.n) now (c.in_err-numbers-in-Long.ensures.stops now)))

pub returns-in_err-numbers-in-Short-clause-stops : goal.returns-in_err-numbers-in-Short-clause-stops
unfolding elements_at
returns-in_err-numbers-in-Short-clause-stops g c = λ inner now. raised c.from_residual-in_err-numbers-in-Short.result c.from_residual-in_err-numbers-in-Short.ensures.1 (breaks_said (λ end bs here. rw c.in-Short.is refl) (mapped_stops kinds.Shorts (many_at (signed_at w16) c.args.n) now (c.in_err-numbers-in-Short.ensures.stops now)))

pub returns-in_err-numbers-in-Boolean-clause-stops : goal.returns-in_err-numbers-in-Boolean-clause-stops
unfolding elements_at
returns-in_err-numbers-in-Boolean-clause-stops g c = λ inner now. raised c.from_residual-in_err-numbers-in-Boolean.result c.from_residual-in_err-numbers-in-Boolean.ensures.1 (breaks_said (λ end bs here. rw c.in-Boolean.is refl) (mapped_stops kinds.Bools (many_at truth_at c.args.n) now (c.in_err-numbers-in-Boolean.ensures.stops now)))
