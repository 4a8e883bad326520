use Rattle.std.proofs.Common.{refl, rules, FitsSigned}
use Rattle.std.proofs.lemmas.Int.{to_z-of_z}
use Rattle.std.specs.Int.{w16, w32, w64, cast_signed}
use Rattle.ser_values.specs.declared.value.Value.TheVariants as values
use Rattle.stream_grammar.specs.Reading.{plain, byte_at, number_at, is_true, value_at}
use Rattle.ser_read.specs.Signed.{signed_at, truth_at}
use Rattle.ser_read.proofs.Steps.{said}
use Rattle.ser_read.proofs.Values.{twice, mapped_reads, mapped_stops}
use Rattle.ser_read.proofs.Breaking.{raised, breaks_said}
use Rattle.ser_read.proofs.numbers.primitive.Goals as goal

pub returns-in_ok-pull-in-Byte-clause-reads : goal.returns-in_ok-pull-in-Byte-clause-reads
unfolding value_at
returns-in_ok-pull-in-Byte-clause-reads g c = λ inner now. said (λ end bs here. rw c.in-Byte.is refl) (mapped_reads values.Byte (plain byte_at) now c.in_ok-pull-in-Byte.field-0 (c.in_ok-pull-in-Byte.ensures.reads now))

pub returns-in_ok-pull-in-Char-clause-reads : goal.returns-in_ok-pull-in-Char-clause-reads
unfolding value_at
returns-in_ok-pull-in-Char-clause-reads g c = λ inner now. said (λ end bs here. rw c.in-Char.is refl) (mapped_reads values.Char (plain (number_at w16)) now c.in_ok-pull-in-Char.field-0 (c.in_ok-pull-in-Char.ensures.reads now))

pub returns-in_ok-pull-in-Double-clause-reads : goal.returns-in_ok-pull-in-Double-clause-reads
unfolding value_at
returns-in_ok-pull-in-Double-clause-reads g c = λ inner now. said (λ end bs here. rw c.in-Double.is refl) (mapped_reads values.Double (plain (number_at w64)) now c.in_ok-pull-in-Double.field-0 (c.in_ok-pull-in-Double.ensures.reads now))

pub returns-in_ok-pull-in-Float-clause-reads : goal.returns-in_ok-pull-in-Float-clause-reads
unfolding value_at
returns-in_ok-pull-in-Float-clause-reads g c = λ inner now. said (λ end bs here. rw c.in-Float.is refl) (mapped_reads values.Float (plain (number_at w32)) now c.in_ok-pull-in-Float.field-0 (c.in_ok-pull-in-Float.ensures.reads now))

pub returns-in_ok-pull-in-Int-clause-reads : goal.returns-in_ok-pull-in-Int-clause-reads
unfolding value_at
returns-in_ok-pull-in-Int-clause-reads g c = λ inner now.
    let fits : FitsSigned w32 c.in_ok-pull-in-Int.field-0 = search rules in
    rw (to_z-of_z w32 c.in_ok-pull-in-Int.field-0 fits) (said (λ end bs here. rw c.in-Int.is (twice values.Int (λ k. cast_signed w32 k) (plain (number_at w32)) now bs)) (mapped_reads values.Int (signed_at w32) now c.in_ok-pull-in-Int.field-0 (c.in_ok-pull-in-Int.ensures.reads now)))

pub returns-in_ok-pull-in-Long-clause-reads : goal.returns-in_ok-pull-in-Long-clause-reads
unfolding value_at
returns-in_ok-pull-in-Long-clause-reads g c = λ inner now.
    let fits : FitsSigned w64 c.in_ok-pull-in-Long.field-0 = search rules in
    rw (to_z-of_z w64 c.in_ok-pull-in-Long.field-0 fits) (said (λ end bs here. rw c.in-Long.is (twice values.Long (λ k. cast_signed w64 k) (plain (number_at w64)) now bs)) (mapped_reads values.Long (signed_at w64) now c.in_ok-pull-in-Long.field-0 (c.in_ok-pull-in-Long.ensures.reads now)))

pub returns-in_ok-pull-in-Short-clause-reads : goal.returns-in_ok-pull-in-Short-clause-reads
unfolding value_at
returns-in_ok-pull-in-Short-clause-reads g c = λ inner now.
    let fits : FitsSigned w16 c.in_ok-pull-in-Short.field-0 = search rules in
    rw (to_z-of_z w16 c.in_ok-pull-in-Short.field-0 fits) (said (λ end bs here. rw c.in-Short.is (twice values.Short (λ k. cast_signed w16 k) (plain (number_at w16)) now bs)) (mapped_reads values.Short (signed_at w16) now c.in_ok-pull-in-Short.field-0 (c.in_ok-pull-in-Short.ensures.reads now)))

pub returns-in_ok-pull-in-Boolean-clause-reads : goal.returns-in_ok-pull-in-Boolean-clause-reads
unfolding value_at
returns-in_ok-pull-in-Boolean-clause-reads g c = λ inner now. said (λ end bs here. rw c.in-Boolean.is (twice values.Boolean is_true (plain byte_at) now bs)) (mapped_reads values.Boolean (truth_at) now c.in_ok-pull-in-Boolean.field-0 (c.in_ok-pull-in-Boolean.ensures.reads now))

pub returns-in_err-pull-in-Byte-clause-stops : goal.returns-in_err-pull-in-Byte-clause-stops
unfolding value_at
returns-in_err-pull-in-Byte-clause-stops g c = λ inner now. raised c.from_residual.result c.from_residual.ensures.1 (breaks_said (λ end bs here. rw c.in-Byte.is refl) (mapped_stops values.Byte (plain byte_at) now (c.in_err-pull-in-Byte.ensures.stops now)))

pub returns-in_err-pull-in-Char-clause-stops : goal.returns-in_err-pull-in-Char-clause-stops
unfolding value_at
returns-in_err-pull-in-Char-clause-stops g c = λ inner now. raised c.from_residual-in_err-pull-in-Char.result c.from_residual-in_err-pull-in-Char.ensures.1 (breaks_said (λ end bs here. rw c.in-Char.is refl) (mapped_stops values.Char (plain (number_at w16)) now (c.in_err-pull-in-Char.ensures.stops now)))

pub returns-in_err-pull-in-Double-clause-stops : goal.returns-in_err-pull-in-Double-clause-stops
unfolding value_at
returns-in_err-pull-in-Double-clause-stops g c = λ inner now. raised c.from_residual-in_err-pull-in-Double.result c.from_residual-in_err-pull-in-Double.ensures.1 (breaks_said (λ end bs here. rw c.in-Double.is refl) (mapped_stops values.Double (plain (number_at w64)) now (c.in_err-pull-in-Double.ensures.stops now)))

pub returns-in_err-pull-in-Float-clause-stops : goal.returns-in_err-pull-in-Float-clause-stops
unfolding value_at
returns-in_err-pull-in-Float-clause-stops g c = λ inner now. raised c.from_residual-in_err-pull-in-Float.result c.from_residual-in_err-pull-in-Float.ensures.1 (breaks_said (λ end bs here. rw c.in-Float.is refl) (mapped_stops values.Float (plain (number_at w32)) now (c.in_err-pull-in-Float.ensures.stops now)))

pub returns-in_err-pull-in-Int-clause-stops : goal.returns-in_err-pull-in-Int-clause-stops
unfolding value_at
returns-in_err-pull-in-Int-clause-stops g c = λ inner now. raised c.from_residual-in_err-pull-in-Int.result c.from_residual-in_err-pull-in-Int.ensures.1 (breaks_said (λ end bs here. rw c.in-Int.is (twice values.Int (λ k. cast_signed w32 k) (plain (number_at w32)) now bs)) (mapped_stops values.Int (signed_at w32) now (c.in_err-pull-in-Int.ensures.stops now)))

pub returns-in_err-pull-in-Long-clause-stops : goal.returns-in_err-pull-in-Long-clause-stops
unfolding value_at
returns-in_err-pull-in-Long-clause-stops g c = λ inner now. raised c.from_residual-in_err-pull-in-Long.result c.from_residual-in_err-pull-in-Long.ensures.1 (breaks_said (λ end bs here. rw c.in-Long.is (twice values.Long (λ k. cast_signed w64 k) (plain (number_at w64)) now bs)) (mapped_stops values.Long (signed_at w64) now (c.in_err-pull-in-Long.ensures.stops now)))

pub returns-in_err-pull-in-Short-clause-stops : goal.returns-in_err-pull-in-Short-clause-stops
unfolding value_at
returns-in_err-pull-in-Short-clause-stops g c = λ inner now. raised c.from_residual-in_err-pull-in-Short.result c.from_residual-in_err-pull-in-Short.ensures.1 (breaks_said (λ end bs here. rw c.in-Short.is (twice values.Short (λ k. cast_signed w16 k) (plain (number_at w16)) now bs)) (mapped_stops values.Short (signed_at w16) now (c.in_err-pull-in-Short.ensures.stops now)))

pub returns-in_err-pull-in-Boolean-clause-stops : goal.returns-in_err-pull-in-Boolean-clause-stops
unfolding value_at
returns-in_err-pull-in-Boolean-clause-stops g c = λ inner now. raised c.from_residual-in_err-pull-in-Boolean.result c.from_residual-in_err-pull-in-Boolean.ensures.1 (breaks_said (λ end bs here. rw c.in-Boolean.is (twice values.Boolean is_true (plain byte_at) now bs)) (mapped_stops values.Boolean truth_at now (c.in_err-pull-in-Boolean.ensures.stops now)))
