use Rattle.ser_read.proofs.Steps.{last, said_last}
use Rattle.ser_read.proofs.Heads.{magic_four}
use Rattle.ser_read.proofs.Breaking.{raised, breaks_said, breaks_said_last, first, later, later_last}
use Rattle.ser_read.proofs.header.magic.Goals as goal

pub returns-clause-reads : goal.returns-clause-reads
returns-clause-reads g c =
    said_last _ _ _ c.magic_byte-4.result (λ end bs here. magic_four end bs)
    (last _ _ _ c.magic_byte-4.result c.in_ok-magic_byte.ensures.reads
    (last _ _ _ c.magic_byte-4.result c.in_ok-magic_byte-2.ensures.reads
    (last _ _ _ c.magic_byte-4.result c.in_ok-magic_byte-3.ensures.reads c.magic_byte-4.ensures.reads)))

pub returns-clause-stops : goal.returns-clause-stops
returns-clause-stops g c =
    breaks_said_last _ _ c.magic_byte-4.result (λ end bs here. magic_four end bs)
    (later_last _ _ c.magic_byte-4.result c.in_ok-magic_byte.ensures.reads
    (later_last _ _ c.magic_byte-4.result c.in_ok-magic_byte-2.ensures.reads
    (later_last _ _ c.magic_byte-4.result c.in_ok-magic_byte-3.ensures.reads c.magic_byte-4.ensures.stops)))

pub returns-in_err-magic_byte-clause-stops : goal.returns-in_err-magic_byte-clause-stops
returns-in_err-magic_byte-clause-stops g c = raised c.from_residual.result c.from_residual.ensures.1 (breaks_said (λ end bs here. magic_four end bs) (first _ c.in_err-magic_byte.ensures.stops))

pub returns-in_err-magic_byte-2-clause-stops : goal.returns-in_err-magic_byte-2-clause-stops
returns-in_err-magic_byte-2-clause-stops g c = raised c.from_residual-in_err-magic_byte-2.result c.from_residual-in_err-magic_byte-2.ensures.1 (breaks_said (λ end bs here. magic_four end bs) (later _ c.in_ok-magic_byte.ensures.reads (first _ c.in_err-magic_byte-2.ensures.stops)))

pub returns-in_err-magic_byte-3-clause-stops : goal.returns-in_err-magic_byte-3-clause-stops
returns-in_err-magic_byte-3-clause-stops g c = raised c.from_residual-in_err-magic_byte-3.result c.from_residual-in_err-magic_byte-3.ensures.1 (breaks_said (λ end bs here. magic_four end bs) (later _ c.in_ok-magic_byte.ensures.reads (later _ c.in_ok-magic_byte-2.ensures.reads (first _ c.in_err-magic_byte-3.ensures.stops))))
