use Rattle.std.proofs.Common.{arith, refl}
use Rattle.jrmp_frames.specs.Frames.{header}
use Rattle.jrmp_frames.specs.declared.header.Protocol.TheVariants.{Stream}
use Rattle.call_dispatch.specs.Dialogue.{single_op}
use Rattle.call_dispatch.proofs.Going.{goes_took}
use Rattle.call_dispatch.proofs.OpeningSteps.{header_ends, stands_single, refusal_ends}
use Rattle.call_dispatch.proofs.opening.open_connection.Goals as goal

pub open_stream-requires-clause-at : goal.open_stream-requires-clause-at
open_stream-requires-clause-at g c = let takes = rw c.in-Ok-Stream.field-0-is at c.in-Ok-Stream.ensures.gives in omega (arith, takes.at, c.requires.at)

pub returns-in-Ok-Stream-clause-opens : goal.returns-in-Ok-Stream-clause-opens
returns-in-Ok-Stream-clause-opens g c =
    let takes = rw c.in-Ok-Stream.field-0-is at c.in-Ok-Stream.ensures.gives in
    c.open_stream.ensures.opens _ (goes_took _ _ _ _ (header Stream) takes.left refl refl refl)

pub returns-in-Ok-SingleOp-clause-opens : goal.returns-in-Ok-SingleOp-clause-opens
returns-in-Ok-SingleOp-clause-opens g c =
    let takes = rw c.in-Ok-SingleOp.field-0-is at c.in-Ok-SingleOp.ensures.gives in
    (single_op, refl, omega (arith, takes.at, c.requires.at), omega arith, stands_single _ _ _ _ _ _ _ _ c.requires.at takes)

pub returns-in_default-clause-opens : goal.returns-in_default-clause-opens
returns-in_default-clause-opens g c =
    rw c.end_of.ensures (header_ends _ _ _ _ _ _ _ _ c.in-Err.fault c.requires.at c.requires.stop c.in_default.not-UnknownProtocol c.in-Err.ensures.gives)

pub returns-in-UnknownProtocol-clause-opens : goal.returns-in-UnknownProtocol-clause-opens
returns-in-UnknownProtocol-clause-opens g c =
    refusal_ends _ _ _ _ _ _ _ _ _ c.in-UnknownProtocol.byte _ c.requires.at (rw c.in-UnknownProtocol.is at c.in-Err.ensures.gives) c.refuse.ensures.refuses
