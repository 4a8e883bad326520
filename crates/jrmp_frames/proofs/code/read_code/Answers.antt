use Rattle.std.proofs.Common.{refl}
use Rattle.jrmp_frames.proofs.Reading.{stops_in, stops_at_once, not_truncated}
use Rattle.jrmp_frames.proofs.code.read_code.Goals as goal

pub returns-in_default-clause-gives : goal.returns-in_default-clause-gives
returns-in_default-clause-gives g c = rw c.into.ensures (not_truncated _ c.in_default.not-End, stops_in _ _ _ _ (stops_at_once _ _ _ _ refl c.in-Err.ensures.gives))
