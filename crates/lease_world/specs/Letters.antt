-- Lease calls that were sent, with what their deliveries were granted.
use Rattle.std.specs.Prelude.{ℕ, Option}
use Rattle.lease_world.specs.declared.sent_call.SentCall.{SentCall}

-- A sent call, and the duration that its last delivery was granted, if it was delivered.
pub record Letter : Type 0 where
  pub call : SentCall
  pub granted : Option ℕ
