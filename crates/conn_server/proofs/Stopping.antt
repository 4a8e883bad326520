-- Why the accepting stops, by whether the listener failed.
use Rattle.std.proofs.Common.{◌≡◌, ◌⊎◌, ◌+◌, ℕ, List, inl, inr, refl, arith}
use Rattle.wire_io.specs.Links.{Accepted}
use Rattle.wire_io.specs.Wire.{Rose}
use Rattle.conn_server.specs.Hosts.{FailedTimes}
use Rattle.conn_server.specs.Stops.{Stopped}
use Rattle.conn_server.specs.declared.accept_loop.Stop.{Stop}
use Rattle.conn_server.specs.declared.accept_loop.Stop.TheVariants.{All, AcceptFault, Told, OutOfMemory}
use Rattle.conn_server.specs.declared.host_loop.TheConstants.{MAX_IDLE_TRIES}

pub stops_without_fault : (stop : Stop) (count served : ℕ) (lost : List Accepted) → Stopped stop count served lost → (¬ (stop ≡ AcceptFault)) → (stop ≡ All) ⊎ (stop ≡ OutOfMemory)
stops_without_fault All count served lost is none = inl refl
stops_without_fault AcceptFault count served lost is none = absurd (none refl)
stops_without_fault OutOfMemory count served lost is none = inr refl
stops_without_fault Told count served lost is none = absurd is

-- The same of a server that stops where its listener is told to, too.
pub host_without_fault : (stop : Stop) → (¬ (stop ≡ AcceptFault)) → (stop ≡ Told) ⊎ ((stop ≡ All) ⊎ (stop ≡ OutOfMemory))
host_without_fault All none = inr (inl refl)
host_without_fault AcceptFault none = absurd (none refl)
host_without_fault OutOfMemory none = inr (inr refl)
host_without_fault Told none = inl refl

-- A listener that failed more often than a host asks it again, failed.
pub failed_rose : (old new : ℕ) → FailedTimes (MAX_IDLE_TRIES + 1) old new → Rose old new
failed_rose old new is = let failed = is.1 in (is.0, omega (arith, failed))
