-- With what a server begins, and what its listener shows at the end.
use Rattle.std.specs.Prelude.{◌≡◌, ◌≤◌, ℕ, [], length, Option, IfSome}
use Rattle.mod_utf.specs.Utf.{utf}
use Rattle.wire_io.specs.Links.{Accepted, Listening}
use Rattle.wire_io.specs.Wire.{Rose}
use Rattle.wire_io.specs.declared.limits.TheConstants.{MAX_HOST_BYTES}
use Rattle.space.specs.declared.asked.Asked.{Asked}
use Rattle.turn_lock.specs.Handles.{IsFresh, opening_of}
use Rattle.turn_lock.specs.declared.handles.Root.{Root}
use Rattle.turn_lock.specs.declared.handles.TurnLock.{TurnLock}
use Rattle.conn_server.specs.Taken.{ExpectsLinks, IsEmpty, Taken}
use Rattle.conn_server.specs.Hosts.{ClosedLast, FailedSince}
use Rattle.conn_server.specs.declared.accept_loop.Stop.{Stop}
use Rattle.conn_server.specs.declared.accept_loop.Stop.TheVariants.{AcceptFault}
use Rattle.conn_server.specs.declared.plan.ServePlan.{ServePlan}
use Rattle.conn_server.specs.declared.plan.TheConstants.{MAX_LINKS}

-- A server of a count of links may begin so: the root is the lock's, from which no pass was split and which made no turn; few links are to be served;
-- references can name the plan's host; and the taker was given nothing yet, and may be given the report of each link.
abbrev pub MayServe : {C R : Type 0} → (ℕ → Accepted × Asked → R → Type 0) → (C → Taken R) → (C → R → Type 0) → TurnLock → ServePlan → Root → C → Type 0
MayServe IsLink taken expects lock plan root taker =
    IsFresh lock root × (plan.count ≤ MAX_LINKS) × (length (utf plan.host) ≤ MAX_HOST_BYTES) × IsEmpty (taken taker) × ExpectsLinks IsLink expects taker

-- A host may begin so: of any count of links, with a taker that was given no event yet. Where it hands events on, it knows the first one's place.
abbrev pub MayHost : {C R : Type 0} → (ℕ → Accepted × Asked → R → Type 0) → (C → Taken R) → (C → R → Type 0) → TurnLock → ServePlan → Root → C → Option ℕ → Type 0
MayHost IsLink taken expects lock plan root taker handed =
    IsFresh lock root × (length (utf plan.host) ≤ MAX_HOST_BYTES) × IsEmpty (taken taker) × ((taken taker).events ≡ []) × ExpectsLinks IsLink expects taker
    × IfSome handed (λ n. n ≡ length (opening_of lock).events)

-- The listener failed once at least.
abbrev pub RoseBetween : Listening → Listening → Type 0
RoseBetween before after = Rose before.faults after.faults

-- What a listener shows at the end: it failed so where it was given up, its faults are no fewer, and it listens on the same ports.
abbrev pub LeavesListener : (Listening → Listening → Type 0) → Stop → Listening → Listening → Type 0
LeavesListener Failed stop before after = (stop ≡ AcceptFault → Failed before after) × (before.faults ≤ after.faults) × (after.ports ≡ before.ports)

-- What a host's listener shows at the end, which was given up only after so many failures: the same, and it was closed last.
abbrev pub LeavesHost : {L : Type 0} → (L → Listening) → ℕ → Stop → Listening → Listening → Type 0
LeavesHost listening tries stop before after = LeavesListener (FailedSince listening tries) stop before after × ClosedLast listening before after
