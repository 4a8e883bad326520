-- What holds of a server that runs until its listener is told to stop.
use Rattle.std.specs.Prelude.{◌≡◌, ◌≢◌, ◌<◌, ◌≤◌, ◌+◌, ◌-◌, ◌^◌, ◌↔◌, min, ℕ, IsTrue, true, false, List, [], ◌++◌, length, Option, Some, None}
use Rattle.std.specs.List.Sorted.{IsPermutation}
use Rattle.wire_io.specs.Links.{Accepted, IsClosedLike, Listening}
use Rattle.wire_io.specs.Wire.{ReadHalf, WriteHalf}
use Rattle.history.specs.Steps.{IsLegal}
use Rattle.space.specs.Built.{SpaceHistory}
use Rattle.space.specs.EventLists.{CollectsEach}
use Rattle.space.specs.declared.asked.Asked.{Asked}
use Rattle.turn_lock.specs.Handles.{opening_of, view_of}
use Rattle.turn_lock.specs.Rule.{StartsWith}
use Rattle.turn_lock.specs.declared.handles.TurnLock.{TurnLock}
use Rattle.call_dispatch.specs.Acts.{WorkerState, Call, States}
use Rattle.call_dispatch.specs.declared.outcome.Invocation.{Invocation}
use Rattle.call_dispatch.specs.declared.outcome.Outcome.{Outcome}
use Rattle.system_objects.specs.declared.book.Kind.{Kind}
use Rattle.conn_server.specs.Accepts.{IsAccepting, shown_all, links_of, ticks_of, with_all}
use Rattle.conn_server.specs.Taken.{Taken}
use Rattle.conn_server.specs.Handed.{AreHanded}
use Rattle.conn_server.specs.Made.{IsMadeFor}
use Rattle.conn_server.specs.Quiet.{TicksQuietly}
use Rattle.conn_server.specs.Reports.{AreTurnsOf, IsAllJoined, IsReportOf, events_after}
use Rattle.conn_server.specs.Rows.{Paired}
use Rattle.conn_server.specs.Stops.{HostStopped, AreGivenBack, IsLostLink}
use Rattle.conn_server.specs.Talks.{TalksOver}
use Rattle.conn_server.specs.declared.accept_loop.Stop.TheVariants.{AcceptFault, Told}
use Rattle.conn_server.specs.declared.admission.Acceptor.{Acceptor}
use Rattle.conn_server.specs.declared.admission.LostLink.{LostLink}
use Rattle.conn_server.specs.declared.host_loop.Halt.{Halt}
use Rattle.conn_server.specs.declared.host_loop.TheConstants.{MAX_IDLE_TRIES}
use Rattle.conn_server.specs.declared.link_task.LinkReport.{LinkReport}
use Rattle.conn_server.specs.declared.plan.ServePlan.{ServePlan}
use Rattle.conn_server.specs.declared.quiet_second.OwnHand.{OwnHand}
use Rattle.conn_server.specs.declared.server.Hosted.{Hosted}
use Rattle.conn_server.specs.declared.server.HostJoined.{HostJoined}

-- A listener failed at least so many times: its count of faults rose by so many, or stands at the greatest u64, where it stays.
abbrev pub FailedTimes : ℕ → ℕ → ℕ → Type 0
FailedTimes tries old new = (old ≤ new) × (min (old + tries) (2 ^ 64 - 1) ≤ new)

-- A listener told `first` once and tells `last` now. Since its last answer it failed at least so many times: `answered` is a state of it after that
-- answer, for since then it gave no link, and did not answer that none came, that it was told to stop or that it was not. A clause says this of listeners
-- of every type at once, so what meets it has no other state to name than those that the listener had.
pub record FailedSince {L : Type 0} (listening : L → Listening) (tries : ℕ) (first last : Listening) : Type 0 where
  pub answered : L
  pub later : first.faults ≤ (listening answered).faults
  pub accepted : last.accepted ≡ (listening answered).accepted
  pub quiets : last.quiets ≡ (listening answered).quiets
  pub same_told : last.told ≡ (listening answered).told
  pub failed : FailedTimes tries (listening answered).faults last.faults

-- A listener told `first` once and tells `last` now. It was closed last: `before` is a state of it just before that, in which it was as open as at first and
-- told all else that it tells now. Of the witness holds what is said of that of `FailedSince`.
pub record ClosedLast {L : Type 0} (listening : L → Listening) (first last : Listening) : Type 0 where
  pub before : L
  pub still_open : (listening before).closed ≡ first.closed
  pub closes : IsClosedLike (listening before) last

-- Links are accepted: since the listener told l0 and the clock of quiet seconds had given the first moments, these links were begun, and the root
-- made these turns of its own. The listener tells l1 now.
pub record IsHosting {I O T H C : Type 0} (read_half : I → ReadHalf) (write_half : O → WriteHalf) (given : T → Option (List ℕ)) (shown : H → WorkerState) (may : Invocation → Outcome → Type 0) (moves : States → Call → States → Type 0)
    (taken : C → Taken (LinkReport I O T H)) (expects : C → LinkReport I O T H → Type 0) (lock : TurnLock) (kinds : List Kind) (plan : ServePlan) (l0 l1 : Listening) (gave_first gave_last : Option (List ℕ))
    (a : Acceptor I O T H C) (own : OwnHand H) : Type 0 where
  pub is : IsAccepting (TalksOver read_half write_half given shown may moves kinds) (IsMadeFor read_half write_half given shown moves plan) shown taken expects lock kinds a
  pub hosts : a.keeps ≡ false
  pub few : a.begun ≤ plan.count
  pub quiet : TicksQuietly shown moves (opening_of lock) (view_of a.root.pass).seen own.missed gave_first gave_last l0.quiets l1.quiets (ticks_of (shown_all read_half write_half given a.all)) (taken a.taker).ticks own.hand
  pub links : l1.accepted ≡ with_all l0.accepted (links_of (shown_all read_half write_half given a.all))
  pub faults : l0.faults ≤ l1.faults
  pub same_told : l1.told ≡ l0.told
  pub same_ports : l1.ports ≡ l0.ports
  pub waited : l1.accepts ≡ l0.accepts

-- A listener gave no link between two moments, wasn't told to stop, and wasn't asked to accept. It may have failed. Once at most it answered that it was not told
-- to stop.
pub record IsLike (l1 l2 : Listening) : Type 0 where
  pub accepted : l2.accepted ≡ l1.accepted
  pub faults : l1.faults ≤ l2.faults
  pub quiets : l2.quiets ≤ l1.quiets + 1
  pub same_told : l2.told ≡ l1.told
  pub same_ports : l2.ports ≡ l1.ports
  pub waited : l2.accepts ≡ l1.accepts

-- No more links are accepted.
pub record IsHalted {I O T H C : Type 0} (read_half : I → ReadHalf) (write_half : O → WriteHalf) (given : T → Option (List ℕ)) (shown : H → WorkerState) (may : Invocation → Outcome → Type 0) (moves : States → Call → States → Type 0)
    (taken : C → Taken (LinkReport I O T H)) (expects : C → LinkReport I O T H → Type 0) (lock : TurnLock) (kinds : List Kind) (plan : ServePlan) (l0 l1 : Listening) (gave_first gave_last : Option (List ℕ))
    (a : Acceptor I O T H C) (own : OwnHand H) (halt : Halt I O T) : Type 0 where
  pub is : IsAccepting (TalksOver read_half write_half given shown may moves kinds) (IsMadeFor read_half write_half given shown moves plan) shown taken expects lock kinds a
  pub hosts : a.keeps ≡ false
  pub quiet : TicksQuietly shown moves (opening_of lock) (view_of a.root.pass).seen own.missed gave_first gave_last l0.quiets l1.quiets (ticks_of (shown_all read_half write_half given a.all)) (taken a.taker).ticks own.hand
  pub missed : List Accepted
  pub links : l1.accepted ≡ with_all l0.accepted (links_of (shown_all read_half write_half given a.all) ++ missed)
  pub stopped : HostStopped halt.stop l1.told plan.count a.begun missed
  pub back : AreGivenBack (IsLostLink read_half write_half given) missed halt.lost
  pub faults : l0.faults ≤ l1.faults
  pub untold : halt.stop ≢ Told → l1.told ≡ l0.told
  pub same_ports : l1.ports ≡ l0.ports
  pub waited : l1.accepts ≡ l0.accepts

-- A step came to this: further links are accepted, or no more links are.
abbrev pub GoesOn : {I O T H C : Type 0} → (I → ReadHalf) → (O → WriteHalf) → (T → Option (List ℕ)) → (H → WorkerState) → (Invocation → Outcome → Type 0) → (States → Call → States → Type 0)
    → (C → Taken (LinkReport I O T H)) → (C → LinkReport I O T H → Type 0) → TurnLock → List Kind → ServePlan → Listening → Listening → Option (List ℕ) → Option (List ℕ)
    → Acceptor I O T H C → OwnHand H → Option (Halt I O T) → Type 0
GoesOn read_half write_half given shown may moves taken expects lock kinds plan l0 l1 gave_first gave_last a own None =
    IsHosting read_half write_half given shown may moves taken expects lock kinds plan l0 l1 gave_first gave_last a own
GoesOn read_half write_half given shown may moves taken expects lock kinds plan l0 l1 gave_first gave_last a own (Some halt) =
    IsHalted read_half write_half given shown may moves taken expects lock kinds plan l0 l1 gave_first gave_last a own halt

-- All threads of a host were joined: the links that were served, their reports, each of which the taker was given once, the root's own turns, and
-- the events that the taker was given.
pub record IsHosted {I O T H C : Type 0} (IsLink : ℕ → Accepted × Asked → LinkReport I O T H → Type 0) (IsLost : Accepted → LostLink I O T → Type 0) (shown : H → WorkerState) (moves : States → Call → States → Type 0)
    (taken : C → Taken (LinkReport I O T H)) (lock : TurnLock) (count : ℕ) (before after : Listening) (gave_first gave_last : Option (List ℕ)) (o : HostJoined I O T C H) : Type 0 where
  pub served : List (Accepted × Asked)
  pub links : List (LinkReport I O T H)
  pub missed : List Accepted
  pub joined : IsAllJoined IsLink lock served o.root links (taken o.taker).ticks
  pub handed_on : AreHanded lock (view_of o.root.pass) (taken o.taker).events o.handed
  pub quiet : TicksQuietly shown moves (opening_of lock) (view_of o.root.pass).seen o.own.missed gave_first gave_last before.quiets after.quiets (ticks_of served) (taken o.taker).ticks o.own.hand
  pub reports : IsPermutation links (taken o.taker).reports
  pub told_links : after.accepted ≡ with_all before.accepted (links_of served ++ missed)
  pub stopped : HostStopped o.stop after.told count (length links) missed
  pub back : AreGivenBack IsLost missed o.lost
  pub untold : o.stop ≢ Told → after.told ≡ before.told
  pub closed : after.closed ≡ true
  pub waited : after.accepts ≡ before.accepts

-- Links were served over a space that was opened so, until a cause named in `stop`. The one history that is left is legal
-- and goes on from the opening, and its rows are what the collector of the space made of none at each of its events. Each link that was accepted has
-- its Tick and its report, which the taker was given once, but the one, if any, for which there was no memory, which is given back.
-- The server's own turns are those Ticks and the Ticks at looks at a clock, and there are no turns but these and the links'. A look had a Tick only where
-- something had ended by a history that has the server's turns so far, and none only where nothing had ended by such a one, or where something had and the
-- server counts that it made none at this very look. The clock was looked at for each answer of the listener that no link came, or that it was not told to stop. It gave the
-- listener up only where that had failed more than MAX_IDLE_TRIES times. Its links came by waits, and none by a call that accepts one
-- however long that takes. At the end the listener was closed, whatever the cause. The events that the taker was given are the first after the opening's, in their order, and all
-- of them where the server says so.
pub record HostsLinks {I O T H C : Type 0} (IsLink : ℕ → Accepted × Asked → LinkReport I O T H → Type 0) (IsLost : Accepted → LostLink I O T → Type 0) (shown : H → WorkerState) (moves : States → Call → States → Type 0)
    (taken : C → Taken (LinkReport I O T H)) (opening : SpaceHistory) (count : ℕ) (before after : Listening) (gave_first gave_last : Option (List ℕ)) (h : Hosted I O T C H) : Type 0 where
  pub config : h.space.configuration ≡ opening.configuration
  pub legal : IsLegal h.space.configuration h.space.events
  pub begins : StartsWith h.space.events opening.events
  pub collects : CollectsEach h.space.configuration [] [] h.space.events h.space.events h.space.rows
  pub served : List (Accepted × Asked)
  pub links : List (LinkReport I O T H)
  pub missed : List Accepted
  pub told_links : after.accepted ≡ with_all before.accepted (links_of served ++ missed)
  pub reported : Paired (IsReportOf IsLink opening h.space) 1 served links
  pub reports : IsPermutation links (taken h.taker).reports
  pub ticks : AreTurnsOf opening 0 (taken h.taker).ticks h.space
  pub quiet : TicksQuietly shown moves opening h.space.events h.ticks_missed gave_first gave_last before.quiets after.quiets (ticks_of served) (taken h.taker).ticks h.hand
  pub any_missed : IsTrue h.tick_missed ↔ (0 < h.ticks_missed)
  pub others : (n : ℕ) → length links < n → events_after opening n h.space ≡ []
  pub stopped : HostStopped h.stop after.told count (length links) missed
  pub fault : h.stop ≡ AcceptFault → FailedTimes (MAX_IDLE_TRIES + 1) before.faults after.faults
  pub back : AreGivenBack IsLost missed h.lost
  pub untold : h.stop ≢ Told → after.told ≡ before.told
  pub closed : after.closed ≡ true
  pub waited : after.accepts ≡ before.accepts
  pub handed : StartsWith h.space.events (opening.events ++ (taken h.taker).events)
  pub all_handed : h.whole ≡ true → h.space.events ≡ opening.events ++ (taken h.taker).events
