-- Links that were accepted or dialled, and ports that are listened on.
use Rattle.std.specs.Prelude.{◌≡◌, ℕ, ℤ, Bool, false, true, List, [], ◌∷◌, ◌++◌, map, Option, None, Some, Result, Ok, Err}
use Rattle.wire_io.specs.Wire.{ReadHalf, WriteHalf, AreNewHalves, Rose, next_count}
use Rattle.wire_io.specs.declared.link.Link.{Link}
use Rattle.wire_io.specs.declared.listener.Waited.{Waited}
use Rattle.wire_io.specs.declared.listener.Waited.TheVariants.{Came, Quiet, Told}
use Rattle.wire_io.specs.Mem.{SourceState, SinkState, ClockState, source_half, sink_half, moments_given}

-- a link as it was accepted or dialled: the host and port of the end that made it, what its source had left, what its sink held, and
-- what its clock had given, where they tell it
pub record Accepted : Type 0 where
  pub host : List ℕ
  pub port : ℤ
  pub left : Option (List ℕ)
  pub held : Option (List ℕ)
  pub given : Option (List ℕ)

-- what stands at a link, by what its source, its sink and its clock show
abbrev pub accepted_as : {I O T : Type 0} → (I → ReadHalf) → (O → WriteHalf) → (T → Option (List ℕ)) → Link I O T → Accepted
accepted_as read write given link = record {
  host = link.host;
  port = link.port;
  left = (read link.source).left;
  held = (write link.sink).held;
  given = given link.clock;
}

-- what was told, and then this, where it is told
abbrev pub with_next : {A : Type 0} → Option (List A) → A → Option (List A)
with_next None next = None
with_next (Some told) next = Some (told ++ next ∷ [])

-- what a listener shows: the addresses and ports that it was told to listen on and the links that it gave, in their order, where it
-- tells them, how often it failed, whether it was told to stop, how often it answered that no link came or that it was not told to
-- stop, whether it was closed, and how often it was asked to accept a link however long that takes
pub record Listening : Type 0 where
  pub ports : Option (List (List ℕ × ℕ))
  pub accepted : Option (List Accepted)
  pub faults : ℕ
  pub told : Bool
  pub quiets : ℕ
  pub closed : Bool
  pub accepts : ℕ

-- A close was noted, and nothing else.
abbrev pub IsClosedLike : Listening → Listening → Type 0
IsClosedLike old new = new ≡ record old { closed = true }

-- a listener that tells no content, by how often it failed, whether it was told to stop, how often it answered that no link came or
-- that it was not told to stop, whether it was closed, and how often it was asked to accept a link
abbrev pub untold_listener : ℕ → Bool → ℕ → Bool → ℕ → Listening
untold_listener faults told quiets closed accepts = record {
  ports = None;
  accepted = None;
  faults = faults;
  told = told;
  quiets = quiets;
  closed = closed;
  accepts = accepts;
}

-- What a call did that listens on a port of an address. It counts a fault only where it failed, and then leaves what is told.
abbrev pub Listens : {T E : Type 0} → Listening → Listening → List ℕ → ℕ → Result T E → Type 0
Listens old new address port (Ok _) =
    (new.ports ≡ with_next old.ports (address, port)) × (new.faults ≡ old.faults) × (new.quiets ≡ old.quiets)
    × (new.closed ≡ old.closed) × (new.accepts ≡ old.accepts)
Listens old new address port (Err _) =
    (new.ports ≡ old.ports) × Rose old.faults new.faults × (new.quiets ≡ old.quiets) × (new.closed ≡ old.closed) × (new.accepts ≡ old.accepts)

-- What a call did that accepts a link, which is shown so. It is counted. It counts a fault only where it failed, and then gave none.
abbrev pub Accepts : {L E : Type 0} → (L → Accepted) → Listening → Listening → Result L E → Type 0
Accepts shown old new (Ok link) =
    (new.accepted ≡ with_next old.accepted (shown link)) × (new.faults ≡ old.faults) × (new.quiets ≡ old.quiets)
    × (new.closed ≡ old.closed) × (new.accepts ≡ next_count old.accepts)
Accepts shown old new (Err _) =
    (new.accepted ≡ old.accepted) × Rose old.faults new.faults × (new.quiets ≡ old.quiets) × (new.closed ≡ old.closed) × (new.accepts ≡ next_count old.accepts)

-- What a call did that waits for a link, which is shown so. It gave one, or none came, which is counted, or the listener was told to stop.
-- It counts a fault only where it failed, and then gave none. A listener that was told before answers that again, and nothing else.
abbrev pub Waits : {L E : Type 0} → (L → Accepted) → Listening → Listening → Result (Waited L) E → Type 0
Waits shown old new (Ok (Came link)) =
    (new.accepted ≡ with_next old.accepted (shown link)) × (new.faults ≡ old.faults) × (new.told ≡ old.told) × (old.told ≡ false)
    × (new.quiets ≡ old.quiets) × (new.closed ≡ old.closed) × (new.accepts ≡ old.accepts)
Waits shown old new (Ok Quiet) =
    (new.accepted ≡ old.accepted) × (new.faults ≡ old.faults) × (new.told ≡ old.told) × (old.told ≡ false)
    × (new.quiets ≡ next_count old.quiets) × (new.closed ≡ old.closed) × (new.accepts ≡ old.accepts)
Waits shown old new (Ok Told) =
    (new.accepted ≡ old.accepted) × (new.faults ≡ old.faults) × (new.told ≡ true) × (new.quiets ≡ old.quiets)
    × (new.closed ≡ old.closed) × (new.accepts ≡ old.accepts)
Waits shown old new (Err _) =
    (new.accepted ≡ old.accepted) × Rose old.faults new.faults × (new.told ≡ old.told) × (old.told ≡ false)
    × (new.quiets ≡ old.quiets) × (new.closed ≡ old.closed) × (new.accepts ≡ old.accepts)

-- the count of answers without a link and without a stop after a look with this answer
abbrev pub quiets_after : ℕ → Bool → ℕ
quiets_after quiets true = quiets
quiets_after quiets false = next_count quiets

-- What a look did whether a listener was told to stop, with this answer. It gave no link, and is no fault. A look that found that it was not
-- told is counted. A listener that was told before answers that again.
abbrev pub Looks : Listening → Listening → Bool → Type 0
Looks old new answer =
    (new.ports ≡ old.ports) × (new.accepted ≡ old.accepted) × (new.faults ≡ old.faults) × (new.told ≡ answer)
    × (new.quiets ≡ quiets_after old.quiets answer) × (old.told ≡ true → answer ≡ true) × (new.closed ≡ old.closed)
    × (new.accepts ≡ old.accepts)

-- what holds of the link that came, if one did
abbrev pub IfCame : {L : Type 0} → Waited L → (L → Type 0) → Type 0
IfCame (Came link) Holds = Holds link
IfCame Quiet Holds = Unit {0}
IfCame Told Holds = Unit {0}

-- what holds where no link came
abbrev pub IfNoneCame : {L E : Type 0} → Result (Waited L) E → Type 0 → Type 0
IfNoneCame (Ok (Came link)) Holds = Unit {0}
IfNoneCame (Ok Quiet) Holds = Holds
IfNoneCame (Ok Told) Holds = Holds
IfNoneCame (Err _) Holds = Holds

-- a link as it was dialled: the host and port asked for, and what stood at it
pub record Dialed : Type 0 where
  pub asked_host : List ℕ
  pub asked_port : ℤ
  pub link : Accepted

-- what a dialer shows: the links that it gave, in their order, where it tells them, and how often it failed
pub record Dialing : Type 0 where
  pub dialed : Option (List Dialed)
  pub faults : ℕ

-- a dialer that tells no content, by how often it failed
abbrev pub untold_dialer : ℕ → Dialing
untold_dialer faults = record { dialed = None; faults = faults }

-- What a call did that dials a port of a host, and shows a link so. It counts a fault only where it failed, and then gave none.
abbrev pub Dials : {L E : Type 0} → (L → Accepted) → Dialing → Dialing → List ℕ → ℤ → Result L E → Type 0
Dials shown old new host port (Ok link) =
    (new.dialed ≡ with_next old.dialed (record { asked_host = host; asked_port = port; link = shown link })) × (new.faults ≡ old.faults)
Dials shown old new host port (Err _) = (new.dialed ≡ old.dialed) × Rose old.faults new.faults

-- what stands at a link in memory
abbrev pub accepted_in_memory : Link SourceState SinkState ClockState → Accepted
accepted_in_memory link = accepted_as source_half sink_half moments_given link

-- Neither half of the link failed or was shut yet.
abbrev pub IsNew : Link SourceState SinkState ClockState → Type 0
IsNew link = AreNewHalves (source_half link.source) (sink_half link.sink)

-- a listener in memory: the links that it has still to give, those that it gave, the addresses and ports that it was told to listen
-- on, how often it failed, the indices of the waits to which no link comes, the index of the wait from which on it is told to stop, if
-- any, how many waits there were, which is the index of the next one, whether it was told to stop, how often it answered that no link
-- came or that it was not told to stop, whether it was closed, and how often it was asked to accept a link
pub record ListenerState : Type 0 where
  pub links : List (Link SourceState SinkState ClockState)
  pub accepted : List (Link SourceState SinkState ClockState)
  pub ports : List (List ℕ × ℕ)
  pub faults : ℕ
  pub quiet : List ℕ
  pub stop : Option ℕ
  pub waits : ℕ
  pub told : Bool
  pub quiets : ℕ
  pub closed : Bool
  pub accepts : ℕ

-- what a listener in memory shows
abbrev pub listening_in_memory : ListenerState → Listening
listening_in_memory l = record {
  ports = Some l.ports;
  accepted = Some (map accepted_in_memory l.accepted);
  faults = l.faults;
  told = l.told;
  quiets = l.quiets;
  closed = l.closed;
  accepts = l.accepts;
}

-- a dialer in memory: the links that it has still to give, those that it gave with what was asked for, and how often it failed
pub record DialerState : Type 0 where
  pub links : List (Link SourceState SinkState ClockState)
  pub dialed : List (Link SourceState SinkState ClockState × List ℕ × ℤ)
  pub faults : ℕ

-- a link of a dialer in memory, as it was dialled
abbrev pub dialed_in_memory : Link SourceState SinkState ClockState × List ℕ × ℤ → Dialed
dialed_in_memory d = record { asked_host = d.1; asked_port = d.2; link = accepted_in_memory d.0 }

-- what a dialer in memory shows
abbrev pub dialing_in_memory : DialerState → Dialing
dialing_in_memory d = record { dialed = Some (map dialed_in_memory d.dialed); faults = d.faults }
