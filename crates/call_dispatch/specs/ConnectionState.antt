-- The state of a connection, and what leads from one to another.
use Rattle.std.specs.Prelude.{◌≡◌, ℕ, ◌+◌, List, [], ◌++◌, Option}
use Rattle.wire_io.specs.Wire.{ReadHalf, WriteHalf, Wires, with_front, with_end}
use Rattle.ports.specs.Ports.{PortState}
use Rattle.system_objects.specs.declared.setup.Setup.{Setup}
use Rattle.call_dispatch.specs.declared.connection.Connection.{Connection}
use Rattle.call_dispatch.specs.declared.outcome.Invocation.{Invocation}
use Rattle.call_dispatch.specs.declared.outcome.Outcome.{Outcome}
use Rattle.system_objects.specs.Terms.{Terms, terms_of}
use Rattle.call_dispatch.specs.Acts.{Act, Call, States, WorkerState, Observed, observed, Led}

-- the state of a connection: its wires, what its port, clock and worker show, and how many identifiers were drawn
pub record ConnectionState : Type 0 where
  pub wires : Wires
  pub side : Observed
  pub drawn : ℕ

-- what the port, the clock and the worker of a connection show
abbrev pub observed_of : {S K C P W : Type 0} → (C → Option (List ℕ)) → (P → PortState) → (W → WorkerState) → Connection S K C P W → Observed
observed_of given port worker c = observed (port c.port.now).asked (given c.clock.now) (worker c.worker.now)

-- the state of a connection by what its halves, its clock, its port and its worker show, and its setup
abbrev pub state_of : ReadHalf → WriteHalf → Option (List ℕ) → PortState → WorkerState → Setup → ConnectionState
state_of read write given port worker setup = record {
  wires = record { left = read.left; held = write.held };
  side = observed port.asked given worker;
  drawn = setup.draw.drawn;
}

-- the state of a connection
abbrev pub state_of_connection : {S K C P W : Type 0} → (S → ReadHalf) → (K → WriteHalf) → (C → Option (List ℕ)) → (P → PortState)
    → (W → WorkerState) → Connection S K C P W → ConnectionState
state_of_connection read write given port worker c =
    state_of (read c.pull.source.now) (write c.sink.now) (given c.clock.now) (port c.port.now) (worker c.worker.now) c.setup.now

-- the terms of a connection
abbrev pub terms_in : {S K C P W : Type 0} → Connection S K C P W → Terms
terms_in c = terms_of c.book.now c.setup.now

-- what a connection took, did, drew and wrote
pub record Transcript : Type 0 where
  pub taken : List ℕ
  pub acts : List Act
  pub draws : ℕ
  pub written : List ℕ

-- these bytes were taken, and those written; nothing else was done
abbrev pub bytes_exchanged : List ℕ → List ℕ → Transcript
bytes_exchanged taken written = record { taken = taken; acts = []; draws = 0; written = written }

-- these bytes were taken
abbrev pub bytes_taken : List ℕ → Transcript
bytes_taken taken = bytes_exchanged taken []

-- one transcript, and then another
abbrev pub followed_by : Transcript → Transcript → Transcript
followed_by a b = record { taken = a.taken ++ b.taken; acts = a.acts ++ b.acts; draws = a.draws + b.draws; written = a.written ++ b.written }

-- This transcript leads from a state to a state.
pub record LeadsFrom (may : Invocation → Outcome → Type 0) (moves : States → Call → States → Type 0) (before after : ConnectionState) (c : Transcript) : Type 0 where
  pub left : before.wires.left ≡ with_front c.taken after.wires.left
  pub held : after.wires.held ≡ with_end before.wires.held c.written
  pub led : Led may moves before.side after.side c.acts
  pub drawn : after.drawn ≡ before.drawn + c.draws

-- A step borrows the same things before and after, and leaves the terms.
pub record IsLent {S K C P W : Type 0} (old new : Connection S K C P W) : Type 0 where
  pub source_lent : new.pull.source.ghost_name ≡ old.pull.source.ghost_name
  pub sink_lent : new.sink.ghost_name ≡ old.sink.ghost_name
  pub clock_lent : new.clock.ghost_name ≡ old.clock.ghost_name
  pub port_lent : new.port.ghost_name ≡ old.port.ghost_name
  pub worker_lent : new.worker.ghost_name ≡ old.worker.ghost_name
  pub setup_lent : new.setup.ghost_name ≡ old.setup.ghost_name
  pub book : new.book ≡ old.book
  pub terms : terms_of new.book.now new.setup.now ≡ terms_of old.book.now old.setup.now

-- A step borrows the same things before and after, and leaves the clock, the port, the worker and the setup as they were.
pub record Stays {S K C P W : Type 0} (old new : Connection S K C P W) : Type 0 where
  pub source_lent : new.pull.source.ghost_name ≡ old.pull.source.ghost_name
  pub sink_lent : new.sink.ghost_name ≡ old.sink.ghost_name
  pub clock_lent : new.clock.ghost_name ≡ old.clock.ghost_name
  pub port_lent : new.port.ghost_name ≡ old.port.ghost_name
  pub worker_lent : new.worker.ghost_name ≡ old.worker.ghost_name
  pub setup_lent : new.setup.ghost_name ≡ old.setup.ghost_name
  pub book : new.book ≡ old.book
  pub clock : new.clock.now ≡ old.clock.now
  pub port : new.port.now ≡ old.port.now
  pub worker : new.worker.now ≡ old.worker.now
  pub setup : new.setup.now ≡ old.setup.now
