-- Under which conditions a connection is served, and what its steps keep.
use Rattle.std.specs.Prelude.{◌≡◌, ℕ, ◌+◌, ◌<◌, ◌≤◌, ◌^◌, pos, ◌<ℤ◌, List, length}
use Rattle.mod_utf.specs.Utf.{utf}
use Rattle.wire_io.specs.declared.limits.TheConstants.{MAX_HOST_BYTES}
use Rattle.space.specs.declared.asked.Asked.{Asked}
use Rattle.ports.specs.Balance.{Balanced}
use Rattle.ports.specs.Ports.{PortState}
use Rattle.system_objects.specs.declared.setup.Setup.{Setup}
use Rattle.system_objects.specs.declared.setup.TheConstants.{DRAWS_BEGIN_BELOW}
use Rattle.call_dispatch.specs.declared.connection.Connection.{Connection}
use Rattle.call_dispatch.specs.Acts.{WorkerState}
use Rattle.call_dispatch.specs.ConnectionState.{IsLent}

-- ---- conditions

-- A connection can be served to its end: the server's host is short enough, the identifiers are drawn from an early enough moment on and few
-- were drawn, the port is between two calls, has room for 2^62 of them and shows no call running, and the worker was invoked fewer than 2^61 times.
pub record CanServe (is_ready : Type 0) (port : PortState) (worker : WorkerState) (setup : Setup) : Type 0 where
  pub host : length (utf setup.host) ≤ MAX_HOST_BYTES
  pub time : setup.draw.time <ℤ pos DRAWS_BEGIN_BELOW
  pub drawn : setup.draw.drawn < 2 ^ 64
  pub ready : is_ready
  pub room : 2 ^ 62 ≤ port.room
  pub balanced : Balanced port.asked
  pub calls : worker.calls < 2 ^ 61

-- The same of a connection whose port and worker show this.
abbrev pub CanGoOn : {S K C P W : Type 0} → (P → Type 0) → (P → PortState) → (W → WorkerState) → Connection S K C P W → Type 0
CanGoOn is_ready port worker c = CanServe (is_ready c.port.now) (port c.port.now) (worker c.worker.now) c.setup.now

-- One message can be served, which draws at most two identifiers, makes at most three turns and invokes the worker at most once.
pub record CanServeMessage {S K C P W : Type 0} (is_ready : P → Type 0) (port : P → PortState) (worker : W → WorkerState)
    (c : Connection S K C P W) : Type 0 where
  pub host : length (utf c.setup.now.host) ≤ MAX_HOST_BYTES
  pub time : c.setup.now.draw.time <ℤ pos DRAWS_BEGIN_BELOW
  pub drawn : c.setup.now.draw.drawn + 1 < 2 ^ 65
  pub ready : is_ready c.port.now
  pub room : 2 < (port c.port.now).room
  pub balanced : Balanced (port c.port.now).asked
  pub calls : (worker c.worker.now).calls < 2 ^ 62

-- The most that is left to do for a message.
pub record Work : Type 0 where
  -- identifiers to draw
  pub draws : ℕ
  -- turns to make
  pub turns : ℕ
  -- invocations of the worker
  pub invocations : ℕ

-- For a call of an exported object: all of it; once it runs; once the worker answered; once its Return was prepared.
abbrev pub object_call : Work
object_call = record { draws = 1; turns = 3; invocations = 1 }

abbrev pub running_call : Work
running_call = record { draws = 1; turns = 2; invocations = 1 }

abbrev pub invoked_call : Work
invoked_call = record { draws = 1; turns = 2; invocations = 0 }

abbrev pub prepared_call : Work
prepared_call = record { draws = 0; turns = 2; invocations = 0 }

-- For a call of the registry or the collector.
abbrev pub system_call : Work
system_call = record { draws = 2; turns = 1; invocations = 0 }

-- For one turn.
abbrev pub one_turn : Work
one_turn = record { draws = 0; turns = 1; invocations = 0 }

-- The rest of a message can be served, for which this is left to do. `runs` says which call the connection runs, if any.
pub record CanServeRest {S K C P W : Type 0} (is_ready : P → Type 0) (port : P → PortState) (worker : W → WorkerState)
    (runs : List Asked → Type 0) (left : Work) (c : Connection S K C P W) : Type 0 where
  -- The identifiers are drawn from an early enough moment on.
  pub time : c.setup.now.draw.time <ℤ pos DRAWS_BEGIN_BELOW
  -- So few were drawn that there are enough.
  pub drawn : c.setup.now.draw.drawn + left.draws ≤ 2 ^ 65
  -- The port is between two calls.
  pub ready : is_ready c.port.now
  -- The port has room for the turns.
  pub room : left.turns ≤ (port c.port.now).room
  -- The port's entries show that this call runs, or none.
  pub running : runs (port c.port.now).asked
  -- The worker was invoked so seldom that it can be invoked again.
  pub calls : (worker c.worker.now).calls + left.invocations ≤ 2 ^ 62

-- ---- what is kept

-- A step makes at most so many turns at the port, which can be used on, and borrows the same things before and after.
pub record Keeps {S K C P W : Type 0} (is_ready : P → Type 0) (port : P → PortState) (went : P → P → Type 0)
    (turns : ℕ) (old new : Connection S K C P W) : Type 0 where
  pub room : (port old.port.now).room ≤ (port new.port.now).room + turns
  pub ready : is_ready new.port.now
  pub leads : went old.port.now new.port.now
  pub lent : IsLent old new

-- A step makes at most so many turns, of which the worker may be told, and does nothing else: no byte is taken or written, nothing is invoked and no
-- identifier drawn.
pub record OnlyTurns {S K C P W : Type 0} (is_ready : P → Type 0) (port : P → PortState) (went : P → P → Type 0)
    (worker : W → WorkerState) (turns : ℕ) (old new : Connection S K C P W) : Type 0 where
  pub keeps : Keeps is_ready port went turns old new
  pub pull : new.pull ≡ old.pull
  pub sink : new.sink ≡ old.sink
  pub setup : new.setup ≡ old.setup
  pub calls : (worker new.worker.now).calls ≡ (worker old.worker.now).calls

-- A step makes at most so many turns and does nothing else, and no call runs after it.
pub record LastTurns {S K C P W : Type 0} (is_ready : P → Type 0) (port : P → PortState) (went : P → P → Type 0)
    (worker : W → WorkerState) (turns : ℕ) (old new : Connection S K C P W) : Type 0 where
  pub only : OnlyTurns is_ready port went worker turns old new
  pub balanced : Balanced (port new.port.now).asked

-- The rest of a message does at most this. It writes no byte, and no call runs after it.
pub record RestOfMessage {S K C P W : Type 0} (is_ready : P → Type 0) (port : P → PortState) (went : P → P → Type 0)
    (worker : W → WorkerState) (most : Work) (old new : Connection S K C P W) : Type 0 where
  -- It makes at most so many turns.
  pub keeps : Keeps is_ready port went most.turns old new
  -- No call runs after it.
  pub balanced : Balanced (port new.port.now).asked
  -- Nothing is written.
  pub sink : new.sink ≡ old.sink
  -- At most so many identifiers are drawn.
  pub drawn : (old.setup.now.draw.drawn ≤ new.setup.now.draw.drawn)
      × (new.setup.now.draw.drawn ≤ old.setup.now.draw.drawn + most.draws)
  -- The worker is invoked at most so often.
  pub calls : ((worker old.worker.now).calls ≤ (worker new.worker.now).calls)
      × ((worker new.worker.now).calls ≤ (worker old.worker.now).calls + most.invocations)

-- A message makes at most three turns, invokes the worker at most once and draws at most two identifiers, and no call runs after it.
pub record OneMessage {S K C P W : Type 0} (is_ready : P → Type 0) (port : P → PortState) (went : P → P → Type 0)
    (worker : W → WorkerState) (old new : Connection S K C P W) : Type 0 where
  pub keeps : Keeps is_ready port went 3 old new
  pub balanced : Balanced (port new.port.now).asked
  pub calls : (worker new.worker.now).calls ≤ (worker old.worker.now).calls + 1
  pub drawn : new.setup.now.draw.drawn ≤ old.setup.now.draw.drawn + 2

-- A connection was served to its end: no call runs after it, the port can be used on, and the same things are borrowed before and after.
pub record IsOver {S K C P W : Type 0} (is_ready : P → Type 0) (port : P → PortState) (went : P → P → Type 0)
    (old new : Connection S K C P W) : Type 0 where
  pub lent : IsLent old new
  pub balanced : Balanced (port new.port.now).asked
  pub ready : is_ready new.port.now
  pub leads : went old.port.now new.port.now
