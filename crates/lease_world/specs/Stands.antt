-- Which courses a world's value stands for, and what a step does to it.
use Rattle.std.specs.Prelude.{◌≡◌, ◌⊎◌, ◌≤◌, ◌<◌, ◌+◌, ℕ, ℤ, pos, List, [], ◌∷◌, ◌++◌, length, map, set, Option, Some, None, option_map, Result, Ok, Err}
use Rattle.dgc_client.specs.Log.{ClientCall}
use Rattle.dgc_client.specs.StandsForLog.{Parts, StandsFor, ForEachLog}
use Rattle.dgc_client.specs.declared.plan.ClientFault.{ClientFault}
use Rattle.dgc_client.specs.declared.plan.Plan.{Plan}
use Rattle.history.specs.Limits.{limits, refusal}
use Rattle.history.specs.Replies.{reply}
use Rattle.history.specs.Running.{running_calls_by}
use Rattle.history.specs.Table.{places, with_event}
use Rattle.history.specs.declared.asks.Ask.{Ask}
use Rattle.history.specs.declared.asks.Ask.TheVariants as asks
use Rattle.history.specs.declared.asks.Event.{Event}
use Rattle.space.specs.Acts.{event_of}
use Rattle.space.specs.Built.{SpaceHistory}
use Rattle.lease_world.specs.World.{World, Course, Delivery, Taken, CutMake, client, maker, of_client, nth, asked_by, last_delivery, granted_in, turn_fault, fault_of, begin, begun, finish, with_deed, world}
use Rattle.lease_world.specs.declared.fault.WorldFault.{WorldFault}
use Rattle.lease_world.specs.declared.fault.WorldFault.TheVariants.{BadStep, SpaceRefused, OutOfMemory}
use Rattle.lease_world.specs.declared.member.Member.{Member}
use Rattle.lease_world.specs.declared.step.Step.{Step}
use Rattle.lease_world.specs.declared.step.Step.TheVariants as steps
use Rattle.lease_world.specs.Faults.{of_client as fault_of_client}
use Rattle.lease_world.specs.Letters.{Letter}
use Rattle.lease_world.specs.Tables.{IsNoted, IsClientCause, call_cause}

-- What a world keeps: the present moment, how many returns the server made, the server's space, the clients, and the lease calls that were sent.
pub record WorldParts : Type 0 where
  pub moment : ℕ
  pub made : ℕ
  pub space : SpaceHistory
  pub members : List Member
  pub letters : List Letter

-- ---- the world that a value stands for

-- A client's table stands for its calls, and it asks for the duration that was set last.
abbrev pub IsClientOf : World → ℕ → Member → Type 0
IsClientOf w c x = StandsFor (client c) (pos 0) x.table (of_client c w.calls) × (x.asked ≡ asked_by c w)

-- What the last delivery of a sent call was granted, if it was delivered.
abbrev pub granted_by : Option Letter → Option ℕ
granted_by (Some x) = x.granted
granted_by None = None

pub record StandsAt (v : WorldParts) (w : World) : Type 0 where
  pub moment_is : v.moment ≡ w.moment
  pub made_is : v.made ≡ w.made
  pub config_is : v.space.configuration ≡ w.config
  pub events_are : v.space.events ≡ w.events
  pub count_is : length v.members ≡ w.clients
  pub members_are : (c : ℕ) (x : Member) → nth v.members c ≡ Some x → IsClientOf w c x
  pub sent_are : map (λ (x : Letter). x.call) v.letters ≡ w.sent
  pub granted_are : (k : ℕ) → granted_by (nth v.letters k) ≡ option_map (λ (d : Delivery). d.granted) (last_delivery w k)

-- A world stands for a course: it is where the course leads.
abbrev pub StandsForCourse : WorldParts → Course → Type 0
StandsForCourse v course = StandsAt v (world course)

-- The course of no deeds.
abbrev pub no_deeds : ℕ → ℕ → ℕ → Course
no_deeds lease ack clients = record { lease_ms = lease; ack_ms = ack; clients = clients; deeds = [] }

-- So many clients without calls, which ask for the configured lease.
pub record AreFresh (lease n : ℕ) (members : List Member) : Type 0 where
  pub count : length members ≡ n
  pub each : (c : ℕ) (x : Member) → nth members c ≡ Some x → StandsFor (client c) (pos 0) x.table [] × (x.asked ≡ pos lease)

-- This holds of each course that the world stands for.
abbrev pub ForEachCourse : WorldParts → (Course → Type 0) → Type 0
ForEachCourse v P = (course : Course) → StandsForCourse v course → P course

-- ---- what a step does

-- The fault is this cause, or want of memory.
abbrev pub IsCause : WorldFault → Option WorldFault → Type 0
IsCause fault cause = (fault ≡ OutOfMemory) ⊎ (cause ≡ Some fault)

-- The step was taken: nothing refused it, and it is the last deed of each course now.
pub record IsTaken (old : WorldParts) (step : Step) (new : WorldParts) (course : Course) : Type 0 where
  pub allowed : fault_of (world course) step ≡ None
  pub stands : StandsForCourse new (with_deed (Taken step) course)

-- A `Make` was cut short: its Begin was taken, its Finish was refused for this cause, and an Abandon ended the call.
pub record IsCut (new : WorldParts) (fault : WorldFault) (course : Course) : Type 0 where
  pub began : turn_fault (world course) 0 begin ≡ None
  pub cause : IsCause fault (turn_fault (begun (world course)) 0 (finish (world course).made))
  pub stands : StandsForCourse new (with_deed CutMake course)

-- The cause for which a step is refused before it changes anything.
abbrev pub first_cause : World → Step → Option WorldFault
first_cause w steps.Make = turn_fault w 0 begin
first_cause w step = fault_of w step

-- A refused step changes nothing, but for a `Make` that was cut short.
abbrev pub IsLeft : WorldParts → Step → WorldFault → WorldParts → Type 0
IsLeft old step fault new =
    ((new ≡ old) × ForEachCourse old (λ course. IsCause fault (first_cause (world course) step)))
    ⊎ ((step ≡ steps.Make) × ForEachCourse old (IsCut new fault))

-- All of it.
abbrev pub IsStep : WorldParts → Step → Result (Unit {0}) WorldFault → WorldParts → Type 0
IsStep old step (Ok done) new = ForEachCourse old (IsTaken old step new)
IsStep old step (Err fault) new = IsLeft old step fault new

-- ---- turns

-- The event of a turn that is made now.
abbrev pub event_at : WorldParts → ℕ → Ask → Event
event_at v by ask = event_of by v.moment ask

abbrev pub refusal_at : WorldParts → ℕ → Ask → Option WorldFault
refusal_at v by ask = option_map SpaceRefused (refusal (limits v.space.configuration) v.space.configuration (places v.space.configuration v.space.events) (event_at v by ask))

-- A turn was made, and granted this duration.
pub record IsTurned (old : WorldParts) (by : ℕ) (ask : Ask) (granted : ℕ) (new : WorldParts) : Type 0 where
  pub allowed : refusal_at old by ask ≡ None
  pub config : new.space.configuration ≡ old.space.configuration
  pub events : new.space.events ≡ with_event old.space.events (event_at old by ask)
  pub rest : new ≡ record old { space = new.space }
  pub granted_is : granted ≡ granted_in (reply old.space.configuration (places old.space.configuration old.space.events) (event_at old by ask))

-- The connection 0 runs a call of the object that makes the others.
abbrev pub MakerRuns : WorldParts → Type 0
MakerRuns v = 0 < running_calls_by (places v.space.configuration v.space.events) 0 maker

-- The call of the object that makes the others was ended without an answer.
pub record IsAbandoned (old new : WorldParts) : Type 0 where
  pub config : new.space.configuration ≡ old.space.configuration
  pub events : new.space.events ≡ with_event old.space.events (event_at old 0 (asks.Abandon maker))
  pub rest : new ≡ record old { space = new.space }

-- A return was made by this event, and is counted.
pub record IsReturned (old : WorldParts) (ask : Ask) (new : WorldParts) : Type 0 where
  pub allowed : refusal_at old 0 ask ≡ None
  pub config : new.space.configuration ≡ old.space.configuration
  pub events : new.space.events ≡ with_event old.space.events (event_at old 0 ask)
  pub rest : new ≡ record old { space = new.space; made = old.made + 1 }

-- ---- clients' calls

-- The lease call of a plan is sent.
abbrev pub with_letter : ℕ → ℤ → Option Plan → List Letter → List Letter
with_letter c asked (Some plan) letters = letters ++ record { call = record { client = c; asked = asked; plan = plan }; granted = None } ∷ []
with_letter c asked None letters = letters

-- The client c made a call of its table, which gave this plan.
pub record IsCalled (old : WorldParts) (c : ℕ) (x : ClientCall) (new : WorldParts) : Type 0 where
  pub was : Member
  pub table : Parts
  pub plan : Option Plan
  pub there : nth old.members c ≡ Some was
  pub noted : IsNoted was.table x plan table
  pub new_is : new ≡ record old { members = set old.members c (record was { table = table }); letters = with_letter c was.asked plan old.letters }

-- The client's table refused it.
pub record IsNotCalled (old : WorldParts) (c : ℕ) (x : ClientCall) (fault : ClientFault) : Type 0 where
  pub was : Member
  pub there : nth old.members c ≡ Some was
  pub cause : ForEachLog was.table (λ vmid first log. IsClientCause fault (call_cause first log x))

-- Why a call of the client c was refused: there is no such client, or its table refused it.
abbrev pub IsNoCall : WorldParts → ℕ → ClientCall → WorldFault → Type 0
IsNoCall old c x fault =
    ((length old.members ≤ c) × (fault ≡ BadStep))
    ⊎ ((fault ≡ OutOfMemory) ⊎ ((refused : ClientFault) × (fault ≡ fault_of_client refused) × IsNotCalled old c x refused))

-- A call of the client c, and its answer.
abbrev pub IsMemberCall : WorldParts → ℕ → ClientCall → Result (Unit {0}) WorldFault → WorldParts → Type 0
IsMemberCall old c x (Ok done) new = IsCalled old c x new
IsMemberCall old c x (Err fault) new = (new ≡ old) × IsNoCall old c x fault
