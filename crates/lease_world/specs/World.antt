-- The world: a server's history, its clients' logs, and every lease call that was ever sent, by the list of the world's steps (Java RMI
-- Specification, chapter 9). A call that is lost is one that is never delivered.
use Rattle.std.specs.Prelude.{◌≡◌, ℕ, ℤ, pos, ◌+◌, ◌^◌, max, Bool, true, false, not, if◌then◌else◌, List, [], ◌∷◌, ◌++◌, ◌&&◌, ◌||◌, ◌==◌, nat_lt, nat_le, int_le, find, Option, Some, None, is_some, option_map, zero, suc, unwrap_or}
use Rattle.std.specs.List.{list_any}
use Rattle.std.specs.Ordering.{int_eq}
use Rattle.object_ids.specs.Client.{Client}
use Rattle.object_ids.specs.Same.{same_id, same_client}
use Rattle.object_ids.specs.declared.ids.ObjId.{ObjId}
use Rattle.object_ids.specs.declared.ids.Uid.{Uid}
use Rattle.history.specs.Limits.{limits, refusal}
use Rattle.history.specs.Places.{History, has}
use Rattle.history.specs.Replies.{reply}
use Rattle.history.specs.Table.{places, table, with_event}
use Rattle.history.specs.declared.asks.Ask.{Ask}
use Rattle.history.specs.declared.asks.Ask.TheVariants as asks
use Rattle.history.specs.declared.asks.Event.{Event}
use Rattle.history.specs.declared.asks.SpaceConfig.{SpaceConfig}
use Rattle.history.specs.declared.limits.TheConstants.{END_OF_TIME, MAX_DURATION_MS}
use Rattle.history.specs.declared.places.Exported.{Exported}
use Rattle.history.specs.declared.replies.Reply.{Reply}
use Rattle.history.specs.declared.replies.Reply.TheVariants.{Granted}
use Rattle.dgc_client.specs.Log.{ClientCall, Registers, Drops, Dues, Answers, Fails, Note, Ref, Good, number_of, notes, plan_of, refs, has_ref, once_then, asks_in, is_full, is_spent, is_usable}
use Rattle.dgc_client.specs.declared.plan.ClientFault.TheVariants.{NumbersSpent, FullRefs}
use Rattle.dgc_client.specs.declared.plan.Plan.{Plan}
use Rattle.dgc_client.specs.declared.plan.Plan.TheVariants as plans
use Rattle.lease_world.specs.declared.fault.WorldFault.{WorldFault}
use Rattle.lease_world.specs.declared.fault.WorldFault.TheVariants.{BadStep, SpaceRefused, ClientRefused}
use Rattle.lease_world.specs.declared.sent_call.SentCall.{SentCall}
use Rattle.lease_world.specs.declared.step.Step.{Step}
use Rattle.lease_world.specs.declared.step.Step.TheVariants as steps

-- ---- what a world is

-- A delivery: the number of the sent call, and the duration that the server granted.
pub record Delivery : Type 0 where
  pub call : ℕ
  pub granted : ℕ

pub record World : Type 0 where
  pub config : SpaceConfig
  -- how many clients there are
  pub clients : ℕ
  -- the present moment
  pub moment : ℕ
  -- how many returns the server made
  pub made : ℕ
  -- the calls of the clients' tables, each with its client, the newest first
  pub calls : List (ℕ × ClientCall)
  -- the durations that clients set, the newest first
  pub settings : List (ℕ × ℤ)
  -- the server's events, the oldest first
  pub events : List Event
  -- the lease calls that were sent, in the order of their sending
  pub sent : List SentCall
  -- the deliveries, the newest first
  pub deliveries : List Delivery

-- ---- identifiers

abbrev pub uid : ℕ → Uid
uid n = record { unique = pos 0; time = pos n; count = pos 0 }

-- The object of a number at the server.
abbrev pub object : ℤ → ObjId
object n = record { number = n; space = uid 0 }

-- The object that makes the others. It is pinned.
abbrev pub maker : ObjId
maker = object (pos 16)

-- The client of a number.
abbrev pub client : ℕ → Client
client c = record { addr = c ∷ []; uid = uid 0 }

abbrev pub nth : {X : Type 0} → List X → ℕ → Option X
nth [] n = None
nth (x ∷ xs) zero = Some x
nth (x ∷ xs) (suc n) = nth xs n

-- ---- clients

abbrev pub of_client : ℕ → List (ℕ × ClientCall) → List ClientCall
of_client c [] = []
of_client c (x ∷ xs) = if x.0 == c then x.1 ∷ of_client c xs else of_client c xs

-- The log of a client's table.
abbrev pub log_of : World → ℕ → List Note
log_of w c = notes (pos 0) (of_client c w.calls)

-- The duration that a client asks for: the last that was set, and the configured lease before.
abbrev pub asked_by : ℕ → World → ℤ
asked_by c w = unwrap_or (option_map (λ (x : ℕ × ℤ). x.1) (find (λ (x : ℕ × ℤ). x.0 == c) w.settings)) (pos w.config.lease_ms)

abbrev pub with_sent : ℕ → ℤ → Option Plan → List SentCall → List SentCall
with_sent c asked (Some plan) sent = sent ++ record { client = c; asked = asked; plan = plan } ∷ []
with_sent c asked None sent = sent

-- A call of a client's table. The lease call that it plans is sent.
abbrev pub called : ℕ → ClientCall → World → World
called c x w = record w {
  calls = (c, x) ∷ w.calls;
  sent = with_sent c (asked_by c w) (plan_of (pos 0) (log_of w c) x) w.sent;
}

-- ---- the server

abbrev pub history : World → History
history w = places w.config w.events

-- The rows of the server's table: what its history exports.
abbrev pub rows_of : World → List Exported
rows_of w = table w.config (history w)

-- The event of a turn that is made now.
abbrev pub event_now : World → ℕ → Ask → Event
event_now w by ask = record { by = by; moment = w.moment; ask = ask }

abbrev pub turned : ℕ → Ask → World → World
turned by ask w = record w { events = with_event w.events (event_now w by ask) }

abbrev pub ask_as : ℕ → ℤ → Plan → Ask
ask_as c asked (plans.Dirty number ids) = asks.Dirty (client c) number asked ids
ask_as c asked (plans.Clean number ids strong) = asks.Clean (client c) number ids strong

-- What a lease call that arrives asks the server. A clean call asks for no duration.
abbrev pub ask_of : SentCall → Ask
ask_of m = ask_as m.client m.asked m.plan

abbrev pub granted_in : Reply → ℕ
granted_in (Granted duration) = duration
granted_in _ = 0

-- The sent call m, of the number k, arrives: it makes its turn by its client's connection.
abbrev pub delivered : ℕ → SentCall → World → World
delivered k m w =
    let e = event_now w (m.client + 1) (ask_of m) in
    record (turned (m.client + 1) (ask_of m) w) { deliveries = record { call = k; granted = granted_in (reply w.config (history w) e) } ∷ w.deliveries }

-- The last delivery of a sent call.
abbrev pub last_delivery : World → ℕ → Option Delivery
last_delivery w k = find (λ d. d.call == k) w.deliveries

-- The answer to a delivered call, at its client: to a dirty call what its last delivery granted; a clean call is closed.
abbrev pub answer_to : ℕ → ℕ → Plan → ClientCall
answer_to now granted (plans.Dirty number ids) = Answers number granted now
answer_to now granted (plans.Clean number ids strong) = Fails number

-- The number of a sent call.
abbrev pub call_number : SentCall → ℤ
call_number m = number_of m.plan

-- ---- steps

-- What was done in a world: a step that was taken, or the part of a `Make` that stands where the server refused to return.
pub data Deed : Type 0 where
  Taken : Step → Deed
  CutMake : Deed

abbrev pub if_some : {X : Type 0} → Option X → (X → World → World) → World → World
if_some (Some x) f w = f x w
if_some None f w = w

abbrev pub begin : Ask
begin = asks.Begin maker

-- A return of one new object of the kind 1.
abbrev pub finish_by : Uid → Ask
finish_by identifier = asks.Finish maker (1 ∷ []) [] identifier

abbrev pub finish : ℕ → Ask
finish made = finish_by (uid made)

abbrev pub begun : World → World
begun w = turned 0 begin w

abbrev pub answered : ℕ → SentCall → World → World
answered k m w = if_some (last_delivery w k) (λ d. called m.client (answer_to w.moment d.granted m.plan)) w

abbrev pub if_client : ℕ → (World → World) → World → World
if_client c f w = if nat_lt c w.clients then f w else w

-- The world after a step. An earlier moment is no step and changes nothing, and so is what names no client or no call.
abbrev pub after_step : Step → World → World
after_step (steps.At moment) w = record w { moment = max w.moment moment }
after_step steps.Make w = record (turned 0 (finish w.made) (begun w)) { made = w.made + 1 }
after_step (steps.Ack make) w = turned 0 (asks.Ack (uid make)) w
after_step (steps.Register c number) w = if_client c (called c (Registers (object number))) w
after_step (steps.Release c number) w = if_client c (called c (Drops (object number) w.moment)) w
after_step (steps.Due c) w = if_client c (called c (Dues w.moment)) w
after_step (steps.Deliver k) w = if_some (nth w.sent k) (delivered k) w
after_step (steps.Answer k) w = if_some (nth w.sent k) (answered k) w
after_step (steps.Fail k) w = if_some (nth w.sent k) (λ m. called m.client (Fails (call_number m))) w
after_step steps.Tick w = turned 0 asks.Tick w
after_step (steps.Ask c asked) w = if_client c (λ w. record w { settings = (c, asked) ∷ w.settings }) w

unfoldable pub after : Deed → World → World
after (Taken step) w = after_step step w
after CutMake w = turned 0 (asks.Abandon maker) (begun w)

-- ---- when a step is refused

abbrev pub if_fault : Bool → WorldFault → Option WorldFault → Option WorldFault
if_fault true fault otherwise = Some fault
if_fault false fault otherwise = otherwise

abbrev pub bad_if : Bool → Option WorldFault → Option WorldFault
bad_if b otherwise = if_fault b BadStep otherwise

-- The server refuses a turn that is made now.
abbrev pub turn_fault : World → ℕ → Ask → Option WorldFault
turn_fault w by ask = option_map SpaceRefused (refusal (limits w.config) w.config (history w) (event_now w by ask))

abbrev pub first_of : Option WorldFault → Option WorldFault → Option WorldFault
first_of (Some fault) next = Some fault
first_of None next = next

abbrev pub no_client : World → ℕ → Bool
no_client w c = nat_le w.clients c

-- A number is needed, and none is left.
abbrev pub spent_fault : World → ℕ → ClientCall → Option WorldFault
spent_fault w c x = if_fault (is_spent (pos 0) (log_of w c) x) (ClientRefused NumbersSpent) None

-- The reference is not there, and there is no room for it.
abbrev pub full_fault : World → ℕ → ObjId → Option WorldFault
full_fault w c o = if_fault (not (has_ref o (refs (pos 0) (log_of w c))) && is_full (pos 0) (log_of w c)) (ClientRefused FullRefs) None

abbrev pub sent_fault : Option SentCall → (SentCall → Option WorldFault) → Option WorldFault
sent_fault (Some m) f = f m
sent_fault None f = Some BadStep

-- The fault for which a world refuses a step, where memory is never wanting.
unfoldable pub fault_of : World → Step → Option WorldFault
fault_of w (steps.At moment) = bad_if (nat_lt moment w.moment || nat_le END_OF_TIME moment) None
fault_of w steps.Make = first_of (turn_fault w 0 begin) (turn_fault (begun w) 0 (finish w.made))
fault_of w (steps.Ack make) = bad_if (nat_le (2 ^ 63) make) (turn_fault w 0 (asks.Ack (uid make)))
fault_of w (steps.Register c number) = bad_if (no_client w c) (full_fault w c (object number))
fault_of w (steps.Release c number) = bad_if (no_client w c) (spent_fault w c (Drops (object number) w.moment))
fault_of w (steps.Due c) = bad_if (no_client w c) (spent_fault w c (Dues w.moment))
fault_of w (steps.Deliver k) = sent_fault (nth w.sent k) (λ m. turn_fault w (m.client + 1) (ask_of m))
fault_of w (steps.Answer k) = bad_if (not (is_some (last_delivery w k))) None
fault_of w (steps.Fail k) = sent_fault (nth w.sent k) (λ m. None)
fault_of w steps.Tick = turn_fault w 0 asks.Tick
fault_of w (steps.Ask c asked) = bad_if (no_client w c || not (int_le asked (pos MAX_DURATION_MS))) None

-- ---- the world of a list of steps

abbrev pub config_of : ℕ → ℕ → SpaceConfig
config_of lease ack = record { lease_ms = lease; ack_ms = ack; uid = uid 0; stored = true }

-- A world's course: its lease, its time to acknowledge, how many clients it has, and what was done in it, the newest first.
pub record Course : Type 0 where
  pub lease_ms : ℕ
  pub ack_ms : ℕ
  pub clients : ℕ
  pub deeds : List Deed

-- The space begins with the export of the object that makes the others.
abbrev pub first_events : List Event
first_events = record { by = 0; moment = 0; ask = asks.Open 2 true } ∷ []

-- The world of no steps: the server has the object that makes the others.
unfoldable pub fresh : ℕ → ℕ → ℕ → World
fresh lease ack clients = record {
  config = config_of lease ack;
  clients = clients;
  moment = 0;
  made = 0;
  calls = [];
  settings = [];
  events = first_events;
  sent = [];
  deliveries = [];
}

unfoldable pub world_after : World → List Deed → World
world_after start [] = start
world_after start (deed ∷ deeds) = after deed (world_after start deeds)

unfoldable pub world : Course → World
world course = world_after (fresh course.lease_ms course.ack_ms course.clients) course.deeds

-- The course with one more deed.
abbrev pub with_deed : Deed → Course → Course
with_deed deed course = record course { deeds = deed ∷ course.deeds }

-- ---- the promise

-- A good answer of the dirty call of this number.
abbrev pub is_good_of : Option Good → ℤ → Bool
is_good_of (Some g) number = int_eq number g.dirty.number
is_good_of None number = false

-- A good answer of the dirty call of this number confirms the reference.
abbrev pub confirms_by : ℤ → Ref → Note → Bool
confirms_by number r n = asks_in n.good r && is_good_of n.good number

abbrev pub sure_by : ℤ → List Note → Option Ref → Bool
sure_by number ns (Some r) = once_then (confirms_by number r) (λ n. n.timely) ns
sure_by number ns None = false

-- The client's dirty call of this number made its reference to the object sure: a good answer of it came, and every later due and every later
-- good answer came before the end of the client's time.
unfoldable pub made_sure : World → ℕ → ObjId → ℤ → Bool
made_sure w c o number = sure_by number (log_of w c) (find (λ r. same_id r.id o) (refs (pos 0) (log_of w c)))

-- A dirty call of the client, of this number, that names the object.
abbrev pub is_dirty_for : Client → ObjId → ℤ → Ask → Bool
is_dirty_for c o number (asks.Dirty by n asked objects) = same_client by c && int_eq n number && list_any (λ y. same_id y o) objects
is_dirty_for c o number _ = false

-- At some delivery of the client's dirty call of this number the object was in the table.
unfoldable pub was_met : World → ℕ → ObjId → ℤ → Bool
was_met w c o number = list_any (λ p. is_dirty_for (client c) o number p.event.ask && has p.table_before o) (history w)

-- The client's reference to the object is usable now.
unfoldable pub is_usable_now : World → ℕ → ObjId → Bool
is_usable_now w c o = is_usable (pos 0) (log_of w c) o w.moment

-- The premise of the promise: a client's reference is usable, and at some delivery of the dirty call that made it sure the object was exported.
pub record IsPromised (w : World) (c : ℕ) (o : ObjId) : Type 0 where
  -- the number of that dirty call
  pub number : ℤ
  pub usable : is_usable_now w c o ≡ true
  pub sure : made_sure w c o number ≡ true
  pub met : was_met w c o number ≡ true

-- The promise: what is promised is among these rows of the server's table.
abbrev pub KeepsPromise : World → List Exported → Type 0
KeepsPromise w rows = (c : ℕ) (o : ObjId) → IsPromised w c o → has rows o ≡ true

-- The same of the table of the world's history.
abbrev pub WorldKeepsPromise : Course → Type 0
WorldKeepsPromise course = KeepsPromise (world course) (rows_of (world course))
