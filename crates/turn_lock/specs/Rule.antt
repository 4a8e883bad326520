-- The rule of the turn lock: what its words, its slot and its seats have to do with one history; and what each atomic step tells the seat
-- that takes it.
use Rattle.std.specs.Prelude.{◌≡◌, ◌≢◌, ◌==◌, ltb, ℕ, suc, ◌+◌, ◌-◌, ◌%◌, ◌<◌, ◌≤◌, pos, Bool, true, false, List, [], ◌∷◌, ◌++◌, length, filter, sum_by, Contains, if◌then◌else◌, Result, Ok, Err, Option, Some, ◌⊎◌}
use mathlib.Core.Option.{some, none}
use mathlib.Core.Option as maybe
use lib.ListN.{get_elem?}
use Rattle.atomic_table.specs.Table.{State, Me, Step, rest}
use Rattle.object_ids.specs.declared.ids.ObjId.{ObjId}
use Rattle.history.specs.declared.asks.SpaceConfig.{SpaceConfig}
use Rattle.history.specs.declared.asks.Event.{Event}
use Rattle.history.specs.declared.asks.Ask.{Ask}
use Rattle.history.specs.declared.asks.Ask.TheVariants.{Abandon, Tick}
use Rattle.history.specs.declared.replies.Refused.{Refused}
use Rattle.history.specs.declared.replies.Refused.TheVariants.{OutOfMemory}
use Rattle.history.specs.declared.replies.Turn.{Turn}
use Rattle.history.specs.Steps as history
use Rattle.history.specs.Running.{running_calls_by}
use Rattle.history.specs.Table.{with_event, places, table}
use Rattle.space.specs.Acts.{event_of}
use Rattle.ports.specs.Balance.{AreOfOthers}
use Rattle.space.specs.Built.{SpaceHistory, space_of}
use Rattle.space.specs.TurnAnswers.{IsAnswerTo}
use Rattle.space.specs.declared.asked.Asked.{Asked}
use Rattle.turn_lock.specs.declared.view.View.{View}
use Rattle.turn_lock.specs.declared.view.SeatState.{SeatState}
use Rattle.turn_lock.specs.declared.view.SeatState.TheVariants.{Idle, Drawn, Called}

-- How many passes a lock makes at most.
abbrev pub most_passes : ℕ
most_passes = 4294967295

-- ---- histories

-- The events of a history, the oldest first.
abbrev pub Events : Type 0
Events = List Event

abbrev pub StartsWith : Events → Events → Type 0
StartsWith h front = (rest : Events) × (h ≡ front ++ rest)

-- The events of a connection's number.
abbrev pub events_by : ℕ → Events → Events
events_by by h = filter (λ e. e.by == by) h

abbrev pub longer : Events → Events → Events
longer xs ys = if ltb (length xs) (length ys) then ys else xs

abbrev pub space_with : SpaceConfig → Events → SpaceHistory
space_with config h = space_of config h

-- ---- what seats know

abbrev pub no_config : SpaceConfig
no_config = record { lease_ms = 0; ack_ms = 0; uid = record { unique = pos 0; time = pos 0; count = pos 0 }; stored = true }

abbrev pub some_event : Event
some_event = record { by = 0; moment = 0; ask = Tick }

-- The first seat of a table round this space, which has all parts.
abbrev pub root : SpaceHistory → View
root s = record { number = 0; parts = 4294967296; config = s.configuration; opening = s.events; seen = s.events; heard = []; own = []; state = Idle; made = 0; ended = [] }

-- A seat that was joined.
abbrev pub spent_seat : View
spent_seat = record { number = 0; parts = 0; config = no_config; opening = []; seen = []; heard = []; own = []; state = Idle; made = 0; ended = [] }

abbrev pub in_state : View → SeatState → View
in_state v g = record v { state = g }

-- Of the events after the opening ones a history has just these of this number.
abbrev pub HasOwn : Events → ℕ → Events → Events → Type 0
HasOwn opening number own h = (tail : Events) × (h ≡ opening ++ tail) × (events_by number tail ≡ own)

-- A history to which a pass may come that has seen less of it: the further events are of other connections. It is legal, and of the events
-- after the opening ones it has just the pass's own of its number.
pub record ComesTo (config : SpaceConfig) (number : ℕ) (opening seen own h : Events) : Type 0 where
  pub others : Events
  pub after : h ≡ seen ++ others
  pub apart : AreOfOthers number others
  pub legal : history.IsLegal config h
  pub has_own : HasOwn opening number own h

abbrev pub MayComeTo : View → Events → Type 0
MayComeTo v h = ComesTo v.config v.number v.opening v.seen v.own h

-- A pass has seen more of the history, and made no turn.
abbrev pub SeesMore : View → View → Type 0
SeesMore v w = (h : Events) × MayComeTo v h × (w ≡ record v { seen = h })

-- ---- the rule

-- The slot's value, where it is at home.
abbrev pub at_home : Bool → SpaceHistory → maybe.Option (Option SpaceHistory)
at_home true s = none
at_home false s = some (Some s)

-- Tickets are counted without end, and a word has what is left of the count modulo 2^64.
abbrev pub word_of : ℕ → ℕ
word_of count = count % 18446744073709551616

-- How many tickets a seat has.
abbrev pub tickets_of : SeatState → ℕ
tickets_of Idle = 0
tickets_of (Drawn word) = 1
tickets_of (Called word hand) = 1

-- What a seat waits for: a ticket that was drawn is its own and still to be served; one that is called has the slot, and the whole history
-- in hand. It knows the word of its ticket.
abbrev pub Waits : ℕ → ℕ → Bool → Events → (ℕ → ℕ) → ℕ → SeatState → Type 0
Waits ticket serving out log owner j Idle = Unit {0}
Waits ticket serving out log owner j (Drawn word) = (t : ℕ) × (word ≡ word_of t) × (serving ≤ t) × (t < ticket) × (owner t ≡ j)
Waits ticket serving out log owner j (Called word hand) = (word ≡ word_of serving) × (serving < ticket) × (owner serving ≡ j) × (hand ≡ log) × (out ≡ true)

-- What a seat knows is so: its number is its place, what it has seen begins the history, and its own events are those of its number after
-- the opening, in all of the history and in what it has seen.
pub record KnowsOf (s : SpaceHistory) (tail : Events) (j number : ℕ) (config : SpaceConfig) (opening seen heard own : Events) : Type 0 where
  pub numbered : number ≡ j
  pub configured : config ≡ s.configuration
  pub opened : opening ≡ s.events
  pub begun : StartsWith (s.events ++ tail) seen
  pub begun_heard : StartsWith (s.events ++ tail) heard
  pub owned : events_by j tail ≡ own
  pub owned_seen : HasOwn s.events j own seen

abbrev pub Knows : SpaceHistory → Events → ℕ → View → Type 0
Knows s tail j v = KnowsOf s tail j v.number v.config v.opening v.seen v.heard v.own

pub record SeatFits (s : SpaceHistory) (tail : Events) (ticket serving : ℕ) (out : Bool) (owner : ℕ → ℕ) (j : ℕ) (v : View) : Type 0 where
  pub mine : 0 < v.parts → Knows s tail j v
  pub still : v.parts ≡ 0 → v.state ≡ Idle
  pub waits : Waits ticket serving out (s.events ++ tail) owner j v.state

-- A pass that has ended made these events, and has no part any more.
abbrev pub HasEnded : Events → List View → ℕ × Events → Type 0
HasEnded tail views p = (events_by p.0 tail ≡ p.1) × ((u : View) × (get_elem? views p.0 ≡ some u) × (u.parts ≡ 0))

-- A table round a space: the words are those of the tickets and the length of one history, which is legal and goes on from the space's; the
-- slot has the space with this history, but while the pass that is called has it out; each seat knows what is so; the seats have as many
-- tickets as are still to be served, which is at most one for each part, so that of these no two have one word; and no event after the
-- opening has a number that no pass has.
pub record KeepsRule (s : SpaceHistory) (t : State (Option SpaceHistory) View) : Type 0 where
  pub ticket : ℕ
  pub serving : ℕ
  pub tail : Events
  pub out : Bool
  pub owner : ℕ → ℕ
  pub words : t.words ≡ word_of ticket ∷ word_of serving ∷ length (s.events ++ tail) ∷ []
  pub order : serving ≤ ticket
  pub legal : history.IsLegal s.configuration (s.events ++ tail)
  pub home : t.homes ≡ at_home out (space_with s.configuration (s.events ++ tail)) ∷ []
  pub caller : out ≡ true → (v : View) × (get_elem? t.views (owner serving) ≡ some v) × (v.state ≡ Called (word_of serving) (s.events ++ tail))
  pub each : (j : ℕ) (v : View) → get_elem? t.views j ≡ some v → SeatFits s tail ticket serving out owner j v
  pub strangers : (n : ℕ) → length t.views ≤ n → events_by n tail ≡ []
  pub waiting : sum_by (λ v. tickets_of v.state) t.views + serving ≡ ticket
  pub parts : sum_by (λ v. v.parts) t.views ≡ 4294967296
  pub counted : (v : View) → get_elem? t.views 0 ≡ some v → length t.views ≡ suc v.made
  pub ended : (v : View) → get_elem? t.views 0 ≡ some v → (p : ℕ × Events) → Contains v.ended p → HasEnded tail t.views p
  pub spent_ones : (v : View) → get_elem? t.views 0 ≡ some v → (j : ℕ) (u : View) → get_elem? t.views j ≡ some u → u.parts ≡ 0 → (l : Events) × Contains v.ended (j, l)

-- ---- what the steps tell

abbrev pub Sat : Type 0
Sat = Me (Option SpaceHistory) View

abbrev pub At : Type 0
At = Step (Option SpaceHistory)

-- The slot, with this space in it.
abbrev pub holding : SpaceHistory → List (ℕ × Option SpaceHistory)
holding s = (0, Some s) ∷ []

abbrev pub DrawsTicket : At → Sat → ℕ → Sat → Type 0
DrawsTicket st m n m' = m' ≡ (in_state m.0 (Drawn n), m.1)

-- Where the word is the ticket's, the seat has the slot with the space, and knows its history.
abbrev pub LooksAtServing : At → Sat → ℕ → Sat → Type 0
LooksAtServing st m n m' = (t : ℕ) → m.0.state ≡ Drawn t
    → (n ≡ t → (h : Events) × (m' ≡ (in_state m.0 (Called n h), holding (space_with m.0.config h))) × MayComeTo m.0 h) × (n ≢ t → m' ≡ m)

abbrev pub PublishesEvent : Event → At → Sat → ℕ → Sat → Type 0
PublishesEvent e st m n m' = (t : ℕ) (h : Events) → m.0.state ≡ Called t h → m' ≡ (record m.0 { seen = with_event h e; own = m.0.own ++ e ∷ []; state = Called t (with_event h e) }, m.1)

abbrev pub PassesOver : At → Sat → ℕ → Sat → Type 0
PassesOver st m n m' = (t : ℕ) (h : Events) → m.0.state ≡ Called t h → m' ≡ (record m.0 { seen = h; state = Called t h }, m.1)

abbrev pub AdvancesServing : At → Sat → ℕ → Sat → Type 0
AdvancesServing st m n m' = m' ≡ (in_state m.0 Idle, rest m.1)

-- The longer of what was seen and what was told of is seen, which begins with both and has the seat's own events. No seat has more parts than
-- there are.
abbrev pub AbsorbsSeen : At → Sat → ℕ → Sat → Type 0
AbsorbsSeen st m n m' =
    (m' ≡ (record m.0 { seen = longer m.0.seen m.0.heard }, m.1)) × StartsWith m'.0.seen m.0.seen × StartsWith m'.0.seen m.0.heard
    × HasOwn m'.0.opening m'.0.number m'.0.own m'.0.seen × (m.0.parts ≤ 4294967296)

abbrev pub left_of : View → View
left_of v = record v { parts = v.parts - 1; made = v.made + 1 }

abbrev pub right_of : View → View
right_of v = record { number = v.made + 1; parts = 1; config = v.config; opening = v.opening; seen = v.seen; heard = []; own = []; state = Idle; made = 0; ended = [] }

abbrev pub both_of : View → View → View
both_of v w = record v { parts = v.parts + w.parts; heard = w.seen; ended = v.ended ++ (w.number, w.own) ∷ [] }

-- ---- what calls do

-- The root after it joined a pass.
abbrev pub joined_of : View → View → View
joined_of v w = record v { parts = v.parts + w.parts; seen = longer v.seen w.seen; heard = w.seen; ended = v.ended ++ (w.number, w.own) ∷ [] }

-- A pass's own events after this answer.
abbrev pub own_after : Events → Event → Result Turn Refused → Events
own_after own e (Ok turn) = with_event own e
own_after own e (Err refused) = own

-- The history after this answer.
abbrev pub events_answered : Events → Event → Result Turn Refused → Events
events_answered h e (Ok turn) = with_event h e
events_answered h e (Err refused) = h

-- The seat once the answer to its event is published.
abbrev pub seat_after_answer : View → ℕ → Events → Event → Result Turn Refused → View
seat_after_answer v t h e answer = record v { seen = events_answered h e answer; own = own_after v.own e answer; state = Called t (events_answered h e answer) }

-- The answer of a turn with its entry.
abbrev pub answer_of : {E : Type 0} → Result (Result Turn Refused × Asked) E → Result Turn Refused
answer_of (Ok noted) = noted.0
answer_of (Err refused) = Err OutOfMemory

-- What a turn with this event and this answer, at this place, does to a pass: the pass may come to the history before it, of which it had
-- seen a beginning; the answer is that of the event there; and afterwards the pass has seen that history, with the event if it was taken.
pub record TurnedAt (v : View) (before : Events) (e : Event) (answer : Result Turn Refused) (w : View) : Type 0 where
  pub came : MayComeTo v before
  pub step : history.Step v.config before e answer w.seen
  pub after : w ≡ record v { seen = w.seen; own = own_after v.own e answer }

-- A pass asked this as connection `by`, was answered so at some place, as the ask may be where the connection runs those calls, and knows this
-- now.
abbrev pub TurnedBy : View → ℕ → ℕ → Ask → Result Turn Refused → View → Type 0
TurnedBy v by moment ask answer w = (before : Events) × TurnedAt v before (event_of by moment ask) answer w × IsAnswerTo (λ o. 0 < running_calls_by (places v.config before) by o) ask answer

-- The same, but where there was no memory for its entry: then the pass made no turn, and knows what it knew.
abbrev pub TurnedWithEntry : View → ℕ → ℕ → Ask → Result Turn Refused → View → Type 0
TurnedWithEntry v by moment ask answer w = TurnedBy v by moment ask answer w ⊎ ((answer ≡ Err OutOfMemory) × (w ≡ v))

-- A pass ended a call of an object that connection `by` ran, without an answer, by an event at this place of the history, and knows this now.
abbrev pub EndedBy : View → ℕ → ℕ → ObjId → ℕ → View → Type 0
EndedBy v by moment object place w =
    (before : Events) × TurnedAt v before (event_of by moment (Abandon object)) (Ok (history.turn_of v.config before (event_of by moment (Abandon object)))) w
    × (place ≡ length before) × (0 < running_calls_by (places v.config before) by object)

-- What a pass of a lock round this space has seen is a legal history that goes on from the space's, and of its further events those of the
-- pass's number are exactly its own, in order.
pub record InOrder (s : SpaceHistory) (v : View) : Type 0 where
  pub legal : history.IsLegal s.configuration v.seen
  pub tail : Events
  pub begins : v.seen ≡ s.events ++ tail
  pub own : events_by v.number tail ≡ v.own

-- All passes have ended: a history is legal, begins with the opening one and with what the root has seen, and its further events are the
-- root's own, those of the passes that were joined, each pass's in its order, and no others. The rows are those of its table.
pub record Settled (s : SpaceHistory) (v : View) (h : SpaceHistory) : Type 0 where
  pub same : h.configuration ≡ s.configuration
  pub legal : history.IsLegal s.configuration h.events
  pub shown : h.rows ≡ table h.configuration (places h.configuration h.events)
  pub tail : Events
  pub begins : h.events ≡ s.events ++ tail
  pub seen : StartsWith h.events v.seen
  pub roots : events_by 0 tail ≡ v.own
  pub joined : (p : ℕ × Events) → Contains v.ended p → events_by p.0 tail ≡ p.1
  pub each : (n : ℕ) → 0 < n → n ≤ v.made → (own : Events) × Contains v.ended (n, own)
  pub no_others : (n : ℕ) → v.made < n → events_by n tail ≡ []
