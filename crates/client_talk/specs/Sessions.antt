-- A session's link and its ends, as a talk sees them.
use Rattle.std.specs.Prelude.{◌≡◌, ◌++◌, ℕ, List, [], ◌∷◌, map, Bool, true, false, Option, Result, Ok, Err}
use Rattle.wire_io.specs.Wire.{ReadHalf, WriteHalf, ShutsRead, ShutsWrite}
use Rattle.wire_io.specs.Links.{Dialed}
use Rattle.wire_io.specs.declared.dialer.Halves.{Halves}
use Rattle.rmi_client.specs.Sessions.{LinkState}
use Rattle.rmi_client.specs.declared.end.ClientEnd.{ClientEnd}
use Rattle.client_talk.specs.Scripts.{Script}
use Rattle.client_talk.specs.Talk.{Seen, Linked, linked, Talks}
use Rattle.client_talk.specs.Steps.{with_all, Tells, Ended}
use Rattle.client_talk.specs.Rmi.{Acknowledge, Reply, rmi}
use Rattle.client_talk.specs.declared.end.CommandEnd.{CommandEnd}
use Rattle.client_talk.specs.declared.end.CommandEnd.TheVariants.{Session}

abbrev pub seen_of : LinkState → Seen
seen_of link = record { read = link.read; write = link.write; position = link.at }

-- a session's end, as one of a command
abbrev pub in_command : {A : Type 0} → Result A ClientEnd → Result A CommandEnd
in_command (Ok a) = Ok a
in_command (Err end) = Err (Session end)

-- what a session's call answers, as an answer of a talk
abbrev pub answered : {A : Type 0} → (A → Reply) → Result A ClientEnd → Result Reply CommandEnd
answered into (Ok a) = Ok (into a)
answered into (Err end) = Err (Session end)

-- A reference was acknowledged in this Return where its flag is set; where it isn't, nothing was done.
abbrev pub Acknowledges : Seen → Seen → List ℕ → Bool → Result (Unit {0}) ClientEnd → Type 0
Acknowledges before after uid true result = Tells rmi before after (Acknowledge uid) (in_command result)
Acknowledges before after uid false result = (after ≡ before) × (result ≡ Ok tt)

-- ---- what a command leaves

abbrev pub ended_as : {I O : Type 0} → (I → ReadHalf) → (O → WriteHalf) → Halves I O → Ended
ended_as read write halves = record { read = read halves.source; write = write halves.sink }

-- These halves of a link were shut.
abbrev pub IsShut : ReadHalf → WriteHalf → Ended → Type 0
IsShut read write e = ShutsRead read e.read × ShutsWrite write e.write

-- These halves were left, shut, behind the others.
abbrev pub Leaves : {I O : Type 0} → (I → ReadHalf) → (O → WriteHalf) → List (Halves I O) → List (Halves I O) → ReadHalf → WriteHalf → Type 0
Leaves read write old new source sink = (e : Ended) × (map (ended_as read write) new ≡ map (ended_as read write) old ++ e ∷ []) × IsShut source sink e

-- A command ended over the one link that it dialled, which was dialled as b, and left its halves.
abbrev pub LeavesTalk : {V I O : Type 0} → (I → ReadHalf) → (O → WriteHalf) → Script rmi V → Dialed → Option (List ℕ) → Option (List ℕ) → List (Halves I O) → List (Halves I O) → Result V CommandEnd → Type 0
LeavesTalk read write s b given given2 old new result = (seen : Seen) × Leaves read write old new seen.read seen.write × Talks s (linked b seen ∷ []) given given2 result

-- The halves of these links were shut, in order of dialling.
abbrev pub AreShut : List Linked → List Ended → Type 0
AreShut [] [] = Unit {0}
AreShut (l ∷ ls) (e ∷ es) = IsShut l.seen.read l.seen.write e × AreShut ls es
AreShut _ _ = ⊥

-- The halves of these links were left, shut, behind the others, in order of dialling.
abbrev pub LeavesEach : {I O : Type 0} → (I → ReadHalf) → (O → WriteHalf) → List (Halves I O) → List (Halves I O) → List Linked → Type 0
LeavesEach read write old new links = (left : List Ended) × (map (ended_as read write) new ≡ map (ended_as read write) old ++ left) × AreShut links left

-- A command ended over two links, which were dialled as these, and left their halves.
abbrev pub LeavesPair : {V I O : Type 0} → (I → ReadHalf) → (O → WriteHalf) → Script rmi V → Dialed → Dialed → Option (List ℕ) → Option (List ℕ) → List (Halves I O) → List (Halves I O) → Result V CommandEnd → Type 0
LeavesPair read write s b0 b1 given given2 old new result = (seen0 seen1 : Seen) × LeavesEach read write old new (linked b0 seen0 ∷ linked b1 seen1 ∷ [])
    × Talks s (linked b0 seen0 ∷ linked b1 seen1 ∷ []) given given2 result

-- A command ended whose first link was dialled as this, and which may have dialled more since; it left the halves of all of them.
abbrev pub LeavesMore : {V I O : Type 0} → (I → ReadHalf) → (O → WriteHalf) → Script rmi V → Dialed → Option (List Dialed) → Option (List Dialed) → Option (List ℕ) → Option (List ℕ)
    → List (Halves I O) → List (Halves I O) → Result V CommandEnd → Type 0
LeavesMore read write s b dialed dialed2 given given2 old new result = (seen : Seen) × (more : List Linked) × (dialed2 ≡ with_all dialed (map (λ (l : Linked). l.start) more))
    × LeavesEach read write old new (linked b seen ∷ more) × Talks s (linked b seen ∷ more) given given2 result
