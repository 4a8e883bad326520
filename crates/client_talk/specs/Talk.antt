-- A talk: what a script led to, as deeds, and how it ended.
use Rattle.std.specs.Prelude.{◌≡◌, ◌⊎◌, ℕ, ◌+◌, ◌<◌, ◌≤◌, List, [], ◌∷◌, ◌++◌, length, map, Option, Some, None, Result, Ok, Err, nat_eq, if◌then◌else◌, IsTrue}
use Rattle.std.specs.List.{flat_map}
use Rattle.wire_io.specs.Wire.{ReadHalf, WriteHalf, with_front, with_end, NothingLeft, Gave}
use Rattle.wire_io.specs.Links.{Dialed}
use Rattle.client_talk.specs.declared.place.Place.{Place}
use Rattle.client_talk.specs.Scripts.{Cause, by_memory, by_dial, by_read, by_write, by_shortage, by_answer, by_table, Protocol, Script, dials, asks, tells, reads_clock, done, halts, Coming, plays}

-- The bytes of a message, the link on which they were sent, and the bytes that were taken there for it.
pub record Row : Type 0 where
  pub link : ℕ
  pub sent : List ℕ
  pub taken : List ℕ

-- Nothing was sent and nothing taken.
abbrev pub IsNothing : Row → Type 0
IsNothing row = (row.sent ≡ []) × (row.taken ≡ [])

-- What was done: a link was dialled, whose own end has this host; a message sent and its reply taken; a message sent; or the clock read.
pub data Deed (p : Protocol) : Type 0 where
  dialed : Place → List ℕ → Deed p
  asked : p.Message → p.Answer → Row → Deed p
  told : p.Message → Row → Deed p
  read_clock : ℕ → Deed p
  -- what was sent and taken of a row that was cut
  cut : Row → Deed p

-- ---- what deeds come to

abbrev pub rows_of : {p : Protocol} → Deed p → List Row
rows_of (asked message answer row) = row ∷ []
rows_of (told message row) = row ∷ []
rows_of (cut row) = row ∷ []
rows_of _ = []

abbrev pub moments_of : {p : Protocol} → Deed p → List ℕ
moments_of (read_clock moment) = moment ∷ []
moments_of _ = []

abbrev pub places_of : {p : Protocol} → Deed p → List Place
places_of (dialed place host) = place ∷ []
places_of _ = []

abbrev pub hosts_of : {p : Protocol} → Deed p → List (List ℕ)
hosts_of (dialed place host) = host ∷ []
hosts_of _ = []

-- the messages that were sent whole, each with its link's number
abbrev pub said_by : {p : Protocol} → Deed p → List (ℕ × p.Message)
said_by (asked message answer row) = (row.link, message) ∷ []
said_by (told message row) = (row.link, message) ∷ []
said_by _ = []

-- the message whose reply did not come, where the talk ended there
abbrev pub said_last : {p : Protocol} {V : Type 0} → Script p V → List (ℕ × p.Message)
said_last (asks k message next) = (k, message) ∷ []
said_last _ = []

abbrev pub said_in : {p : Protocol} {V : Type 0} → List (Deed p) → Script p V → List (ℕ × p.Message)
said_in ds last = flat_map said_by ds ++ said_last last

abbrev pub sent_by : ℕ → Row → List ℕ
sent_by k row = if nat_eq k row.link then row.sent else []

abbrev pub taken_by : ℕ → Row → List ℕ
taken_by k row = if nat_eq k row.link then row.taken else []

-- what was sent and taken on the link of this number
abbrev pub sent_on : {p : Protocol} → ℕ → List (Deed p) → List ℕ
sent_on k ds = flat_map (sent_by k) (flat_map rows_of ds)

abbrev pub taken_on : {p : Protocol} → ℕ → List (Deed p) → List ℕ
taken_on k ds = flat_map (taken_by k) (flat_map rows_of ds)

-- ---- how a script leads

-- After these deeds, the script asks for this next, and afterwards for that.
abbrev pub IsNext : {p : Protocol} {V : Type 0} → Script p V → List (Deed p) → Deed p → Script p V → Type 0
IsNext (dials place next) ds (dialed place2 host) after = (place2 ≡ place) × (after ≡ next host)
IsNext {p = p} (asks k message next) ds (asked message2 answer row) after =
    (row.link ≡ k) × (message2 ≡ message) × p.IsMessage message row.sent × p.IsReply message (length (taken_on k ds)) row.taken answer × (after ≡ next answer)
IsNext {p = p} (tells k message next) ds (told message2 row) after =
    (row.link ≡ k) × (message2 ≡ message) × p.IsMessage message row.sent × (row.taken ≡ []) × (after ≡ next)
IsNext (reads_clock next) ds (read_clock moment) after = after ≡ next moment
IsNext _ _ _ _ = ⊥

-- Behind the first of these deeds, the second ones lead through the script, each the one that it asks for next.
abbrev pub LeadsFrom : {p : Protocol} {V : Type 0} → Script p V → List (Deed p) → List (Deed p) → Script p V → Type 0
LeadsFrom s before [] after = after ≡ s
LeadsFrom {p = p} {V = V} s before (d ∷ ds) after = (mid : Script p V) × IsNext s before d mid × LeadsFrom mid (before ++ d ∷ []) ds after

abbrev pub Leads : {p : Protocol} {V : Type 0} → Script p V → List (Deed p) → Script p V → Type 0
Leads s ds after = LeadsFrom s [] ds after

-- ---- ends

-- Nothing but memory or a sink can end the sending of a message.
abbrev pub IsBySending : Cause → Type 0
IsBySending by_memory = Unit {0}
IsBySending by_write = Unit {0}
IsBySending _ = ⊥

-- Where each end stands, by what the script asks for there, the row that was cut, and what is left on its link, where that is told.
abbrev pub EndsAt : {p : Protocol} {V : Type 0} → Script p V → List (Deed p) → Row → Option (List ℕ) → p.End → Type 0
EndsAt {p = p} (dials place next) ds row rest end = (p.cause end ≡ by_dial) × IsNothing row
EndsAt {p = p} (asks k message next) ds row rest end = (row.link ≡ k) × p.Stops message (length (taken_on k ds)) row.sent row.taken rest end
EndsAt {p = p} (tells k message next) ds row rest end =
    (row.link ≡ k) × (row.taken ≡ []) × IsBySending (p.cause end) × p.Stops message (length (taken_on k ds)) row.sent [] rest end
EndsAt (halts end2) ds row rest end = (end ≡ end2) × IsNothing row
EndsAt _ ds row rest end = ⊥

-- The script ended here, after these deeds. Want of memory may come anywhere.
abbrev pub Ends : {p : Protocol} {V : Type 0} → Script p V → List (Deed p) → Row → Option (List ℕ) → Result V p.End → Type 0
Ends (done value) ds row rest (Ok value2) = (value2 ≡ value) × IsNothing row
Ends _ ds row rest (Ok _) = ⊥
Ends {p = p} s ds row rest (Err end) = ((p.cause end ≡ by_memory) × IsNothing row) ⊎ EndsAt s ds row rest end

-- ---- what is seen of the links

-- A link: its two halves, and the position of the next byte that is taken.
pub record Seen : Type 0 where
  pub read : ReadHalf
  pub write : WriteHalf
  pub position : ℕ

-- A link as it was dialled, and as it is now.
pub record Linked : Type 0 where
  pub start : Dialed
  pub seen : Seen

abbrev pub linked : Dialed → Seen → Linked
linked start seen = record { start = start; seen = seen }

-- the place at which a link was dialled, and the host of its own end
abbrev pub place_of : Linked → Place
place_of l = record { host = l.start.asked_host; port = l.start.asked_port }

abbrev pub host_of : Linked → List ℕ
host_of l = l.start.link.host

-- These deeds led a link from what it was when it was dialled to what it is. Neither half was shut.
pub record WentOn {p : Protocol} (ds : List (Deed p)) (k : ℕ) (l : Linked) : Type 0 where
  pub left : l.start.link.left ≡ with_front (taken_on k ds) l.seen.read.left
  pub held : l.seen.write.held ≡ with_end l.start.link.held (sent_on k ds)
  pub read_open : l.seen.read.shut ≡ None
  pub write_open : l.seen.write.shut ≡ None

-- of each link, by its number, the first being n
abbrev pub EachFrom : (ℕ → Linked → Type 0) → ℕ → List Linked → Type 0
EachFrom P n [] = Unit {0}
EachFrom P n (l ∷ ls) = P n l × EachFrom P (n + 1) ls

-- These deeds were done on these links, in order of dialling, and on no others, at the moments that the clock gave.
pub record Went {p : Protocol} (ds : List (Deed p)) (links : List Linked) (given given2 : Option (List ℕ)) : Type 0 where
  pub places : flat_map places_of ds ≡ map place_of links
  pub hosts : flat_map hosts_of ds ≡ map host_of links
  pub each : EachFrom (WentOn ds) 0 links
  pub others : (k : ℕ) → length links ≤ k → (sent_on k ds ≡ []) × (taken_on k ds ≡ [])
  pub moments : Gave given given2 (flat_map moments_of ds)

-- What an end shows of the link on which it came.
abbrev pub ShowsBy : Cause → Seen → Type 0
ShowsBy by_shortage seen = NothingLeft seen.read.left
ShowsBy by_read seen = 0 < seen.read.faults
ShowsBy by_write seen = 0 < seen.write.faults
ShowsBy _ seen = Unit {0}

abbrev pub Shows : {V : Type 0} (p : Protocol) → Result V p.End → Seen → Type 0
Shows p (Ok value) seen = Unit {0}
Shows p (Err end) seen = ShowsBy (p.cause end) seen

-- The end came on the link of the row that was cut.
abbrev pub IsOnLinkBy : Cause → Type 0
IsOnLinkBy by_shortage = Unit {0}
IsOnLinkBy by_read = Unit {0}
IsOnLinkBy by_write = Unit {0}
IsOnLinkBy _ = ⊥

abbrev pub IsOnLink : {V : Type 0} (p : Protocol) → Result V p.End → Type 0
IsOnLink p (Ok value) = ⊥
IsOnLink p (Err end) = IsOnLinkBy (p.cause end)

-- ---- that a talk is what its bytes, hosts and moments make of the script

-- Nothing outside failed, and there was memory.
abbrev pub IsSettledBy : Cause → Type 0
IsSettledBy by_shortage = Unit {0}
IsSettledBy by_answer = Unit {0}
IsSettledBy by_table = Unit {0}
IsSettledBy _ = ⊥

abbrev pub IsSettled : {V : Type 0} (p : Protocol) → Result V p.End → Type 0
IsSettled p (Ok value) = Unit {0}
IsSettled p (Err end) = IsSettledBy (p.cause end)

-- Each link tells its bytes, and had these when it was dialled.
abbrev pub AreTold : (ℕ → List ℕ) → List Linked → Type 0
AreTold wholes links = EachFrom (λ k l. l.start.link.left ≡ Some (wholes k)) 0 links

-- what the links that have these bytes have to come, when they are dialled
abbrev pub from_start : (ℕ → List ℕ) → ℕ → Coming
from_start wholes k = record { position = 0; bytes = wholes k }

-- Where nothing outside failed, the messages that were sent and the end are those that the bytes, hosts and moments told give, or memory lacked.
abbrev pub EndsExactly : {p : Protocol} {V : Type 0} → Script p V → List Linked → Option (List ℕ) → Option (List ℕ) → Result V p.End → List (ℕ × p.Message) → Type 0
EndsExactly {p = p} s links given given2 result said = IsSettled p result → (wholes : ℕ → List ℕ) (before moments : List ℕ) → AreTold wholes links
    → given ≡ Some before → given2 ≡ Some (before ++ moments)
    → plays s (from_start wholes) (map host_of links) moments ≡ record { said = said; end = Some result }

-- The talk: the script was begun, and ended so.
pub record Talks {p : Protocol} {V : Type 0} (s : Script p V) (links : List Linked) (given given2 : Option (List ℕ)) (result : Result V p.End) : Type 0 where
  pub deeds : List (Deed p)
  pub last : Script p V
  pub row : Row
  pub rest : Option (List ℕ)
  pub leads : Leads s deeds last
  pub ended : Ends last deeds row rest result
  pub rest_is : EachFrom (λ k l. IsTrue (nat_eq k row.link) → l.seen.read.left ≡ rest) 0 links
  pub went : Went (deeds ++ cut row ∷ []) links given given2
  pub shows : EachFrom (λ k l. IsTrue (nat_eq k row.link) → Shows p result l.seen) 0 links
  pub known : IsOnLink p result → row.link < length links
  pub exact : EndsExactly s links given given2 result (said_in deeds last)
