-- How far a command has come, what one step makes of it, and what a whole command leaves.
use Rattle.std.specs.Prelude.{◌≡◌, ◌⊎◌, ℕ, ◌+◌, ◌<◌, List, [], ◌∷◌, ◌++◌, length, drop, map, Option, Some, Result, Ok, Err, nat_eq, if◌then◌else◌, IsTrue}
use Rattle.std.specs.List.{flat_map}
use Rattle.wire_io.specs.Wire.{ReadHalf, WriteHalf, with_front, with_end}
use Rattle.wire_io.specs.Links.{Dialed, with_next}
use Rattle.client_talk.specs.Scripts.{Cause, by_read, by_write, Protocol, Script, got, stopped, Coming, Played, plays}
use Rattle.client_talk.specs.Talk.{Deed, Leads, Went, Linked, linked, Seen, EachFrom, AreTold, from_start, hosts_of, moments_of, said_by, taken_on, IsBySending, ShowsBy, IsSettledBy, Talks}

-- ---- how far a command has come

-- what the links that had these bytes have to come, after these deeds
abbrev pub coming_after : {p : Protocol} → List (Deed p) → (ℕ → List ℕ) → ℕ → Coming
coming_after ds wholes k = record { position = length (taken_on k ds); bytes = drop (length (taken_on k ds)) (wholes k) }

abbrev pub said_first : {p : Protocol} {V : Type 0} → List (ℕ × p.Message) → Played p V → Played p V
said_first said played = record { said = said ++ played.said; end = played.end }

-- Where the links tell their bytes, the first script comes by them through these deeds to the second one.
abbrev pub PlaysTo : {p : Protocol} {V : Type 0} → Script p V → List (Deed p) → List Linked → Script p V → Type 0
PlaysTo s ds links s2 = (wholes : ℕ → List ℕ) (hosts : List (List ℕ)) (moments : List ℕ) → AreTold wholes links
    → plays s (from_start wholes) (flat_map hosts_of ds ++ hosts) (flat_map moments_of ds ++ moments)
    ≡ said_first (flat_map said_by ds) (plays s2 (coming_after ds wholes) hosts moments)

-- The script s was begun, and what is to do now is s2.
pub record Stands {p : Protocol} {V : Type 0} (s : Script p V) (links : List Linked) (given given2 : Option (List ℕ)) (s2 : Script p V) : Type 0 where
  pub deeds : List (Deed p)
  pub leads : Leads s deeds s2
  pub went : Went deeds links given given2
  pub positions : EachFrom (λ k l. l.seen.position ≡ length (taken_on k deeds)) 0 links
  pub plays_to : PlaysTo s deeds links s2

-- ---- one link among the others

-- the links, with this seen of one of them
abbrev pub with_seen_from : ℕ → ℕ → Seen → List Linked → List Linked
with_seen_from n k seen [] = []
with_seen_from n k seen (l ∷ ls) = (if nat_eq n k then linked l.start seen else l) ∷ with_seen_from (n + 1) k seen ls

abbrev pub with_seen : ℕ → Seen → List Linked → List Linked
with_seen k seen links = with_seen_from 0 k seen links

-- This is seen of the link of this number, which is one of these.
pub record IsAt (k : ℕ) (links : List Linked) (seen : Seen) : Type 0 where
  pub known : k < length links
  pub same : EachFrom (λ n l. IsTrue (nat_eq n k) → l.seen ≡ seen) 0 links

-- ---- what a session's call does on its link

-- This was sent and that taken.
pub record Moves (before after : Seen) (sent taken : List ℕ) : Type 0 where
  pub left : before.read.left ≡ with_front taken after.read.left
  pub held : after.write.held ≡ with_end before.write.held sent
  pub read_shut : after.read.shut ≡ before.read.shut
  pub write_shut : after.write.shut ≡ before.write.shut

-- A message was sent and its reply read, which is what the bytes to come answer, where they are told.
pub record Answers (p : Protocol) (before after : Seen) (message : p.Message) (answer : p.Answer) : Type 0 where
  pub sent : List ℕ
  pub taken : List ℕ
  pub moves : Moves before after sent taken
  pub position : after.position ≡ before.position + length taken
  pub is_message : p.IsMessage message sent
  pub is_reply : p.IsReply message before.position taken answer
  pub gives : (bytes : List ℕ) → before.read.left ≡ Some bytes → p.heard message before.position bytes ≡ got answer (length taken)

-- It came to an end with a message and its reply. Where nothing outside failed, that is what the bytes to come give, where they are told.
pub record Breaks (p : Protocol) (before after : Seen) (message : p.Message) (end : p.End) : Type 0 where
  pub sent : List ℕ
  pub taken : List ℕ
  pub moves : Moves before after sent taken
  pub stops : p.Stops message before.position sent taken after.read.left end
  pub shows : ShowsBy (p.cause end) after
  pub gives : IsSettledBy (p.cause end) → (bytes : List ℕ) → before.read.left ≡ Some bytes → p.heard message before.position bytes ≡ stopped end

-- A message was sent and its reply read, or that came to an end.
abbrev pub Asks : (p : Protocol) → Seen → Seen → p.Message → Result p.Answer p.End → Type 0
Asks p before after message (Ok answer) = Answers p before after message answer
Asks p before after message (Err end) = Breaks p before after message end

-- A message was sent that has no reply.
pub record Sends (p : Protocol) (before after : Seen) (message : p.Message) : Type 0 where
  pub sent : List ℕ
  pub moves : Moves before after sent []
  pub position : after.position ≡ before.position
  pub is_message : p.IsMessage message sent

-- It came to an end with a message that has no reply.
pub record Fails (p : Protocol) (before after : Seen) (message : p.Message) (end : p.End) : Type 0 where
  pub sent : List ℕ
  pub moves : Moves before after sent []
  pub outside : IsBySending (p.cause end)
  pub stops : p.Stops message before.position sent [] after.read.left end
  pub shows : ShowsBy (p.cause end) after

-- A message was sent that has no reply, or that came to an end.
abbrev pub Tells : {A : Type 0} (p : Protocol) → Seen → Seen → p.Message → Result A p.End → Type 0
Tells p before after message (Ok _) = Sends p before after message
Tells p before after message (Err end) = Fails p before after message end

-- What was to do was this and then `next`; now `next` is to do, or the command ended.
abbrev pub Steps : {p : Protocol} {V A : Type 0} → Script p V → ℕ → List Linked → Seen → Option (List ℕ) → Option (List ℕ) → (A → Script p V) → Result A p.End → Type 0
Steps s k links seen given given2 next (Ok a) = Stands s (with_seen k seen links) given given2 (next a)
Steps s k links seen given given2 next (Err end) = Talks s (with_seen k seen links) given given2 (Err end)

-- ---- what a command leaves

-- these too, one after the other
abbrev pub with_all : Option (List Dialed) → List Dialed → Option (List Dialed)
with_all told [] = told
with_all told (x ∷ xs) = with_all (with_next told x) xs

-- The two halves of a link, as they are left.
pub record Ended : Type 0 where
  pub read : ReadHalf
  pub write : WriteHalf

-- These halves of a link are left as they were. Each was shut for the first time then: nothing was taken or sent afterwards.
pub record IsLeft (read : ReadHalf) (write : WriteHalf) (e : Ended) : Type 0 where
  pub left : e.read.left ≡ read.left
  pub misread : e.read.faults ≡ read.faults
  pub held : e.write.held ≡ write.held
  pub miswritten : e.write.faults ≡ write.faults
  pub read_shut : e.read.shut ≡ Some read.left
  pub write_shut : e.write.shut ≡ Some write.held

-- The halves of these links are left so, in order of dialling.
abbrev pub AreLeft : List Linked → List Ended → Type 0
AreLeft [] [] = Unit {0}
AreLeft (l ∷ ls) (e ∷ es) = IsLeft l.seen.read l.seen.write e × AreLeft ls es
AreLeft _ _ = ⊥

-- This holds of one of them.
abbrev pub AnyOf : (Ended → Type 0) → List Ended → Type 0
AnyOf P [] = ⊥
AnyOf P (x ∷ xs) = P x ⊎ AnyOf P xs

-- A fault of reading or writing comes only where the source or the sink of one of the links has failed. (A dialer gives links whose counts are 0.)
abbrev pub BlamesBy : Cause → List Ended → Type 0
BlamesBy by_read left = AnyOf (λ e. 0 < e.read.faults) left
BlamesBy by_write left = AnyOf (λ e. 0 < e.write.faults) left
BlamesBy _ left = Unit {0}

abbrev pub Blames : {V : Type 0} (p : Protocol) → Result V p.End → List Ended → Type 0
Blames p (Ok value) left = Unit {0}
Blames p (Err end) left = BlamesBy (p.cause end) left

-- The command's talk: the links that were dialled in this run are left in `talked`, in order and shut, as the talk led each to from what it was when it was
-- dialled. And where the links and the clock tell, the talk's messages and its end are what their bytes and moments make of the script.
pub record Spoke {p : Protocol} {V : Type 0} (s : Script p V) (dialed dialed2 : Option (List Dialed)) (talked talked2 : List Ended) (given given2 : Option (List ℕ)) (result : Result V p.End) : Type 0 where
  pub links : List Linked
  pub left : List Ended
  pub dialed_are : dialed2 ≡ with_all dialed (map (λ (l : Linked). l.start) links)
  pub talked_are : talked2 ≡ talked ++ left
  pub are_left : AreLeft links left
  pub talks : Talks s links given given2 result
  pub blames : Blames p result left
