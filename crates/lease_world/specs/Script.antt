-- The script of a world: its lines, what they spell, and what is printed at the end. A line ends with LF, and its words are separated by one space.
use Rattle.std.specs.Prelude.{◌≡◌, ◌≢◌, ◌⊎◌, ◌≤◌, ◌^◌, ◌+◌, ℕ, pos, zero, suc, Bool, List, [], ◌∷◌, ◌++◌, length, codes, decimal, flat_map, Some, None, Result, Ok, Err, if◌then◌else◌}
use Rattle.std.specs.Int.{w64}
use Rattle.std.specs.Fmt.{signed_decimal}
use Rattle.history.specs.Outline.{outline}
use Rattle.history.specs.Texts.{line}
use Rattle.dgc_client.specs.Log.{ClientCall}
use Rattle.dgc_client.specs.StandsForLog.{is_usable_after, until_told, refs_told}
use Rattle.dgc_client.specs.declared.client_ref.ClientRef.{ClientRef}
use Rattle.journal.specs.Grammar.{Is, ◌▸◌, End, SpellsBelow, SpellsSigned, SpellsDuration}
use Rattle.journal.specs.Parts.{parts, Lacks}
use Rattle.lease_world.specs.Stands.{WorldParts, StandsForCourse}
use Rattle.lease_world.specs.World.{World, Course, Deed, Taken, CutMake, of_client, fault_of, world, WorldKeepsPromise}
use Rattle.lease_world.specs.declared.fault.WorldFault.{WorldFault}
use Rattle.lease_world.specs.declared.fault.WorldFault.TheVariants.{BadStep, BadLine, OutOfMemory}
use Rattle.lease_world.specs.declared.script.TheConstants.{MAX_CLIENTS}
use Rattle.lease_world.specs.declared.step.Step.{Step}
use Rattle.lease_world.specs.declared.step.Step.TheVariants as steps

-- ---- lines

-- The first line of some bytes, without its LF, and what comes after the LF.
pub record NextLine (bytes first rest : List ℕ) : Type 0 where
  pub whole : Lacks 10 first
  pub bytes_are : bytes ≡ first ++ 10 ∷ rest

-- A number of a moment, a return or a sent call. No step may name one of 2^63 or above.
abbrev pub SpellsCount : ℕ → List ℕ → Type 0
SpellsCount n word = SpellsBelow (2 ^ 63) n word

-- The number of a client.
abbrev pub SpellsClient : ℕ → List ℕ → Type 0
SpellsClient n word = SpellsBelow (2 ^ 8) n word

-- The words spell a step.
abbrev pub StepWords : Step → List (List ℕ) → Type 0
StepWords (steps.At moment) = Is (codes "at") ▸ SpellsCount moment ▸ End
StepWords steps.Make = Is (codes "make") ▸ End
StepWords (steps.Ack make) = Is (codes "ack") ▸ SpellsCount make ▸ End
StepWords (steps.Register client number) = Is (codes "register") ▸ SpellsClient client ▸ SpellsSigned w64 number ▸ End
StepWords (steps.Release client number) = Is (codes "drop") ▸ SpellsClient client ▸ SpellsSigned w64 number ▸ End
StepWords (steps.Due client) = Is (codes "due") ▸ SpellsClient client ▸ End
StepWords (steps.Deliver call) = Is (codes "deliver") ▸ SpellsCount call ▸ End
StepWords (steps.Answer call) = Is (codes "answer") ▸ SpellsCount call ▸ End
StepWords (steps.Fail call) = Is (codes "fail") ▸ SpellsCount call ▸ End
StepWords steps.Tick = Is (codes "tick") ▸ End
StepWords (steps.Ask client asked) = Is (codes "ask") ▸ SpellsClient client ▸ SpellsSigned w64 asked ▸ End

abbrev pub SpellsStep : Step → List ℕ → Type 0
SpellsStep step text = StepWords step (parts 32 text)

-- How many clients a world has.
abbrev pub SpellsClients : ℕ → List ℕ → Type 0
SpellsClients n word = (1 ≤ n) × (n ≤ MAX_CLIENTS) × (word ≡ decimal n)

-- The words spell the first line: `world LEASE ACK CLIENTS`.
abbrev pub WorldWords : ℕ → ℕ → ℕ → List (List ℕ) → Type 0
WorldWords lease ack clients = Is (codes "world") ▸ SpellsDuration lease ▸ SpellsDuration ack ▸ SpellsClients clients ▸ End

abbrev pub SpellsWorld : ℕ → ℕ → ℕ → List ℕ → Type 0
SpellsWorld lease ack clients text = WorldWords lease ack clients (parts 32 text)

-- ---- courses

-- The course of these deeds.
abbrev pub course_of : ℕ → ℕ → ℕ → List Deed → Course
course_of lease ack clients deeds = record { lease_ms = lease; ack_ms = ack; clients = clients; deeds = deeds }

-- The bytes, up to the rest, are lines that spell these deeds, which are given newest first: each is a step that was taken.
abbrev pub SpellsDeeds : ℕ → ℕ → ℕ → List ℕ → List Deed → List ℕ → Type 0
SpellsDeeds lease ack clients bytes [] rest = rest ≡ bytes
SpellsDeeds lease ack clients bytes (Taken step ∷ deeds) rest =
    (before : List ℕ) × (text : List ℕ) × SpellsDeeds lease ack clients bytes deeds before × NextLine before text rest × SpellsStep step text
    × (fault_of (world (course_of lease ack clients deeds)) step ≡ None)
SpellsDeeds lease ack clients bytes (CutMake ∷ deeds) rest = ⊥

-- The script, up to the rest, is the first line of a world, and lines that spell what was done in it.
pub record IsPlayed (script : List ℕ) (course : Course) (rest : List ℕ) : Type 0 where
  pub text : List ℕ
  pub steps : List ℕ
  pub first : NextLine script text steps
  pub begins : SpellsWorld course.lease_ms course.ack_ms course.clients text
  pub goes_on : SpellsDeeds course.lease_ms course.ack_ms course.clients steps course.deeds rest

-- ---- what is printed

-- A reference: whether it is sure, and whether it is usable now.
abbrev pub ref_line : ℕ → ClientRef → Bool → List ℕ
ref_line c r usable = line (codes "ref" ∷ decimal c ∷ signed_decimal r.id.number ∷ (if r.sure then codes "sure" else codes "unsure") ∷ (if usable then codes "usable" else codes "lapsed") ∷ [])

-- The end of a client's time.
abbrev pub until_line : ℕ → ℕ → List ℕ
until_line c until = line (codes "client" ∷ decimal c ∷ codes "until" ∷ decimal until ∷ [])

-- A client with these calls: the end of its time, and its references in the order of their registration.
abbrev pub client_lines : ℕ → ℕ → List ClientCall → List ℕ
client_lines c now log =
    until_line c (until_told (pos 0) log)
    ++ flat_map (λ (r : ClientRef). ref_line c r (is_usable_after (pos 0) log r.id now)) (refs_told (pos 0) log)

-- The first clients, so many.
abbrev pub clients_lines : World → ℕ → List ℕ
clients_lines w zero = []
clients_lines w (suc n) = clients_lines w n ++ client_lines n w.moment (of_client n w.calls)

-- The outline of the server's space, and the clients.
abbrev pub end_text : World → List ℕ
end_text w = outline w.config w.events ++ clients_lines w w.clients

-- ---- what a script's run answers

-- The script was played to its end, and this was printed. What is promised is exported.
pub record IsPrinted (script text : List ℕ) : Type 0 where
  pub course : Course
  pub played : IsPlayed script course []
  pub text_is : text ≡ end_text (world course)
  pub promise : WorldKeepsPromise course

-- No first line of a world stands first in the script.
abbrev pub BeginsWithoutWorld : List ℕ → Type 0
BeginsWithoutWorld script = (lease ack clients : ℕ) (text rest : List ℕ) → NextLine script text rest → SpellsWorld lease ack clients text → ⊥

-- No line that spells a step stands first in the bytes.
abbrev pub BeginsWithoutStep : List ℕ → Type 0
BeginsWithoutStep bytes = (step : Step) (text rest : List ℕ) → NextLine bytes text rest → SpellsStep step text → ⊥

-- A line that spells a step stands first in the bytes, and this refuses it after a course.
pub record BeginsWithFault (course : Course) (bytes : List ℕ) (fault : WorldFault) : Type 0 where
  pub step : Step
  pub text : List ℕ
  pub rest : List ℕ
  pub first : NextLine bytes text rest
  pub spells : SpellsStep step text
  pub refused : fault_of (world course) step ≡ Some fault

-- The next line of bytes, of which there are some, is bad: it is no step, or its step is a BadStep. Or its step is refused.
abbrev pub StopsAt : Course → List ℕ → WorldFault → Type 0
StopsAt course bytes fault =
    ((fault ≡ BadLine (length course.deeds + 2)) × (BeginsWithoutStep bytes ⊎ BeginsWithFault course bytes BadStep))
    ⊎ ((fault ≢ BadStep) × BeginsWithFault course bytes fault)

-- The script was played up to a line at which it stopped.
pub record IsStoppedAt (script : List ℕ) (fault : WorldFault) : Type 0 where
  pub course : Course
  pub rest : List ℕ
  pub played : IsPlayed script course rest
  pub some : rest ≢ []
  pub stops : StopsAt course rest fault

abbrev pub IsStopped : List ℕ → WorldFault → Type 0
IsStopped script fault =
    (fault ≡ OutOfMemory)
    ⊎ (((fault ≡ BadLine 1) × BeginsWithoutWorld script) ⊎ IsStoppedAt script fault)

-- What a script comes to: the end of a world, which is printed, or a fault. In the world that is printed each object that is promised to a client is
-- exported. Want of memory says nothing of the script.
abbrev pub ComesTo : List ℕ → Result (List ℕ) WorldFault → Type 0
ComesTo script (Ok text) = IsPrinted script text
ComesTo script (Err fault) = IsStopped script fault

-- ---- how far a script was played

-- A world that was played up to the rest of a script, whose next line has this number, from 1.
pub record IsReached (script : List ℕ) (v : WorldParts) (rest : List ℕ) (number : ℕ) : Type 0 where
  pub course : Course
  pub stands : StandsForCourse v course
  pub played : IsPlayed script course rest
  pub count : number ≡ length course.deeds + 2

-- Playing went on from the rest of each script that was played so far, up to this rest.
abbrev pub GoesOn : WorldParts → List ℕ → ℕ → WorldParts → List ℕ → ℕ → Type 0
GoesOn old lines number new rest next = (script : List ℕ) → IsReached script old lines number → IsReached script new rest next

-- Each script that was played so far stops in these lines, for this fault.
abbrev pub StopsIn : WorldParts → List ℕ → ℕ → WorldFault → Type 0
StopsIn old lines number fault = (script : List ℕ) → IsReached script old lines number → IsStopped script fault

-- Each script that was played so far was played to its end.
abbrev pub GoesToEnd : WorldParts → List ℕ → ℕ → WorldParts → Type 0
GoesToEnd old lines number new = (script : List ℕ) → IsReached script old lines number → (next : ℕ) × IsReached script new [] next

-- The fault of a script whose step in the line of this number is refused for a fault.
abbrev pub IsFaultAt : WorldFault → ℕ → WorldFault → Type 0
IsFaultAt fault number given = ((fault ≡ BadStep) × (given ≡ BadLine number)) ⊎ ((fault ≢ BadStep) × (given ≡ fault))
