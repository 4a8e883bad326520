-- What `call` asks for, as a script, and how far it has come. The client's table of references stands in it as the list of its calls, the newest first: each lease
-- call that is sent is the one that this list plans.
use Rattle.std.specs.Prelude.{◌≡◌, ℕ, ℤ, negsuc, List, [], ◌∷◌, map, if◌then◌else◌, Option, Some, None, Result, Ok, Err}
use Rattle.object_ids.specs.Client.{Client}
use Rattle.object_ids.specs.declared.ids.ObjId.{ObjId}
use Rattle.java_shapes.specs.declared.ref_views.LiveRef.{LiveRef}
use Rattle.dgc_client.specs.declared.plan.Plan.{Plan}
use Rattle.dgc_client.specs.declared.plan.ClientFault.TheVariants.{FullRefs, NumbersSpent}
use Rattle.dgc_client.specs.Log.{ClientCall, Registers, Drops, Dues, Answers, Ref, notes, number_of, refs}
use Rattle.dgc_client.specs.StandsForLog.{StandsFor, is_full_after, is_spent_after, is_there, plan_after}
use Rattle.client_talk.specs.Contents.{CallAnswer, ids_held, is_flagged}
use Rattle.client_talk.specs.Scripts.{Script, asks, reads_clock, done, halts}
use Rattle.client_talk.specs.Talk.{Linked, Seen, Talks}
use Rattle.client_talk.specs.Steps.{IsAt, Stands, with_seen}
use Rattle.client_talk.specs.Rmi.{Message, Call, Renew, Reply, Granted, Returned, rmi, out_of_turn}
use Rattle.client_talk.specs.Commands.{acks_if, finds, opens}
use Rattle.client_talk.specs.declared.end.CommandEnd.{CommandEnd}
use Rattle.client_talk.specs.declared.end.CommandEnd.TheVariants.{Table}
use Rattle.client_talk.specs.declared.leases.Leases.{Leases}
use Rattle.client_talk.specs.declared.place.Place.{Place}
use Rattle.client_talk.specs.declared.request.Caller.{Caller}
use Rattle.client_talk.specs.declared.request.MethodCall.{MethodCall}
use Rattle.client_talk.specs.declared.request.Request.{Request}

-- Who holds leases: the client, the number of its first lease call, and for how many milliseconds it asks.
pub record Lessee : Type 0 where
  pub client : Client
  pub first : ℤ
  pub asked : ℤ

abbrev pub lessee_of : Caller → Lessee
lessee_of caller = record { client = caller.vmid; first = caller.first; asked = caller.asked }

-- ---- lease calls

-- the message that sends a plan
abbrev pub renewal : Lessee → Plan → Message
renewal lessee plan = Renew lessee.client plan lessee.asked

-- what follows a granted duration; no Return of a lease call answers anything else
abbrev pub if_granted : (ℕ → Script rmi CallAnswer) → Reply → Script rmi CallAnswer
if_granted next (Granted duration) = next duration
if_granted next _ = halts out_of_turn

abbrev pub with_plan : Option Plan → (Plan → Script rmi CallAnswer) → Script rmi CallAnswer → Script rmi CallAnswer
with_plan (Some plan) some none = some plan
with_plan None some none = none

-- The table is called, and what follows its plan is to do, or what follows where it has none. Where the plan needs a number and none is left, the command halts.
abbrev pub asks_plan : Lessee → List ClientCall → ClientCall → (Plan → Script rmi CallAnswer) → Script rmi CallAnswer → Script rmi CallAnswer
asks_plan lessee log call some none = if is_spent_after lessee.first log call then halts (Table NumbersSpent) else with_plan (plan_after lessee.first log call) some none

-- A dirty call is sent, the clock read, and the answer noted.
abbrev pub renews : ℕ → Lessee → Plan → List ClientCall → (List ClientCall → Script rmi CallAnswer) → Script rmi CallAnswer
renews k lessee plan log next = asks k (renewal lessee plan) (if_granted (λ granted. reads_clock (λ now. next (Answers (number_of plan) granted now ∷ log))))

-- The clock is read, and what is due is sent.
abbrev pub sends_due : ℕ → Lessee → List ClientCall → (List ClientCall → Script rmi CallAnswer) → Script rmi CallAnswer
sends_due k lessee log next =
    reads_clock (λ now. asks_plan lessee log (Dues now) (λ plan. renews k lessee plan (Dues now ∷ log) next) (next (Dues now ∷ log)))

-- A reference is registered, unless it is there, and what is due then is sent. Where there is no room for it, the command halts.
abbrev pub holds : ℕ → Lessee → ObjId → List ClientCall → (List ClientCall → Script rmi CallAnswer) → Script rmi CallAnswer
holds k lessee object log next =
    if is_there lessee.first log object then next log else (if is_full_after lessee.first log then halts (Table FullRefs) else sends_due k lessee (Registers object ∷ log) next)

abbrev pub holds_each : ℕ → Lessee → List ObjId → List ClientCall → (List ClientCall → Script rmi CallAnswer) → Script rmi CallAnswer
holds_each k lessee [] log next = next log
holds_each k lessee (o ∷ os) log next = holds k lessee o log (λ log2. holds_each k lessee os log2 next)

-- The clock is read, a reference dropped, and its clean call sent.
abbrev pub releases : ℕ → Lessee → ObjId → List ClientCall → (List ClientCall → Script rmi CallAnswer) → Script rmi CallAnswer
releases k lessee object log next =
    reads_clock (λ now. asks_plan lessee log (Drops object now) (λ plan. asks k (renewal lessee plan) (λ reply. next (Drops object now ∷ log))) (next (Drops object now ∷ log)))

abbrev pub releases_each : ℕ → Lessee → List ObjId → List ClientCall → (List ClientCall → Script rmi CallAnswer) → Script rmi CallAnswer
releases_each k lessee [] log next = next log
releases_each k lessee (o ∷ os) log next = releases k lessee o log (λ log2. releases_each k lessee os log2 next)

-- the objects whose references are registered, in order of registration
abbrev pub ids_there : Lessee → List ClientCall → List ObjId
ids_there lessee log = map (λ (r : Ref). r.id) (refs lessee.first (notes lessee.first log))

-- ---- the command, from its end to its beginning

-- All references are released, one after the other, and that is all.
abbrev pub releases_all : ℕ → Lessee → CallAnswer → List ClientCall → Script rmi CallAnswer
releases_all k lessee answer log = releases_each k lessee (ids_there lessee log) log (λ log2. done answer)

-- The result is acknowledged where a reference in it has its flag set, and all references are released.
abbrev pub winds_up : ℕ → Lessee → CallAnswer → List ClientCall → Script rmi CallAnswer
winds_up k lessee answer log = acks_if k answer.uid (is_flagged answer.content) (releases_all k lessee answer log)

-- The result came: those of its references are held that are of the called one's server.
abbrev pub settles : ℕ → Lessee → LiveRef → CallAnswer → List ClientCall → Script rmi CallAnswer
settles k lessee reference answer log = holds_each k lessee (ids_held reference.host reference.port answer.content) log (winds_up k lessee answer)

-- what follows a result; no Return of a call answers anything else
abbrev pub if_returned : (CallAnswer → Script rmi CallAnswer) → Reply → Script rmi CallAnswer
if_returned next (Returned uid content) = next (record { uid = uid; content = content })
if_returned next _ = halts out_of_turn

-- the call of a method of the object that this refers to, by the method's hash
abbrev pub call_of : MethodCall → LiveRef → Message
call_of method reference = Call (record { id = reference.id; operation = negsuc 0; hash = method.hash }) method.arguments method.result

-- The call is made.
abbrev pub invokes : ℕ → Lessee → MethodCall → LiveRef → List ClientCall → Script rmi CallAnswer
invokes k lessee method reference log = asks k (call_of method reference) (if_returned (λ answer. settles k lessee reference answer log))

-- The reference is held: the lookup is acknowledged on the first link where the reference's flag is set, and the call is made on the second.
abbrev pub calls : Lessee → MethodCall → List ℕ → LiveRef → List ClientCall → Script rmi CallAnswer
calls lessee method uid reference log = acks_if 0 uid reference.result (invokes 1 lessee method reference log)

-- The second session is open: the reference is held there, and the object called.
abbrev pub holds_and_calls : Lessee → MethodCall → List ℕ → LiveRef → Script rmi CallAnswer
holds_and_calls lessee method uid reference = holds 1 lessee reference.id [] (calls lessee method uid reference)

-- where the server of a reference's object is
abbrev pub place_of_ref : LiveRef → Place
place_of_ref reference = record { host = reference.host; port = reference.port }

-- The reference was found: a second session opens, with its server.
abbrev pub dials_on : Lessee → MethodCall → List ℕ → LiveRef → Script rmi CallAnswer
dials_on lessee method uid reference = opens 1 (place_of_ref reference) (holds_and_calls lessee method uid reference)

-- The first session is open: the name is looked up.
abbrev pub looks_up_and_calls : Request → Script rmi CallAnswer
looks_up_and_calls request = finds 0 request.name (dials_on (lessee_of request.caller) request.method)

-- `call HOST PORT NAME METHOD [ARG ..]`: the method's Return
abbrev pub call_script : Request → Script rmi CallAnswer
call_script request = opens 0 request.place (looks_up_and_calls request)

-- ---- how far it has come

-- These leases are of this client, whose table was called so, the newest call first.
pub record Keeps (lessee : Lessee) (leases : Leases) (log : List ClientCall) : Type 0 where
  pub stands : StandsFor lessee.client lessee.first leases.table log
  pub asks : leases.asked ≡ lessee.asked

-- What was to do was something with the table, and then `next`; now that is to do with the longer log, or the command ended.
abbrev pub Notes : {A : Type 0} → Script rmi CallAnswer → ℕ → List Linked → Seen → Option (List ℕ) → Option (List ℕ) → Lessee → Leases → (List ClientCall → Script rmi CallAnswer) → Result A CommandEnd → Type 0
Notes s k links seen given given2 lessee leases next (Ok _) = (log : List ClientCall) × Keeps lessee leases log × Stands s (with_seen k seen links) given given2 (next log)
Notes s k links seen given given2 lessee leases next (Err end) = Talks s (with_seen k seen links) given given2 (Err end)

-- A part of the script was done with the leases: from wherever it was to do, with any log that they keep, the rest is to do now, or the command ended.
abbrev pub NotesPart : {A : Type 0} → (ℕ → Lessee → List ClientCall → (List ClientCall → Script rmi CallAnswer) → Script rmi CallAnswer)
    → Seen → Seen → Option (List ℕ) → Option (List ℕ) → Leases → Leases → Result A CommandEnd → Type 0
NotesPart part seen seen_after ticks ticks_after leases leases_after result =
    (s : Script rmi CallAnswer) (k : ℕ) (links : List Linked) (given : Option (List ℕ)) (lessee : Lessee) (log : List ClientCall) (next : List ClientCall → Script rmi CallAnswer)
    → Keeps lessee leases log → IsAt k links seen → Stands s links given ticks (part k lessee log next)
    → Notes s k links seen_after given ticks_after lessee leases_after next result

-- what a lease call answers
abbrev pub granting : Result ℕ CommandEnd → Result Reply CommandEnd
granting (Ok granted) = Ok (Granted granted)
granting (Err end) = Err end
