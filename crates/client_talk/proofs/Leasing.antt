-- What the calls of a client's table and its lease calls make of a command, wherever it began.
use Rattle.std.proofs.Common.{arith, ◌≡◌, ◌≤◌, ℕ, ℤ, List, [], ◌∷◌, Bool, true, false, true≢false, IsTrue, if◌then◌else◌, Option, Some, None, Result, Ok, Err, refl, ap, sym, subst, ◌∙◌, inl, inr}
use Rattle.std.specs.Prelude.{◌⊎◌, not, option_map, pos, negsuc}
use Rattle.wire_io.specs.Wire.{Gave}
use Rattle.object_ids.specs.Bytes.{bytes_of_uid}
use Rattle.object_ids.specs.Client.{Client}
use Rattle.object_ids.specs.declared.ids.ObjId.{ObjId}
use Rattle.ser_values.specs.declared.graph.Graph.{Graph}
use Rattle.class_desc.specs.declared.field.TypeCode.{TypeCode}
use Rattle.java_shapes.specs.declared.lease_views.LeaseView.{LeaseView}
use Rattle.java_shapes.specs.declared.ref_views.LiveRef.{LiveRef}
use Rattle.java_shapes.specs.Ids.{lease_at}
use Rattle.jrmp_frames.specs.declared.head.CallHead.{CallHead}
use Rattle.dgc_client.specs.declared.limits.TheConstants.{MAX_GRANTED_MS}
use Rattle.dgc_client.specs.declared.plan.Plan.{Plan}
use Rattle.dgc_client.specs.declared.plan.Plan.TheVariants as plans
use Rattle.dgc_client.specs.declared.plan.ClientFault.{ClientFault}
use Rattle.dgc_client.specs.declared.plan.ClientFault.TheVariants as refusals
use Rattle.dgc_client.specs.Log.{ClientCall, Answers, Registers, number_of}
use Rattle.dgc_client.specs.StandsForLog.{Parts, StandsFor, is_spent_after, is_there, is_full_after, plan_after}
use Rattle.rmi_client.specs.Leases.{IsPlanCall, grant_in, granted_ms, want_of_plan}
use Rattle.rmi_client.specs.Replies.{reference_of, viewed}
use Rattle.rmi_client.specs.Requests.{HearsSeen}
use Rattle.rmi_client.specs.Sessions.{LinkState}
use Rattle.rmi_client.specs.Sessions as session
use Rattle.rmi_client.specs.declared.end.ClientEnd.{ClientEnd}
use Rattle.rmi_client.specs.declared.end.ClientEnd.TheVariants as ends
use Rattle.rmi_client.specs.declared.reply.Answer.{Answer}
use Rattle.client_talk.specs.Calling.{Lessee, Keeps, Notes, renewal, with_plan, asks_plan, renews, sends_due, holds, if_granted, settles, if_returned, call_of, invokes}
use Rattle.client_talk.specs.Commands.{acks_if}
use Rattle.client_talk.specs.Contents.{CallAnswer, content_of, returned, answering}
use Rattle.client_talk.specs.Rmi.{rmi, cause_of, Call, Renew, Reply, Granted, Returned, view_of}
use Rattle.client_talk.specs.Scripts.{by_memory, Script, asks, reads_clock, done, halts}
use Rattle.client_talk.specs.Sessions.{seen_of, answered}
use Rattle.client_talk.specs.Steps.{Asks, IsAt, Stands, with_seen, Steps}
use Rattle.client_talk.specs.Talk.{Seen, Linked, Talks}
use Rattle.client_talk.specs.declared.end.CommandEnd.{CommandEnd}
use Rattle.client_talk.specs.declared.end.CommandEnd.TheVariants.{Session, Table}
use Rattle.client_talk.specs.declared.leases.Leases.{Leases}
use Rattle.client_talk.specs.declared.request.MethodCall.{MethodCall}
use Rattle.client_talk.proofs.Joining.{asked_by, held_same}
use Rattle.client_talk.proofs.Stepping.{asked_on, clock_on, done_on, halted_on, memory_here, talks_same}
use Rattle.client_talk.proofs.Talking.{seen_again}

-- ---- lease calls

grant_same : (client : Client) (plan : Plan) (asked : ℤ) (answer : Answer) → view_of (Renew client plan asked) answer ≡ option_map Granted (grant_in plan answer)
grant_same client (plans.Dirty number ids) asked answer =
    ap (λ r. option_map Granted (option_map (λ (lease : LeaseView). granted_ms lease.value) (viewed lease_at r))) (held_same answer.body)
grant_same client (plans.Clean number ids strong) asked answer = refl

pub renewed_by : (client : Client) (plan : Plan) (asked : ℤ) (old new : LinkState) (result : Result ℕ ClientEnd)
    → session.Asks (IsPlanCall client plan asked) (HearsSeen (grant_in plan) (want_of_plan plan)) old new result
    → Asks rmi (seen_of old) (seen_of new) (Renew client plan asked) (answered Granted result)
renewed_by client plan asked old new result h =
    asked_by (Renew client plan asked) (grant_in plan) Granted tt refl (record { same = grant_same client plan asked }) old new result h

few_ms : (n : ℤ) → granted_ms n ≤ MAX_GRANTED_MS
few_ms (pos n) = grind arith
few_ms (negsuc n) = omega arith

some_same : (m n : ℕ) → Some m ≡ Some n → m ≡ n
some_same m n same = cc

few_in : (lease : Option LeaseView) (granted : ℕ) → option_map (λ (l : LeaseView). granted_ms l.value) lease ≡ Some granted → granted ≤ MAX_GRANTED_MS
few_in None granted same = absurd (cc)
few_in (Some lease) granted same = subst (λ n. n ≤ MAX_GRANTED_MS) (some_same (granted_ms lease.value) granted same) (few_ms lease.value)

few_granted : (plan : Plan) (answer : Answer) (granted : ℕ) → grant_in plan answer ≡ Some granted → granted ≤ MAX_GRANTED_MS
few_granted (plans.Dirty number ids) answer granted same = few_in (viewed lease_at (reference_of answer.body)) granted same
few_granted (plans.Clean number ids strong) answer granted same = subst (λ n. n ≤ MAX_GRANTED_MS) (some_same 0 granted same) (omega arith)

pub few_renewed : (client : Client) (plan : Plan) (asked : ℤ) (old new : LinkState) (granted : ℕ)
    → session.Asks (IsPlanCall client plan asked) (HearsSeen (grant_in plan) (want_of_plan plan)) old new (Ok granted) → granted ≤ MAX_GRANTED_MS
few_renewed client plan asked old new granted (bytes, is, sends, inl (answer, hears, shown)) = few_granted plan answer granted shown
few_renewed client plan asked old new granted (bytes, is, sends, inr (end, hears, same)) = absurd cc

-- ---- calls of methods

abbrev reply_of : Answer → Reply
reply_of answer = Returned (bytes_of_uid answer.uid) (content_of answer.body)

seen_whole : (head : CallHead) (arguments : Graph) (want : Option TypeCode) (old new : LinkState) (result : Result Answer ClientEnd)
    → session.Asks (session.IsCall head arguments) (session.HearsReturnOf want) old new result
    → session.Asks (session.IsCall head arguments) (HearsSeen {V = Answer} Some want) old new result
seen_whole head arguments want old new (Ok answer) (bytes, is, sends, hears) = (bytes, is, sends, inl (answer, hears, refl))
seen_whole head arguments want old new (Err ends.Over) h = absurd h
seen_whole head arguments want old new (Err (ends.WriteFault n)) h = h
seen_whole head arguments want old new (Err ends.OutOfMemory) (inl same) = inl same
seen_whole head arguments want old new (Err ends.OutOfMemory) (inr (bytes, is, sends, hears)) = inr (bytes, is, sends, inr (ends.OutOfMemory, hears, refl))
seen_whole head arguments want old new (Err ends.Nack) (bytes, is, sends, hears) = (bytes, is, sends, inr (ends.Nack, hears, refl))
seen_whole head arguments want old new (Err (ends.BadReply kind at)) (bytes, is, sends, hears) = (bytes, is, sends, inr (ends.BadReply kind at, hears, refl))
seen_whole head arguments want old new (Err (ends.TooLarge what at)) (bytes, is, sends, hears) = (bytes, is, sends, inr (ends.TooLarge what at, hears, refl))
seen_whole head arguments want old new (Err (ends.Truncated at)) (bytes, is, sends, hears) = (bytes, is, sends, inr (ends.Truncated at, hears, refl))
seen_whole head arguments want old new (Err (ends.RemoteFault text)) (bytes, is, sends, hears) = (bytes, is, sends, inr (ends.RemoteFault text, hears, refl))
seen_whole head arguments want old new (Err ends.ReadFault) (bytes, is, sends, hears) = (bytes, is, sends, inr (ends.ReadFault, hears, refl))

pub called_by : (head : CallHead) (arguments : Graph) (want : Option TypeCode) (old new : LinkState) (result : Result Answer ClientEnd)
    → session.Asks (session.IsCall head arguments) (session.HearsReturnOf want) old new result
    → Asks rmi (seen_of old) (seen_of new) (Call head arguments want) (answered reply_of result)
called_by head arguments want old new result h =
    asked_by (Call head arguments want) Some reply_of tt refl (record { same = λ answer. refl }) old new result (seen_whole head arguments want old new result h)

-- ---- the table

-- its call gives this plan
pub plan_on : (s : Script rmi CallAnswer) (links : List Linked) (given given2 : Option (List ℕ)) (lessee : Lessee) (log : List ClientCall) (call : ClientCall) (some : Plan → Script rmi CallAnswer) (none : Script rmi CallAnswer) (plan : Option Plan)
    → Stands s links given given2 (asks_plan lessee log call some none) → is_spent_after lessee.first log call ≡ false → plan ≡ plan_after lessee.first log call
    → Stands s links given given2 (with_plan plan some none)
plan_on s links given given2 lessee log call some none plan stands few same =
    subst (λ p. Stands s links given given2 (with_plan p some none)) (sym same)
    (subst (λ b. Stands s links given given2 (if b then halts (Table refusals.NumbersSpent) else with_plan (plan_after lessee.first log call) some none)) few stands)

-- No number is left.
pub spent_on : (s : Script rmi CallAnswer) (k : ℕ) (links : List Linked) (given given2 : Option (List ℕ)) (seen : Seen) (lessee : Lessee) (log : List ClientCall) (call : ClientCall) (some : Plan → Script rmi CallAnswer) (none : Script rmi CallAnswer)
    → IsAt k links seen → Stands s links given given2 (asks_plan lessee log call some none) → is_spent_after lessee.first log call ≡ true
    → Talks s (with_seen k seen links) given given2 (Err (Table refusals.NumbersSpent))
spent_on s k links given given2 seen lessee log call some none here stands spent =
    talks_same s k links seen given given2 (Err (Table refusals.NumbersSpent)) here
    (halted_on s links given given2 (Table refusals.NumbersSpent)
    (subst (λ b. Stands s links given given2 (if b then halts (Table refusals.NumbersSpent) else with_plan (plan_after lessee.first log call) some none)) spent stands) refl)

-- There was no memory.
pub memory_on : (s s2 : Script rmi CallAnswer) (k : ℕ) (links : List Linked) (given given2 : Option (List ℕ)) (seen : Seen) (end : CommandEnd)
    → IsAt k links seen → Stands s links given given2 s2 → cause_of end ≡ by_memory → Talks s (with_seen k seen links) given given2 (Err end)
memory_on s s2 k links given given2 seen end here stands lacks =
    talks_same s k links seen given given2 (Err end) here (memory_here s s2 links given given2 end stands lacks)

-- Its call was refused.
pub refused_on : (s : Script rmi CallAnswer) (k : ℕ) (links : List Linked) (given given2 : Option (List ℕ)) (seen : Seen) (lessee : Lessee) (log : List ClientCall) (call : ClientCall) (some : Plan → Script rmi CallAnswer) (none : Script rmi CallAnswer)
    (fault : ClientFault) → IsAt k links seen → Stands s links given given2 (asks_plan lessee log call some none)
    → (fault ≡ refusals.NumbersSpent) ⊎ (fault ≡ refusals.OutOfMemory) → (fault ≡ refusals.NumbersSpent → is_spent_after lessee.first log call ≡ true)
    → Talks s (with_seen k seen links) given given2 (Err (Table fault))
refused_on s k links given given2 seen lessee log call some none fault here stands (inl is) spends =
    subst (λ f. Talks s (with_seen k seen links) given given2 (Err (Table f))) (sym is) (spent_on s k links given given2 seen lessee log call some none here stands (spends is))
refused_on s k links given given2 seen lessee log call some none fault here stands (inr is) spends =
    subst (λ f. Talks s (with_seen k seen links) given given2 (Err (Table f))) (sym is)
    (memory_on s (asks_plan lessee log call some none) k links given given2 seen (Table refusals.OutOfMemory) here stands refl)

-- ---- registering

is_true : (b : Bool) → false ≡ not b → b ≡ true
is_true true e = refl
is_true false e = absurd (true≢false (sym e))

is_false : (b : Bool) → true ≡ not b → b ≡ false
is_false true e = absurd (true≢false e)
is_false false e = refl

pub not_true : (b : Bool) → (IsTrue b → ⊥) → b ≡ false
not_true true never = absurd (never refl)
not_true false never = refl

pub held_new : (s : Script rmi CallAnswer) (links : List Linked) (given given2 : Option (List ℕ)) (k : ℕ) (lessee : Lessee) (o : ObjId) (log : List ClientCall) (next : List ClientCall → Script rmi CallAnswer)
    → Stands s links given given2 (holds k lessee o log next) → true ≡ not (is_there lessee.first log o)
    → ((is_there lessee.first log o ≡ false) × IsTrue (is_full_after lessee.first log) → ⊥) → Stands s links given given2 (sends_due k lessee (Registers o ∷ log) next)
held_new s links given given2 k lessee o log next stands fresh roomy =
    let there = is_false (is_there lessee.first log o) fresh in
    let full = not_true (is_full_after lessee.first log) (λ full. roomy (there, full)) in
    subst (λ b. Stands s links given given2 (if b then halts (Table refusals.FullRefs) else sends_due k lessee (Registers o ∷ log) next)) full
    (subst (λ b. Stands s links given given2 (if b then next log else (if is_full_after lessee.first log then halts (Table refusals.FullRefs) else sends_due k lessee (Registers o ∷ log) next))) there stands)

pub held_known : (s : Script rmi CallAnswer) (links : List Linked) (given given2 : Option (List ℕ)) (k : ℕ) (lessee : Lessee) (o : ObjId) (log : List ClientCall) (next : List ClientCall → Script rmi CallAnswer)
    → Stands s links given given2 (holds k lessee o log next) → false ≡ not (is_there lessee.first log o) → Stands s links given given2 (next log)
held_known s links given given2 k lessee o log next stands known =
    subst (λ b. Stands s links given given2 (if b then next log else (if is_full_after lessee.first log then halts (Table refusals.FullRefs) else sends_due k lessee (Registers o ∷ log) next)))
    (is_true (is_there lessee.first log o) known) stands

held_full : (s : Script rmi CallAnswer) (links : List Linked) (given given2 : Option (List ℕ)) (k : ℕ) (lessee : Lessee) (o : ObjId) (log : List ClientCall) (next : List ClientCall → Script rmi CallAnswer)
    → Stands s links given given2 (holds k lessee o log next) → (is_there lessee.first log o ≡ false) × IsTrue (is_full_after lessee.first log)
    → Stands s links given given2 (halts (Table refusals.FullRefs))
held_full s links given given2 k lessee o log next stands (there, full) =
    subst (λ b. Stands s links given given2 (if b then halts (Table refusals.FullRefs) else sends_due k lessee (Registers o ∷ log) next)) full
    (subst (λ b. Stands s links given given2 (if b then next log else (if is_full_after lessee.first log then halts (Table refusals.FullRefs) else sends_due k lessee (Registers o ∷ log) next))) there stands)

pub unheld_on : (s : Script rmi CallAnswer) (k : ℕ) (links : List Linked) (given given2 : Option (List ℕ)) (seen : Seen) (lessee : Lessee) (o : ObjId) (log : List ClientCall) (next : List ClientCall → Script rmi CallAnswer)
    (fault : ClientFault) → IsAt k links seen → Stands s links given given2 (holds k lessee o log next)
    → (fault ≡ refusals.FullRefs) ⊎ (fault ≡ refusals.OutOfMemory) → (fault ≡ refusals.FullRefs → (is_there lessee.first log o ≡ false) × IsTrue (is_full_after lessee.first log))
    → Talks s (with_seen k seen links) given given2 (Err (Table fault))
unheld_on s k links given given2 seen lessee o log next fault here stands (inl is) fills =
    subst (λ f. Talks s (with_seen k seen links) given given2 (Err (Table f))) (sym is)
    (talks_same s k links seen given given2 (Err (Table refusals.FullRefs)) here
    (halted_on s links given given2 (Table refusals.FullRefs) (held_full s links given given2 k lessee o log next stands (fills is)) refl))
unheld_on s k links given given2 seen lessee o log next fault here stands (inr is) fills =
    subst (λ f. Talks s (with_seen k seen links) given given2 (Err (Table f))) (sym is)
    (memory_on s (holds k lessee o log next) k links given given2 seen (Table refusals.OutOfMemory) here stands refl)

-- ---- sending

pub renewed_on : (s : Script rmi CallAnswer) (k : ℕ) (links : List Linked) (given mid given2 : Option (List ℕ)) (before after : Seen) (lessee : Lessee) (plan : Plan) (log : List ClientCall) (next : List ClientCall → Script rmi CallAnswer)
    (granted now : ℕ) → IsAt k links before → Stands s links given mid (renews k lessee plan log next) → Asks rmi before after (renewal lessee plan) (Ok (Granted granted)) → Gave mid given2 (now ∷ [])
    → Stands s (with_seen k after links) given given2 (next (Answers (number_of plan) granted now ∷ log))
renewed_on s k links given mid given2 before after lessee plan log next granted now here stands asked gave =
    clock_on s (with_seen k after links) given mid given2 now (λ t. next (Answers (number_of plan) granted t ∷ log))
    (asked_on s k links given mid before after (renewal lessee plan) (if_granted (λ g. reads_clock (λ t. next (Answers (number_of plan) g t ∷ log)))) (Ok (Granted granted)) stands here asked) gave

pub unasked_on : (s : Script rmi CallAnswer) (k : ℕ) (links : List Linked) (given given2 : Option (List ℕ)) (before after : Seen) (lessee : Lessee) (plan : Plan) (next : Reply → Script rmi CallAnswer)
    (end : CommandEnd) → IsAt k links before → Stands s links given given2 (asks k (renewal lessee plan) next) → Asks rmi before after (renewal lessee plan) (Err end)
    → Talks s (with_seen k after links) given given2 (Err end)
unasked_on s k links given given2 before after lessee plan next end here stands asked =
    asked_on s k links given given2 before after (renewal lessee plan) next (Err end) stands here asked

pub cleaned_on : (s : Script rmi CallAnswer) (k : ℕ) (links : List Linked) (given given2 : Option (List ℕ)) (before after : Seen) (lessee : Lessee) (plan : Plan) (next : Script rmi CallAnswer)
    (granted : ℕ) → IsAt k links before → Stands s links given given2 (asks k (renewal lessee plan) (λ reply. next)) → Asks rmi before after (renewal lessee plan) (Ok (Granted granted))
    → Stands s (with_seen k after links) given given2 next
cleaned_on s k links given given2 before after lessee plan next granted here stands asked =
    asked_on s k links given given2 before after (renewal lessee plan) (λ reply. next) (Ok (Granted granted)) stands here asked

pub notes_again : {A : Type 0} (s : Script rmi CallAnswer) (k : ℕ) (links : List Linked) (mid after : Seen) (given given2 : Option (List ℕ)) (lessee : Lessee) (leases : Leases) (next : List ClientCall → Script rmi CallAnswer) (result : Result A CommandEnd)
    → Notes s k (with_seen k mid links) after given given2 lessee leases next result → Notes s k links after given given2 lessee leases next result
notes_again s k links mid after given given2 lessee leases next (Ok a) (log, keeps, stands) =
    (log, keeps, subst (λ ls. Stands s ls given given2 (next log)) (seen_again 0 k mid after links) stands)
notes_again s k links mid after given given2 lessee leases next (Err end) talks = subst (λ ls. Talks s ls given given2 (Err end)) (seen_again 0 k mid after links) talks

-- what a lease call does on its session, by the leases for which it is sent
pub sent_as : (lessee : Lessee) (log : List ClientCall) (leases : Leases) (plan : Plan) (client : Client) (asked : ℤ) (old new : LinkState) (result : Result ℕ ClientEnd)
    → Keeps lessee leases log → client ≡ lessee.client → asked ≡ leases.asked
    → session.Asks (IsPlanCall client plan asked) (HearsSeen (grant_in plan) (want_of_plan plan)) old new result
    → Asks rmi (seen_of old) (seen_of new) (renewal lessee plan) (answered Granted result)
sent_as lessee log leases plan client asked old new result keeps is same h =
    subst (λ n. Asks rmi (seen_of old) (seen_of new) (Renew lessee.client plan n) (answered Granted result)) (same ∙ keeps.asks)
    (subst (λ x. Asks rmi (seen_of old) (seen_of new) (Renew x plan asked) (answered Granted result)) is (renewed_by client plan asked old new result h))

-- the leases once an answer was noted
pub answered_as : (lessee : Lessee) (leases : Leases) (table : Parts) (log : List ClientCall) (plan : Plan) (number : ℤ) (granted now : ℕ)
    → Keeps lessee leases log → number ≡ number_of plan → StandsFor lessee.client lessee.first table (Answers number granted now ∷ log)
    → Keeps lessee (record leases { table = table }) (Answers (number_of plan) granted now ∷ log)
answered_as lessee leases table log plan number granted now keeps is stands = record {
  stands = subst (λ n. StandsFor lessee.client lessee.first table (Answers n granted now ∷ log)) is stands;
  asks = keeps.asks;
}

-- the leases once the table was called
pub noted_as : (lessee : Lessee) (leases : Leases) (table : Parts) (log : List ClientCall) (call : ClientCall)
    → Keeps lessee leases log → StandsFor lessee.client lessee.first table (call ∷ log) → Keeps lessee (record leases { table = table }) (call ∷ log)
noted_as lessee leases table log call keeps stands = record { stands = stands; asks = keeps.asks }

-- the leases where the table is as it was
pub kept_as : (lessee : Lessee) (leases : Leases) (table : Parts) (log : List ClientCall) → Keeps lessee leases log → table ≡ leases.table → Keeps lessee (record leases { table = table }) log
kept_as lessee leases table log keeps same = record { stands = subst (λ t. StandsFor lessee.client lessee.first t log) (sym same) keeps.stands; asks = keeps.asks }

-- A call that was answered was not refused.
pub not_refused : {A : Type 0} (a : A) (fault : ClientFault) → ◌≡◌ {A = Result A ClientFault} (Ok a) (Err fault) → ⊥
not_refused a fault same = cc

pub not_spent : {A : Type 0} (a : A) (b : Bool) → (IsTrue b → ◌≡◌ {A = Result A ClientFault} (Ok a) (Err refusals.NumbersSpent)) → b ≡ false
not_spent a b spent = not_true b (λ holds. not_refused a refusals.NumbersSpent (spent holds))

-- A step followed a call of the table.
pub noted_steps : {A : Type 0} (s : Script rmi CallAnswer) (k : ℕ) (links : List Linked) (seen : Seen) (given given2 : Option (List ℕ)) (lessee : Lessee) (leases leases2 : Leases) (log : List ClientCall) (next : List ClientCall → Script rmi CallAnswer)
    (result : Result A CommandEnd) → Keeps lessee leases log → leases ≡ leases2 → Steps s k links seen given given2 (λ (u : A). next log) result → Notes s k links seen given given2 lessee leases2 next result
noted_steps s k links seen given given2 lessee leases leases2 log next (Ok a) keeps same stands = (log, subst (λ x. Keeps lessee x log) same keeps, stands)
noted_steps s k links seen given given2 lessee leases leases2 log next (Err end) keeps same talks = talks

-- The last step of a command was done, or it ended before.
pub valued_on : (s : Script rmi CallAnswer) (k : ℕ) (links : List Linked) (seen : Seen) (given given2 : Option (List ℕ)) (lessee : Lessee) (leases : Leases) (answer : CallAnswer) (result : Result (Unit {0}) CommandEnd)
    → Notes s k links seen given given2 lessee leases (λ log. done answer) result → Talks s (with_seen k seen links) given given2 (answering answer result)
valued_on s k links seen given given2 lessee leases answer (Ok u) (log, keeps, stands) = done_on s (with_seen k seen links) given given2 answer stands
valued_on s k links seen given given2 lessee leases answer (Err end) talks = talks

pub acks_as : (s : Script rmi CallAnswer) (k : ℕ) (links : List Linked) (given given2 : Option (List ℕ)) (uid : List ℕ) (flagged flagged2 : Bool) (next : Script rmi CallAnswer)
    → flagged ≡ flagged2 → Stands s links given given2 (acks_if k uid flagged2 next) → Stands s links given given2 (acks_if k uid flagged next)
acks_as s k links given given2 uid flagged flagged2 next same stands = subst (λ b. Stands s links given given2 (acks_if k uid b next)) (sym same) stands

-- A method was called.
pub invoked_on : (s : Script rmi CallAnswer) (k : ℕ) (links : List Linked) (given given2 : Option (List ℕ)) (old new : LinkState) (lessee : Lessee) (method : MethodCall) (reference : LiveRef) (log : List ClientCall)
    (head : CallHead) (answer : Answer) → IsAt k links (seen_of old) → Stands s links given given2 (invokes k lessee method reference log) → head ≡ record { id = reference.id; operation = negsuc 0; hash = method.hash }
    → session.Asks (session.IsCall head method.arguments) (session.HearsReturnOf method.result) old new (Ok answer)
    → Stands s (with_seen k (seen_of new) links) given given2 (settles k lessee reference (returned answer) log)
invoked_on s k links given given2 old new lessee method reference log head answer here stands is h =
    asked_on s k links given given2 (seen_of old) (seen_of new) (call_of method reference) (if_returned (λ answer. settles k lessee reference answer log)) (Ok (reply_of answer)) stands here
    (subst (λ x. Asks rmi (seen_of old) (seen_of new) (Call x method.arguments method.result) (Ok (reply_of answer))) is (called_by head method.arguments method.result old new (Ok answer) h))

pub uninvoked_on : (s : Script rmi CallAnswer) (k : ℕ) (links : List Linked) (given given2 : Option (List ℕ)) (old new : LinkState) (lessee : Lessee) (method : MethodCall) (reference : LiveRef) (log : List ClientCall)
    (head : CallHead) (end : ClientEnd) → IsAt k links (seen_of old) → Stands s links given given2 (invokes k lessee method reference log) → head ≡ record { id = reference.id; operation = negsuc 0; hash = method.hash }
    → session.Asks (session.IsCall head method.arguments) (session.HearsReturnOf method.result) old new (Err end)
    → Talks s (with_seen k (seen_of new) links) given given2 (Err (Session end))
uninvoked_on s k links given given2 old new lessee method reference log head end here stands is h =
    asked_on s k links given given2 (seen_of old) (seen_of new) (call_of method reference) (if_returned (λ answer. settles k lessee reference answer log)) (Err (Session end)) stands here
    (subst (λ x. Asks rmi (seen_of old) (seen_of new) (Call x method.arguments method.result) (Err (Session end))) is (called_by head method.arguments method.result old new (Err end) h))
