-- An input and the answers of the outside have one settled dialogue: the next whole exchange is decided by them, and so is where it ends.
use Rattle.std.proofs.Common.{◌≡◌, ℕ, suc, ◌+◌, ◌<◌, ◌≤◌, ◌⊎◌, inl, inr, List, [], ◌∷◌, ◌++◌, length, drop, Option, Some, None, Result, Ok, Err, cond, eqb, nat_lt, true, false, true≢false, ◌||◌, refl, ap, sym, subst, ◌∙◌, arith, append_assoc, append-nil, length-append, eq-eqb}
use Rattle.std.proofs.lemmas.List.{append_cancel_right}
use Rattle.std.proofs.lemmas.Grind.{flat_map-append}
use Rattle.std.specs.List.{flat_map}
use Rattle.wire_io.specs.Wire.{with_front}
use Rattle.std.proofs.lemmas.Bool.Decides.{nat_tests}
use Rattle.object_ids.specs.declared.ids.Uid.{Uid}
use Rattle.object_ids.specs.Bytes.{FitsUid, bytes_of_uid, uid_from_bytes}
use Rattle.object_ids.proofs.Spelling.{uid-spelled}
use Rattle.history.specs.declared.asks.Ask.TheVariants.{Ack}
use Rattle.history.specs.declared.replies.Turn.{Turn}
use Rattle.history.specs.declared.replies.Refused.{Refused}
use Rattle.history.specs.declared.replies.Refused.TheVariants as refusals
use Rattle.space.specs.Entries.{end_of}
use Rattle.jrmp_frames.specs.declared.head.CallHead.{CallHead}
use Rattle.jrmp_frames.specs.declared.code.Code.TheVariants.{Call, Ping, DgcAck}
use Rattle.jrmp_frames.specs.Frames.{code_byte, IsCode}
use Rattle.call_dispatch.specs.declared.outcome.Invocation.{Invocation}
use Rattle.call_dispatch.specs.declared.outcome.Outcome.{Outcome}
use Rattle.call_dispatch.specs.declared.end.ConnEnd.{ConnEnd}
use Rattle.call_dispatch.specs.declared.end.ConnEnd.TheVariants.{Ended, BadHeader, UnknownProtocol, BadMessage, BadStream, TooLarge, Truncated, NoSuchObject, NoSuchMethod, SpaceFull, MessageLimit, ReadFault, WriteFault, OutOfMemory}
use Rattle.call_dispatch.specs.End.{IsSettled}
use Rattle.system_objects.specs.Terms.{Terms}
use Rattle.call_dispatch.specs.Acts.{Act, Call as WorkerCall, States, acts_of}
use Rattle.call_dispatch.specs.Served.{AtHead as Way, served_acts, IsServed}
use Rattle.call_dispatch.specs.ConnectionState.{ConnectionState, Transcript, bytes_taken, followed_by}
use Rattle.call_dispatch.specs.Systems.{System}
use Rattle.call_dispatch.specs.Rows.{Exchange, ping, acknowledged, served, system, IsNoted, taken_by, acts_by, draws_by, IsExchange, IsOpen, closed_by, StaysOpen, IsChain}
use Rattle.call_dispatch.specs.Dialogue.{Opening, stream, single_op, most_messages, opening_taken, Completed, nothing, greeted, opened, taken_in, transcript_in, IsAtCode, IsDone, IsClosed, EndsInCall, Ends, Dialogue}
use Rattle.call_dispatch.specs.Tape.{OutsideAnswer, turn_answer, outside_answers, tape}
use Rattle.call_dispatch.specs.Progress.{IsConversation, Settles, Talked, IsServedFrom}
use Rattle.call_dispatch.proofs.Breaks.{same_behind}
use Rattle.call_dispatch.proofs.Tapes.{turn_alone}
use Rattle.call_dispatch.proofs.CallsOne.{exchange_one}
use Rattle.call_dispatch.proofs.SystemOne.{InAnyCall, in_any_one, in_any_not_served, in_any_not_answered, system_exchange_one, system_not_served}
use Rattle.call_dispatch.proofs.OpeningReading.{opens, over, reading, neq-eqb, opening_passed, Reads, nothing_reads, greeted_reads}
use Rattle.call_dispatch.specs.declared.messages.TheConstants.{MAX_MESSAGES}

-- ---- one exchange

abbrev first_byte : List ℕ → ℕ
first_byte [] = 0
first_byte (b ∷ bytes) = b

-- A Call doesn't begin as a Ping does, nor as an acknowledgement, and these two neither.
pub no_call : (xs ys : List ℕ) → code_byte Call ∷ xs ≡ code_byte Ping ∷ ys → ⊥
no_call xs ys same = true≢false (ap (λ (l : List ℕ). eqb (first_byte l) 0x50) same)

pub no_ack : (xs ys : List ℕ) → code_byte Call ∷ xs ≡ code_byte DgcAck ∷ ys → ⊥
no_ack xs ys same = true≢false (ap (λ (l : List ℕ). eqb (first_byte l) 0x50) same)

pub no_ping : (xs ys : List ℕ) → code_byte Ping ∷ xs ≡ code_byte DgcAck ∷ ys → ⊥
no_ping xs ys same = true≢false (ap (λ (l : List ℕ). eqb (first_byte l) 0x52) same)

-- The identifier of an acknowledgement, and what comes behind it.
pub uid_same : (uid uid2 : Uid) (xs ys : List ℕ) → FitsUid uid → FitsUid uid2 → bytes_of_uid uid ++ xs ≡ bytes_of_uid uid2 ++ ys → (uid ≡ uid2) × (xs ≡ ys)
uid_same uid uid2 xs ys fits fits2 same =
    let uids : uid ≡ uid2 = sym (uid-spelled uid xs fits.unique fits.time fits.count) ∙ ap uid_from_bytes same ∙ uid-spelled uid2 ys fits2.unique fits2.time fits2.count in
    (uids, same_behind (bytes_of_uid uid) (bytes_of_uid uid2) xs ys (ap bytes_of_uid uids) same)

acknowledged_same : (u u2 : Uid) (m m2 : ℕ) (a a2 : Result Turn Refused) → u ≡ u2 → m ≡ m2 → a ≡ a2 → acknowledged (record { uid = u; moment = m; answer = a }) ≡ acknowledged (record { uid = u2; moment = m2; answer = a2 })
acknowledged_same u u2 m m2 a a2 us ms answers = λ i. acknowledged (record { uid = us i; moment = ms i; answer = answers i })

-- what the outside hands in at an acknowledgement
abbrev ack_ticks : ℕ → Result Turn Refused → List OutsideAnswer
ack_ticks moment answer = turn_answer moment (end_of answer) ∷ []

ack_tape : (uid : Uid) (moment : ℕ) (answer : Result Turn Refused) → IsNoted answer → tape (acts_of moment (Ack uid) answer) ≡ ack_ticks moment answer
ack_tape uid moment (Ok turn) noted = turn_alone moment (Ack uid) turn
ack_tape uid moment (Err refusals.HistoryFull) noted = refl
ack_tape uid moment (Err (refusals.Full kind)) noted = absurd noted
ack_tape uid moment (Err refusals.OutOfMemory) noted = absurd noted

ack_one : (m m2 : ℕ) (a a2 : Result Turn Refused) (t t2 : List OutsideAnswer) → ack_ticks m a ++ t ≡ ack_ticks m2 a2 ++ t2 → (m ≡ m2) × (a ≡ a2) × (t ≡ t2)
ack_one m m2 (Ok turn) (Ok turn2) t t2 same = ((cc), (cc), (cc))
ack_one m m2 (Ok turn) (Err refusal) t t2 same = absurd (cc)
ack_one m m2 (Err refusal) (Ok turn) t t2 same = absurd (cc)
ack_one m m2 (Err refusal) (Err refusal2) t t2 same = ((cc), (cc), (cc))

served_same : (b b2 : List ℕ) (h h2 : CallHead) (u u2 : Uid) (s s2 : Way) → b ≡ b2 → h ≡ h2 → u ≡ u2 → s ≡ s2 → served (record { bytes = b; head = h; uid = u }) s ≡ served (record { bytes = b2; head = h2; uid = u2 }) s2
served_same b b2 h h2 u u2 s s2 bs hs us ss = λ i. served (record { bytes = bs i; head = hs i; uid = us i }) (ss i)

system_same : (b b2 : List ℕ) (h h2 : CallHead) (u u2 : Uid) (s s2 : System) → b ≡ b2 → h ≡ h2 → u ≡ u2 → s ≡ s2 → system (record { bytes = b; head = h; uid = u }) s ≡ system (record { bytes = b2; head = h2; uid = u2 }) s2
system_same b b2 h h2 u u2 s s2 bs hs us ss = λ i. system (record { bytes = bs i; head = hs i; uid = us i }) (ss i)

-- Two exchanges that begin one input and one list of answers are one.
pub next_is_one : (terms : Terms) (drawn : ℕ) (e f : Exchange) (rest rest2 : List ℕ) (t t2 : List OutsideAnswer)
    → IsExchange terms drawn e → IsExchange terms drawn f
    → taken_by e ++ rest ≡ taken_by f ++ rest2 → tape (acts_by e) ++ t ≡ tape (acts_by f) ++ t2
    → (e ≡ f) × (rest ≡ rest2) × (t ≡ t2)
next_is_one terms drawn ping ping rest rest2 t t2 is is2 input ticking = (refl, ap (drop 1) input, ticking)
next_is_one terms drawn ping (acknowledged noted) rest rest2 t t2 is is2 input ticking = absurd (no_ping rest (bytes_of_uid noted.uid ++ rest2) input)
next_is_one terms drawn (acknowledged noted) ping rest rest2 t t2 is is2 input ticking = absurd (no_ping rest2 (bytes_of_uid noted.uid ++ rest) (sym input))
next_is_one terms drawn (acknowledged noted3) (acknowledged noted4) rest rest2 t t2 (fits, noted) (fits2, noted2) input ticking =
    let one = uid_same noted3.uid noted4.uid rest rest2 fits fits2 (ap (drop 1) input) in
    let handed : ack_ticks noted3.moment noted3.answer ++ t ≡ ack_ticks noted4.moment noted4.answer ++ t2 =
    ap (λ (l : List OutsideAnswer). l ++ t) (sym (ack_tape noted3.uid noted3.moment noted3.answer noted)) ∙ ticking ∙ ap (λ (l : List OutsideAnswer). l ++ t2) (ack_tape noted4.uid noted4.moment noted4.answer noted2) in
    let told = ack_one noted3.moment noted4.moment noted3.answer noted4.answer t t2 handed in
    (acknowledged_same noted3.uid noted4.uid noted3.moment noted4.moment noted3.answer noted4.answer one.0 told.0 told.1, one.1, told.2)
next_is_one terms drawn (acknowledged noted) (served msg s) rest rest2 t t2 is is2 input ticking = absurd (no_ack (msg.bytes ++ rest2) (bytes_of_uid noted.uid ++ rest) (sym input))
next_is_one terms drawn (served msg s) (acknowledged noted) rest rest2 t t2 is is2 input ticking = absurd (no_ack (msg.bytes ++ rest) (bytes_of_uid noted.uid ++ rest2) input)
next_is_one terms drawn ping (served msg s) rest rest2 t t2 is is2 input ticking = absurd (no_call (msg.bytes ++ rest2) rest (sym input))
next_is_one terms drawn (served msg s) ping rest rest2 t t2 is is2 input ticking = absurd (no_call (msg.bytes ++ rest) rest2 input)
next_is_one terms drawn (served msg s) (served msg2 s2) rest rest2 t t2 (other, draw, fits, few, is) (other2, draw2, fits2, few2, is2) input ticking =
    let uids : msg.uid ≡ msg2.uid = draw ∙ sym draw2 in
    let behind : msg.bytes ++ rest ≡ msg2.bytes ++ rest2 = ap (drop 1) input in
    let P : Uid → Type 0 = λ u. IsServed terms msg2.head msg2.bytes u s2 in
    let one = exchange_one terms msg.head msg2.head msg.bytes msg2.bytes msg.uid s s2 rest rest2 t t2 fits fits2 is (subst P (sym uids) is2) behind (ticking ∙ ap (λ (u : Uid). tape (served_acts msg2.head u s2) ++ t2) (sym uids)) in
    (served_same msg.bytes msg2.bytes msg.head msg2.head msg.uid msg2.uid s s2 one.2 one.0 uids one.1, same_behind msg.bytes msg2.bytes rest rest2 one.2 behind, one.3)
next_is_one terms drawn ping (system msg s) rest rest2 t t2 is is2 input ticking = absurd (no_call (msg.bytes ++ rest2) rest (sym input))
next_is_one terms drawn (system msg s) ping rest rest2 t t2 is is2 input ticking = absurd (no_call (msg.bytes ++ rest) rest2 input)
next_is_one terms drawn (acknowledged noted) (system msg s) rest rest2 t t2 is is2 input ticking = absurd (no_ack (msg.bytes ++ rest2) (bytes_of_uid noted.uid ++ rest) (sym input))
next_is_one terms drawn (system msg s) (acknowledged noted) rest rest2 t t2 is is2 input ticking = absurd (no_ack (msg.bytes ++ rest) (bytes_of_uid noted.uid ++ rest2) input)
next_is_one terms drawn (system msg s) (served msg2 s2) rest rest2 t t2 (own, fits, few, is) (other, draw, fits2, few2, is2) input ticking =
    absurd (system_not_served terms drawn msg.head msg2.head msg.bytes msg2.bytes msg.uid msg2.uid s s2 rest rest2 fits fits2 own other is is2 (ap (drop 1) input))
next_is_one terms drawn (served msg s) (system msg2 s2) rest rest2 t t2 (other, draw, fits, few, is) (own, fits2, few2, is2) input ticking =
    absurd (system_not_served terms drawn msg2.head msg.head msg2.bytes msg.bytes msg2.uid msg.uid s2 s rest2 rest fits2 fits own other is2 is (ap (drop 1) (sym input)))
next_is_one terms drawn (system msg s) (system msg2 s2) rest rest2 t t2 (own, fits, few, is) (own2, fits2, few2, is2) input ticking =
    let behind : msg.bytes ++ rest ≡ msg2.bytes ++ rest2 = ap (drop 1) input in
    let one = system_exchange_one terms drawn msg.head msg2.head msg.bytes msg2.bytes msg.uid msg2.uid s s2 rest rest2 t t2 fits fits2 is is2 behind ticking in
    (system_same msg.bytes msg2.bytes msg.head msg2.head msg.uid msg2.uid s s2 one.1.2 one.0 one.1.0 one.1.1, same_behind msg.bytes msg2.bytes rest rest2 one.1.2 behind, one.1.3)

-- ---- what comes next

-- after an opening and some exchanges: a Ping, an acknowledgement or a Call, with the input behind its code; or an end, with what is left
pub data Next : Type 0 where
  pinged : List ℕ → Next
  acking : List ℕ → Next
  calling : List ℕ → Next
  stopped : ConnEnd → List ℕ → Next

-- behind the code of an acknowledgement that stands at `at`
abbrev pub ack_next : ℕ → List ℕ → Next
ack_next at xs = cond (nat_lt (length xs) 14) (stopped (Truncated (at + 1 + length xs)) []) (acking xs)

-- at a code's place at `at`, where n messages were served
abbrev pub code_next : ℕ → ℕ → List ℕ → Next
code_next n at [] = stopped Ended []
code_next n at (b ∷ xs) =
    cond (eqb b 0x50 || (eqb b 0x52 || eqb b 0x54))
    (cond (eqb n MAX_MESSAGES) (stopped MessageLimit xs)
    (cond (eqb b 0x50) (calling xs) (cond (eqb b 0x52) (pinged xs) (ack_next at xs))))
    (stopped (BadMessage b at) xs)

-- where the connection wasn't closed
abbrev pub open_next : Opening → List Exchange → ℕ → List ℕ → Next
open_next (stream endpoint) es at xs = code_next (length es) at xs
open_next single_op [] at xs = code_next 0 at xs
open_next single_op (e ∷ es) at xs = stopped Ended xs

abbrev pub unless_closed : List ℕ → Next → Option ConnEnd → Next
unless_closed xs goes None = goes
unless_closed xs goes (Some end) = stopped end xs

abbrev pub next : Opening → List Exchange → List ℕ → Next
next opening es xs = unless_closed xs (open_next opening es (length (taken_in (opened opening es))) xs) (closed_by es)

-- an exchange that comes next
abbrev pub went : Exchange → List ℕ → Next
went ping xs = pinged xs
went (acknowledged noted) xs = acking (bytes_of_uid noted.uid ++ xs)
went (served msg s) xs = calling (msg.bytes ++ xs)
went (system msg s) xs = calling (msg.bytes ++ xs)

code_reads : (n at : ℕ) (e : Exchange) (rest : List ℕ) → n < MAX_MESSAGES → code_next n at (taken_by e ++ rest) ≡ went e rest
code_reads n at ping rest few = let no = neq-eqb n MAX_MESSAGES (λ same. omega arith) in rw no refl
code_reads n at (acknowledged noted) rest few =
    let no = neq-eqb n MAX_MESSAGES (λ same. omega arith) in
    let long : length (bytes_of_uid noted.uid ++ rest) ≡ 14 + length rest = length-append (bytes_of_uid noted.uid) rest in
    let enough : nat_lt (length (bytes_of_uid noted.uid ++ rest)) 14 ≡ false = grind (arith, nat_tests, long) in
    rw (no, enough) refl
code_reads n at (served msg s) rest few = let no = neq-eqb n MAX_MESSAGES (λ same. omega arith) in rw no refl
code_reads n at (system msg s) rest few = let no = neq-eqb n MAX_MESSAGES (λ same. omega arith) in rw no refl

open_reads : (opening : Opening) (es : List Exchange) (at : ℕ) (e : Exchange) (rest : List ℕ) → length es < most_messages opening → open_next opening es at (taken_by e ++ rest) ≡ went e rest
open_reads (stream endpoint) es at e rest few = code_reads (length es) at e rest few
open_reads single_op [] at e rest few = code_reads 0 at e rest (omega arith)
open_reads single_op (f ∷ es) at e rest few = absurd (omega (arith, few))

-- A whole exchange is what comes next.
pub next_reads : (opening : Opening) (es : List Exchange) (e : Exchange) (rest : List ℕ) → length es < most_messages opening → StaysOpen es → next opening es (taken_by e ++ rest) ≡ went e rest
next_reads opening es e rest few goes =
    ap (unless_closed (taken_by e ++ rest) (open_next opening es (length (taken_in (opened opening es))) (taken_by e ++ rest))) goes
    ∙ open_reads opening es (length (taken_in (opened opening es))) e rest few

code_told : (b : ℕ) → IsCode b → (eqb b 0x50 || (eqb b 0x52 || eqb b 0x54)) ≡ true
code_told b (Call, is) = rw is refl
code_told b (Ping, is) = rw is refl
code_told b (DgcAck, is) = rw is refl

code_untold : (b : ℕ) → ¬ IsCode b → (eqb b 0x50 || (eqb b 0x52 || eqb b 0x54)) ≡ false
code_untold b none =
    let x = neq-eqb b 0x50 (λ is. none (Call, is)) in
    let y = neq-eqb b 0x52 (λ is. none (Ping, is)) in
    let z = neq-eqb b 0x54 (λ is. none (DgcAck, is)) in
    rw (x, y, z) refl

no_code_next : (n at byte : ℕ) (xs : List ℕ) → ¬ IsCode byte → code_next n at (byte ∷ xs) ≡ stopped (BadMessage byte at) xs
no_code_next n at byte xs none = let told = code_untold byte none in rw told refl

-- The input ends in an acknowledgement.
ack_cut : (n at : ℕ) (part : List ℕ) → n < MAX_MESSAGES → length part < 14 → code_next n at (code_byte DgcAck ∷ part) ≡ stopped (Truncated (at + 1 + length part)) []
ack_cut n at part few short =
    let no = neq-eqb n MAX_MESSAGES (λ same. omega arith) in
    let less : nat_lt (length part) 14 ≡ true = grind (arith, nat_tests) in
    rw (no, less) refl

call_next : (n at : ℕ) (xs : List ℕ) → n < MAX_MESSAGES → code_next n at (code_byte Call ∷ xs) ≡ calling xs
call_next n at xs few = let no = neq-eqb n MAX_MESSAGES (λ same. omega arith) in rw no refl

limit_next : (n at byte : ℕ) (xs : List ℕ) → n ≡ MAX_MESSAGES → IsCode byte → code_next n at (byte ∷ xs) ≡ stopped MessageLimit xs
limit_next n at byte xs full known =
    let told = code_told byte known in
    let last = eq-eqb n MAX_MESSAGES full in
    rw (told, last) refl

-- What comes next where a code is to come, where nothing more is, and where the connection was closed.
at_code_next : (opening : Opening) (es : List Exchange) (xs : List ℕ) → IsAtCode (opened opening es) → next opening es xs ≡ code_next (length es) (length (taken_in (opened opening es))) xs
at_code_next (stream endpoint) es xs code = ap (unless_closed xs (code_next (length es) (length (taken_in (opened (stream endpoint) es))) xs)) code
at_code_next single_op [] xs code = refl
at_code_next single_op (e ∷ es) xs code = absurd code

done_next : (opening : Opening) (es : List Exchange) (xs : List ℕ) → IsDone (opened opening es) → next opening es xs ≡ stopped Ended xs
done_next (stream endpoint) es xs done = absurd done
done_next single_op [] xs done = absurd done
done_next single_op (e ∷ es) xs done = ap (unless_closed xs (stopped Ended xs)) done

closed_next : (opening : Opening) (es : List Exchange) (end : ConnEnd) (xs : List ℕ) → IsClosed (opened opening es) end → next opening es xs ≡ stopped end xs
closed_next opening es end xs closed = ap (unless_closed xs (open_next opening es (length (taken_in (opened opening es))) xs)) closed

-- ---- ends

after_code : (a b : ℕ) → a + suc b ≡ a + 1 + b
after_code a b = omega arith

-- After these exchanges came these bytes and this end, and nothing else was done.
abbrev pub Stops : Opening → List Exchange → Transcript → List ℕ → ConnEnd → Type 0
Stops opening es tail rest end = (more : List ℕ) × (tail ≡ bytes_taken more) × (next opening es (more ++ rest) ≡ stopped end rest)

-- After these exchanges a Call began, and reading ended in it.
abbrev pub StopsInCall : Terms → Opening → List Exchange → Transcript → List ℕ → ConnEnd → Type 0
StopsInCall terms opening es tail rest end = (more : List ℕ) × (tail.taken ≡ code_byte Call ∷ more) × (next opening es (code_byte Call ∷ (more ++ rest)) ≡ calling (more ++ rest))
    × InAnyCall terms.kinds (length (taken_in (opened opening es))) tail rest end

abbrev pub StopsAt : Terms → Opening → List Exchange → Transcript → List ℕ → ConnEnd → Type 0
StopsAt terms opening es tail rest end = Stops opening es tail rest end ⊎ StopsInCall terms opening es tail rest end

-- what was taken of the Call
taken_of : (terms : Terms) (at : ℕ) (tail : Transcript) (rest : List ℕ) (end : ConnEnd) → InAnyCall terms.kinds at tail rest end → (more : List ℕ) × (tail.taken ≡ code_byte Call ∷ more)
taken_of terms at tail rest end (inl (more, is, breaks)) = (more, ap (λ (c : Transcript). c.taken) is)
taken_of terms at tail rest end (inr (inl a)) = (a.front ++ a.more, ap (λ (c : Transcript). c.taken) a.tail_is)
taken_of terms at tail rest end (inr (inr a)) = (a.front ++ a.more, ap (λ (c : Transcript). c.taken) a.tail_is)

call_stops : (terms : Terms) (opening : Opening) (es : List Exchange) (tail : Transcript) (rest : List ℕ) (end : ConnEnd) → EndsInCall terms (opened opening es) tail (Some rest) end → StopsAt terms opening es tail rest end
call_stops terms opening es tail rest end (code, room, inside) =
    let at : ℕ = length (taken_in (opened opening es)) in
    let (more, taken) = taken_of terms at tail rest end inside in
    inr (more, taken, at_code_next opening es (code_byte Call ∷ (more ++ rest)) code ∙ call_next (length es) at (more ++ rest) room, inside)

pub opened_stops : (terms : Terms) (drawn : ℕ) (opening : Opening) (es : List Exchange) (tail : Transcript) (rest : List ℕ) (end : ConnEnd)
    → Ends terms drawn (opened opening es) tail (Some rest) end → IsSettled end → StopsAt terms opening es tail rest end
opened_stops terms drawn opening es tail rest Ended (inl (code, left), is) settled =
    let at : ℕ = length (taken_in (opened opening es)) in
    inl ([], is, at_code_next opening es rest code ∙ ap (λ xs. code_next (length es) at xs) left ∙ ap (stopped Ended) (sym left))
opened_stops terms drawn opening es tail rest Ended (inr done, is) settled = inl ([], is, done_next opening es rest done)
opened_stops terms drawn opening es tail rest (BadHeader at) (none, h) settled = absurd (cc)
opened_stops terms drawn opening es tail rest (UnknownProtocol byte) (none, other, is) settled = absurd (cc)
opened_stops terms drawn opening es tail rest (BadMessage byte at) (code, none, place, is) settled =
    let here : ℕ = length (taken_in (opened opening es)) in
    inl (byte ∷ [], is, at_code_next opening es (byte ∷ rest) code ∙ no_code_next (length es) here byte rest none ∙ ap (λ n. stopped (BadMessage byte n) rest) (sym place))
opened_stops terms drawn opening es tail rest (BadStream kind at) inside settled = call_stops terms opening es tail rest (BadStream kind at) inside
opened_stops terms drawn opening es tail rest (TooLarge what at) inside settled = call_stops terms opening es tail rest (TooLarge what at) inside
opened_stops terms drawn opening es tail rest (Truncated at) (inl (more, (code, room, (part, begun, short)), left, place, is)) settled =
    let here : ℕ = length (taken_in (opened opening es)) in
    let input : more ++ rest ≡ code_byte DgcAck ∷ part = ap (λ (l : List ℕ). more ++ l) left ∙ append-nil more ∙ begun in
    let long : length (taken_in (opened opening es) ++ more) ≡ here + 1 + length part =
    length-append (taken_in (opened opening es)) more ∙ ap (λ (l : List ℕ). here + length l) begun ∙ after_code here (length part) in
    let next_is : next opening es (more ++ rest) ≡ code_next (length es) here (more ++ rest) = at_code_next opening es (more ++ rest) code in
    inl (more, is, next_is ∙ ap (code_next (length es) here) input ∙ ack_cut (length es) here part room short ∙ ap (λ n. stopped (Truncated n) []) (sym (place ∙ long)) ∙ ap (stopped (Truncated at)) (sym left))
opened_stops terms drawn opening es tail rest (Truncated at) (inr inside) settled = call_stops terms opening es tail rest (Truncated at) inside
opened_stops terms drawn opening es tail rest (NoSuchObject id) (closed, is) settled = inl ([], is, closed_next opening es (NoSuchObject id) rest closed)
opened_stops terms drawn opening es tail rest (NoSuchMethod operation hash) (closed, is) settled = inl ([], is, closed_next opening es (NoSuchMethod operation hash) rest closed)
opened_stops terms drawn opening es tail rest SpaceFull (closed, is) settled = inl ([], is, closed_next opening es SpaceFull rest closed)
opened_stops terms drawn opening es tail rest MessageLimit (code, full, (byte, known, is)) settled =
    let here : ℕ = length (taken_in (opened opening es)) in
    inl (byte ∷ [], is, at_code_next opening es (byte ∷ rest) code ∙ limit_next (length es) here byte rest full known)
opened_stops terms drawn opening es tail rest ReadFault ends settled = absurd settled
opened_stops terms drawn opening es tail rest (WriteFault sent) ends settled = absurd settled
opened_stops terms drawn opening es tail rest OutOfMemory ends settled = absurd settled

-- what comes next is the same where the input is
next_same : (opening : Opening) (es : List Exchange) (xs ys : List ℕ) (a b : Next) → xs ≡ ys → next opening es xs ≡ a → next opening es ys ≡ b → a ≡ b
next_same opening es xs ys a b same one two = sym one ∙ ap (next opening es) same ∙ two

-- the input of a Call in which reading ended
pub call_input : (tail : Transcript) (more rest : List ℕ) → tail.taken ≡ code_byte Call ∷ more → tail.taken ++ rest ≡ code_byte Call ∷ (more ++ rest)
call_input tail more rest taken = ap (λ (l : List ℕ). l ++ rest) taken

-- After some exchanges one end stands.
ends_one : (terms : Terms) (opening : Opening) (es : List Exchange) (tail tail2 : Transcript) (rest rest2 : List ℕ) (end end2 : ConnEnd) (t t2 : List OutsideAnswer) → StopsAt terms opening es tail rest end → IsSettled end
    → StopsAt terms opening es tail2 rest2 end2 → IsSettled end2 → tail.taken ++ rest ≡ tail2.taken ++ rest2 → tape tail.acts ++ t ≡ tape tail2.acts ++ t2 → (end ≡ end2) × (tail ≡ tail2) × (rest ≡ rest2)
ends_one terms opening es tail tail2 rest rest2 end end2 t t2 (inl (more, is, stop)) settled (inl (more2, is2, stop2)) settled2 input ticking =
    let same_input : more ++ rest ≡ more2 ++ rest2 = sym (ap (λ (c : Transcript). c.taken ++ rest) is) ∙ input ∙ ap (λ (c : Transcript). c.taken ++ rest2) is2 in
    let same : stopped end rest ≡ stopped end2 rest2 = next_same opening es (more ++ rest) (more2 ++ rest2) (stopped end rest) (stopped end2 rest2) same_input stop stop2 in
    let rests : rest ≡ rest2 = cc in
    let mores : more ≡ more2 = append_cancel_right more more2 rest2 (ap (λ (l : List ℕ). more ++ l) (sym rests) ∙ same_input) in
    ((cc), is ∙ ap bytes_taken mores ∙ sym is2, rests)
ends_one terms opening es tail tail2 rest rest2 end end2 t t2 (inl (more, is, stop)) settled (inr (more2, taken2, calls2, inside2)) settled2 input ticking =
    let same_input : more ++ rest ≡ code_byte Call ∷ (more2 ++ rest2) = sym (ap (λ (c : Transcript). c.taken ++ rest) is) ∙ input ∙ call_input tail2 more2 rest2 taken2 in
    let same : stopped end rest ≡ calling (more2 ++ rest2) = next_same opening es (more ++ rest) (code_byte Call ∷ (more2 ++ rest2)) (stopped end rest) (calling (more2 ++ rest2)) same_input stop calls2 in
    absurd (cc)
ends_one terms opening es tail tail2 rest rest2 end end2 t t2 (inr (more, taken, calls, inside)) settled (inl (more2, is2, stop2)) settled2 input ticking =
    let same_input : more2 ++ rest2 ≡ code_byte Call ∷ (more ++ rest) = sym (ap (λ (c : Transcript). c.taken ++ rest2) is2) ∙ sym input ∙ call_input tail more rest taken in
    let same : stopped end2 rest2 ≡ calling (more ++ rest) = next_same opening es (more2 ++ rest2) (code_byte Call ∷ (more ++ rest)) (stopped end2 rest2) (calling (more ++ rest)) same_input stop2 calls in
    absurd (cc)
ends_one terms opening es tail tail2 rest rest2 end end2 t t2 (inr (more, taken, calls, inside)) settled (inr (more2, taken2, calls2, inside2)) settled2 input ticking =
    in_any_one terms.kinds (length (taken_in (opened opening es))) tail tail2 rest rest2 end end2 t t2 inside settled inside2 settled2 input ticking

pub stopped_went : (end : ConnEnd) (rest : List ℕ) (f : Exchange) (xs : List ℕ) → stopped end rest ≡ went f xs → ⊥
stopped_went end rest ping xs same = cc
stopped_went end rest (acknowledged noted) xs same = cc
stopped_went end rest (served msg s) xs same = cc
stopped_went end rest (system msg s) xs same = cc

-- An end doesn't stand where an exchange goes on.
not_both : (terms : Terms) (opening : Opening) (es : List Exchange) (drawn : ℕ) (tail : Transcript) (rest : List ℕ) (end : ConnEnd) (f : Exchange) (xs : List ℕ) (t u : List OutsideAnswer) → StopsAt terms opening es tail rest end → IsSettled end
    → length es < most_messages opening → StaysOpen es → IsExchange terms drawn f → tail.taken ++ rest ≡ taken_by f ++ xs → tape tail.acts ++ t ≡ tape (acts_by f) ++ u → ⊥
not_both terms opening es drawn tail rest end f xs t u (inl (more, is, stop)) settled few goes legal input ticking =
    let same_input : more ++ rest ≡ taken_by f ++ xs = sym (ap (λ (c : Transcript). c.taken ++ rest) is) ∙ input in
    stopped_went end rest f xs (next_same opening es (more ++ rest) (taken_by f ++ xs) (stopped end rest) (went f xs) same_input stop (next_reads opening es f xs few goes))
not_both terms opening es drawn tail rest end ping xs t u (inr (more, taken, calls, inside)) settled few goes legal input ticking =
    no_call (more ++ rest) xs (sym (call_input tail more rest taken) ∙ input)
not_both terms opening es drawn tail rest end (acknowledged noted) xs t u (inr (more, taken, calls, inside)) settled few goes legal input ticking =
    no_ack (more ++ rest) (bytes_of_uid noted.uid ++ xs) (sym (call_input tail more rest taken) ∙ input)
not_both terms opening es drawn tail rest end (served msg s) xs t u (inr (more, taken, calls, inside)) settled few goes (other, draw, fits, small, is) input ticking =
    in_any_not_served terms (length (taken_in (opened opening es))) tail rest end msg.head msg.bytes msg.uid s xs t u inside settled other fits small is input ticking
not_both terms opening es drawn tail rest end (system msg s) xs t u (inr (more, taken, calls, inside)) settled few goes (own, fits, small, is) input ticking =
    in_any_not_answered terms drawn (length (taken_in (opened opening es))) tail rest end msg.head msg.bytes msg.uid s xs inside settled own fits small is input

-- ---- exchanges

pub chain_first : (terms : Terms) (drawn : ℕ) (e : Exchange) (es : List Exchange) → IsChain terms drawn (e ∷ es) → IsExchange terms drawn e
chain_first terms drawn e [] chain = chain
chain_first terms drawn e (f ∷ es) chain = chain.0

pub chain_rest : (terms : Terms) (drawn : ℕ) (e : Exchange) (es : List Exchange) → IsChain terms drawn (e ∷ es) → IsChain terms (drawn + draws_by e) es
chain_rest terms drawn e [] chain = tt
chain_rest terms drawn e (f ∷ es) chain = chain.2

-- The first of some exchanges, and then the rest.
pub first_taken : (e : Exchange) (es : List Exchange) (xs : List ℕ) → flat_map taken_by (e ∷ es) ++ xs ≡ taken_by e ++ (flat_map taken_by es ++ xs)
first_taken e es xs = append_assoc (taken_by e) (flat_map taken_by es) xs

-- one list of acts, and then another
acts_tape : (a b : List Act) (t : List OutsideAnswer) → tape (a ++ b) ++ t ≡ tape a ++ (tape b ++ t)
acts_tape a b t = ap (λ (l : List OutsideAnswer). l ++ t) (flat_map-append outside_answers a b) ∙ append_assoc (tape a) (tape b) t

first_tape : (e : Exchange) (es : List Exchange) (t : List OutsideAnswer) → tape (flat_map acts_by (e ∷ es)) ++ t ≡ tape (acts_by e) ++ (tape (flat_map acts_by es) ++ t)
first_tape e es t = acts_tape (acts_by e) (flat_map acts_by es) t

-- Behind some exchanges others follow: the first of them begins the input and the answers that are left behind the former.
record Follows (terms : Terms) (es fs : List Exchange) (a b : List ℕ) (t u : List OutsideAnswer) : Type 0 where
  one : Exchange
  others : List Exchange
  is : fs ≡ es ++ one ∷ others
  drawn : ℕ
  legal : IsExchange terms drawn one
  goes : StaysOpen es
  input : a ≡ taken_by one ++ (flat_map taken_by others ++ b)
  ticking : t ≡ tape (acts_by one) ++ (tape (flat_map acts_by others) ++ u)

-- Others follow the one or the other, or they are the same.
abbrev Compared : Terms → List Exchange → List Exchange → List ℕ → List ℕ → List OutsideAnswer → List OutsideAnswer → Type 0
Compared terms es fs a b t u = Follows terms es fs a b t u ⊎ (Follows terms fs es b a u t ⊎ ((es ≡ fs) × (a ≡ b) × (t ≡ u)))

-- An exchange goes on where others follow it.
chain_open : (terms : Terms) (drawn : ℕ) (f : Exchange) (fs es : List Exchange) (one : Exchange) (others : List Exchange) → IsChain terms drawn (f ∷ fs) → fs ≡ es ++ one ∷ others → IsOpen f
chain_open terms drawn f [] es one others chain is =
    let long : 0 ≡ length es + length (one ∷ others) = ap (λ (l : List Exchange). length l) is ∙ length-append es (one ∷ others) in
    absurd (omega (arith, long))
chain_open terms drawn f (g ∷ fs) es one others chain is = chain.1

pub goes_more : (e : Exchange) (es : List Exchange) → IsOpen e → StaysOpen es → StaysOpen (e ∷ es)
goes_more e [] still goes = still
goes_more e (f ∷ es) still goes = goes

follows_more : (terms : Terms) (drawn : ℕ) (e f : Exchange) (es fs : List Exchange) (a b : List ℕ) (t u : List OutsideAnswer) → e ≡ f → IsChain terms drawn (f ∷ fs) → Follows terms es fs a b t u → Follows terms (e ∷ es) (f ∷ fs) a b t u
follows_more terms drawn e f es fs a b t u same chain x =
    let P : Exchange → Type 0 = λ y. IsOpen y in
    record {
      one = x.one;
      others = x.others;
      is = ap (λ (l : List Exchange). f ∷ l) x.is ∙ ap (λ y. y ∷ (es ++ x.one ∷ x.others)) (sym same);
      drawn = x.drawn;
      legal = x.legal;
      goes = goes_more e es (subst P (sym same) (chain_open terms drawn f fs es x.one x.others chain x.is)) x.goes;
      input = x.input;
      ticking = x.ticking;
    }

compared_more : (terms : Terms) (drawn : ℕ) (e f : Exchange) (es fs : List Exchange) (a b : List ℕ) (t u : List OutsideAnswer) → e ≡ f → IsChain terms drawn (e ∷ es) → IsChain terms drawn (f ∷ fs) → Compared terms es fs a b t u → Compared terms (e ∷ es) (f ∷ fs) a b t u
compared_more terms drawn e f es fs a b t u same chain chain2 (inl x) = inl (follows_more terms drawn e f es fs a b t u same chain2 x)
compared_more terms drawn e f es fs a b t u same chain chain2 (inr (inl x)) = inr (inl (follows_more terms drawn f e fs es b a u t (sym same) chain x))
compared_more terms drawn e f es fs a b t u same chain chain2 (inr (inr (more, left, handed))) = inr (inr (ap (λ x. x ∷ es) same ∙ ap (λ (l : List Exchange). f ∷ l) more, left, handed))

-- Of two lists of exchanges that begin one input and one list of answers, the one begins the other.
compared : (es fs : List Exchange) (terms : Terms) (drawn : ℕ) (a b : List ℕ) (t u : List OutsideAnswer) → IsChain terms drawn es → IsChain terms drawn fs
    → flat_map taken_by es ++ a ≡ flat_map taken_by fs ++ b → tape (flat_map acts_by es) ++ t ≡ tape (flat_map acts_by fs) ++ u → Compared terms es fs a b t u
compared [] [] terms drawn a b t u chain chain2 input ticking = inr (inr (refl, input, ticking))
compared [] (f ∷ fs) terms drawn a b t u chain chain2 input ticking = inl (record {
  one = f;
  others = fs;
  is = refl;
  drawn = drawn;
  legal = chain_first terms drawn f fs chain2;
  goes = refl;
  input = input ∙ first_taken f fs b;
  ticking = ticking ∙ first_tape f fs u;
})
compared (e ∷ es) [] terms drawn a b t u chain chain2 input ticking = inr (inl (record {
  one = e;
  others = es;
  is = refl;
  drawn = drawn;
  legal = chain_first terms drawn e es chain;
  goes = refl;
  input = sym input ∙ first_taken e es a;
  ticking = sym ticking ∙ first_tape e es t;
}))
compared (e ∷ es) (f ∷ fs) terms drawn a b t u chain chain2 input ticking =
    let taken : taken_by e ++ (flat_map taken_by es ++ a) ≡ taken_by f ++ (flat_map taken_by fs ++ b) = sym (first_taken e es a) ∙ input ∙ first_taken f fs b in
    let handed : tape (acts_by e) ++ (tape (flat_map acts_by es) ++ t) ≡ tape (acts_by f) ++ (tape (flat_map acts_by fs) ++ u) = sym (first_tape e es t) ∙ ticking ∙ first_tape f fs u in
    let one = next_is_one terms drawn e f (flat_map taken_by es ++ a) (flat_map taken_by fs ++ b) (tape (flat_map acts_by es) ++ t) (tape (flat_map acts_by fs) ++ u)
    (chain_first terms drawn e es chain) (chain_first terms drawn f fs chain2) taken handed in
    let P : Exchange → Type 0 = λ x. IsChain terms (drawn + draws_by x) fs in
    let chain3 : IsChain terms (drawn + draws_by e) fs = subst P (sym one.0) (chain_rest terms drawn f fs chain2) in
    compared_more terms drawn e f es fs a b t u one.0 chain chain2 (compared es fs terms (drawn + draws_by e) a b t u (chain_rest terms drawn e es chain) chain3 one.1 one.2)

-- ---- dialogues

-- a transcript, by its parts
abbrev course_with : List ℕ → List Act → ℕ → List ℕ → Transcript
course_with taken acts draws written = record { taken = taken; acts = acts; draws = draws; written = written }

course_same : (t t2 : List ℕ) (a a2 : List Act) (d d2 : ℕ) (w w2 : List ℕ) → t ≡ t2 → a ≡ a2 → d ≡ d2 → w ≡ w2 → course_with t a d w ≡ course_with t2 a2 d2 w2
course_same t t2 a a2 d d2 w w2 taken acts draws written =
    ap (λ x. course_with x a d w) taken ∙ ap (λ x. course_with t2 x d w) acts ∙ ap (λ x. course_with t2 a2 x w) draws ∙ ap (course_with t2 a2 d2) written

-- The dialogue ends in the opening.
abbrev InOpening : Terms → Transcript → List ℕ → ConnEnd → Type 0
InOpening terms c rest end = (reading terms (c.taken ++ rest) ≡ over end c.written rest) × (c.acts ≡ []) × (c.draws ≡ 0)

-- The dialogue ends after an opening and some exchanges.
record AfterOpening (terms : Terms) (drawn : ℕ) (c : Transcript) (rest : List ℕ) (end : ConnEnd) : Type 0 where
  opening : Opening
  es : List Exchange
  tail : Transcript
  reads : reading terms (c.taken ++ rest) ≡ opens opening (flat_map taken_by es ++ (tail.taken ++ rest))
  is : c ≡ followed_by (transcript_in terms (opened opening es)) tail
  chain : IsChain terms drawn es
  few : length es ≤ most_messages opening
  stops : StopsAt terms opening es tail rest end
  settled : IsSettled end

in_opening : (terms : Terms) (w : Completed) (c tail : Transcript) (rest : List ℕ) (end : ConnEnd) → c ≡ followed_by (transcript_in terms w) tail
    → (transcript_in terms w).acts ≡ [] → (transcript_in terms w).draws ≡ 0 → Reads terms w tail rest end → InOpening terms c rest end
in_opening terms w c tail rest end is acts draws (reads, none, zero_draws) =
    let P : Transcript → Type 0 = λ x. InOpening terms x rest end in
    subst P (sym is) (reads, ap (λ l. l ++ tail.acts) acts ∙ none, omega (arith, draws, zero_draws))

dialogue_splits : (terms : Terms) (drawn : ℕ) (c : Transcript) (rest : List ℕ) (end : ConnEnd) → Dialogue terms drawn c (Some rest) end → IsSettled end
    → InOpening terms c rest end ⊎ AfterOpening terms drawn c rest end
dialogue_splits terms drawn c rest end (nothing, tail, whole, is, ends) settled =
    inl (in_opening terms nothing c tail rest end is refl refl (nothing_reads terms drawn tail rest end ends settled))
dialogue_splits terms drawn c rest end (greeted, tail, whole, is, ends) settled =
    inl (in_opening terms greeted c tail rest end is refl refl (greeted_reads terms drawn tail rest end ends settled))
dialogue_splits terms drawn c rest end (opened opening es, tail, (legal, chain, few), is, ends) settled =
    let input : c.taken ++ rest ≡ opening_taken opening ++ (flat_map taken_by es ++ (tail.taken ++ rest)) =
    ap (λ (x : Transcript). x.taken ++ rest) is ∙ append_assoc (opening_taken opening ++ flat_map taken_by es) tail.taken rest
    ∙ append_assoc (opening_taken opening) (flat_map taken_by es) (tail.taken ++ rest) in
    inr (record {
      opening = opening;
      es = es;
      tail = tail;
      reads = ap (reading terms) input ∙ opening_passed terms opening (flat_map taken_by es ++ (tail.taken ++ rest)) legal;
      is = is;
      chain = chain;
      few = few;
      stops = opened_stops terms drawn opening es tail rest end ends settled;
      settled = settled;
    })

-- An exchange that follows doesn't stand where the dialogue ends.
follows_no_end : (terms : Terms) (opening : Opening) (es fs : List Exchange) (tail : Transcript) (rest b : List ℕ) (end : ConnEnd) (t u : List OutsideAnswer) → StopsAt terms opening es tail rest end → IsSettled end → length fs ≤ most_messages opening
    → Follows terms es fs (tail.taken ++ rest) b (tape tail.acts ++ t) u → ⊥
follows_no_end terms opening es fs tail rest b end t u stops settled few x =
    let long : length fs ≡ length es + length (x.one ∷ x.others) = ap (λ (l : List Exchange). length l) x.is ∙ length-append es (x.one ∷ x.others) in
    not_both terms opening es x.drawn tail rest end x.one (flat_map taken_by x.others ++ b) t (tape (flat_map acts_by x.others) ++ u) stops settled (omega (arith, few, long)) x.goes x.legal x.input x.ticking

-- what the outside handed in, in the exchanges and behind them
tape_after : (terms : Terms) (opening : Opening) (es : List Exchange) (c tail : Transcript) (t : List OutsideAnswer) → c ≡ followed_by (transcript_in terms (opened opening es)) tail → tape c.acts ++ t ≡ tape (flat_map acts_by es) ++ (tape tail.acts ++ t)
tape_after terms opening es c tail t is = ap (λ (x : Transcript). tape x.acts ++ t) is ∙ acts_tape (flat_map acts_by es) tail.acts t

abbrev OneEnd : ConnEnd → ConnEnd → Transcript → Transcript → List ℕ → List ℕ → Type 0
OneEnd end end2 c c2 rest rest2 = (end ≡ end2) × (c ≡ c2) × (rest ≡ rest2)

same_es : (terms : Terms) (opening : Opening) (es fs : List Exchange) (c c2 tail tail2 : Transcript) (rest rest2 : List ℕ) (end end2 : ConnEnd) (t u : List OutsideAnswer) → es ≡ fs
    → c ≡ followed_by (transcript_in terms (opened opening es)) tail → c2 ≡ followed_by (transcript_in terms (opened opening fs)) tail2
    → StopsAt terms opening es tail rest end → IsSettled end → StopsAt terms opening fs tail2 rest2 end2 → IsSettled end2
    → tail.taken ++ rest ≡ tail2.taken ++ rest2 → tape tail.acts ++ t ≡ tape tail2.acts ++ u → OneEnd end end2 c c2 rest rest2
same_es terms opening es fs c c2 tail tail2 rest rest2 end end2 t u same is is2 stops settled stops2 settled2 input ticking =
    let P : List Exchange → Type 0 = λ l. StopsAt terms opening l tail2 rest2 end2 in
    let one = ends_one terms opening es tail tail2 rest rest2 end end2 t u stops settled (subst P (sym same) stops2) settled2 input ticking in
    (one.0, is ∙ ap (λ (l : List Exchange). followed_by (transcript_in terms (opened opening l)) tail) same ∙ ap (followed_by (transcript_in terms (opened opening fs))) one.1 ∙ sym is2, one.2)

after_compared : (terms : Terms) (opening : Opening) (es fs : List Exchange) (c c2 tail tail2 : Transcript) (rest rest2 : List ℕ) (end end2 : ConnEnd) (t u : List OutsideAnswer)
    → length es ≤ most_messages opening → length fs ≤ most_messages opening
    → c ≡ followed_by (transcript_in terms (opened opening es)) tail → c2 ≡ followed_by (transcript_in terms (opened opening fs)) tail2
    → StopsAt terms opening es tail rest end → IsSettled end → StopsAt terms opening fs tail2 rest2 end2 → IsSettled end2
    → Compared terms es fs (tail.taken ++ rest) (tail2.taken ++ rest2) (tape tail.acts ++ t) (tape tail2.acts ++ u) → OneEnd end end2 c c2 rest rest2
after_compared terms opening es fs c c2 tail tail2 rest rest2 end end2 t u few few2 is is2 stops settled stops2 settled2 (inl x) =
    absurd (follows_no_end terms opening es fs tail rest (tail2.taken ++ rest2) end t (tape tail2.acts ++ u) stops settled few2 x)
after_compared terms opening es fs c c2 tail tail2 rest rest2 end end2 t u few few2 is is2 stops settled stops2 settled2 (inr (inl x)) =
    absurd (follows_no_end terms opening fs es tail2 rest2 (tail.taken ++ rest) end2 u (tape tail.acts ++ t) stops2 settled2 few x)
after_compared terms opening es fs c c2 tail tail2 rest rest2 end end2 t u few few2 is is2 stops settled stops2 settled2 (inr (inr (same, input, ticking))) =
    same_es terms opening es fs c c2 tail tail2 rest rest2 end end2 t u same is is2 stops settled stops2 settled2 input ticking

-- Two dialogues that end after the opening.
both_after : (terms : Terms) (drawn : ℕ) (c c2 : Transcript) (rest rest2 : List ℕ) (end end2 : ConnEnd) (t t2 : List OutsideAnswer)
    → AfterOpening terms drawn c rest end → AfterOpening terms drawn c2 rest2 end2 → c.taken ++ rest ≡ c2.taken ++ rest2 → tape c.acts ++ t ≡ tape c2.acts ++ t2
    → (end ≡ end2) × (c ≡ c2) × (rest ≡ rest2)
both_after terms drawn c c2 rest rest2 end end2 t t2 a b input ticking =
    let same : opens a.opening (flat_map taken_by a.es ++ (a.tail.taken ++ rest)) ≡ opens b.opening (flat_map taken_by b.es ++ (b.tail.taken ++ rest2)) = sym a.reads ∙ ap (reading terms) input ∙ b.reads in
    let openings : b.opening ≡ a.opening = cc in
    let inputs : flat_map taken_by a.es ++ (a.tail.taken ++ rest) ≡ flat_map taken_by b.es ++ (b.tail.taken ++ rest2) = cc in
    let handed : tape (flat_map acts_by a.es) ++ (tape a.tail.acts ++ t) ≡ tape (flat_map acts_by b.es) ++ (tape b.tail.acts ++ t2) =
    sym (tape_after terms a.opening a.es c a.tail t a.is) ∙ ticking ∙ tape_after terms b.opening b.es c2 b.tail t2 b.is in
    let P : Opening → Type 0 = λ o. StopsAt terms o b.es b.tail rest2 end2 in
    let Q : Opening → Type 0 = λ o. length b.es ≤ most_messages o in
    let R : Opening → Type 0 = λ o. c2 ≡ followed_by (transcript_in terms (opened o b.es)) b.tail in
    after_compared terms a.opening a.es b.es c c2 a.tail b.tail rest rest2 end end2 t t2 a.few (subst Q openings b.few) a.is (subst R openings b.is) a.stops a.settled (subst P openings b.stops) b.settled
    (compared a.es b.es terms drawn (a.tail.taken ++ rest) (b.tail.taken ++ rest2) (tape a.tail.acts ++ t) (tape b.tail.acts ++ t2) a.chain b.chain inputs handed)

-- Two dialogues that end in the opening.
both_in : (terms : Terms) (c c2 : Transcript) (rest rest2 : List ℕ) (end end2 : ConnEnd) → InOpening terms c rest end → InOpening terms c2 rest2 end2 → c.taken ++ rest ≡ c2.taken ++ rest2
    → (end ≡ end2) × (c ≡ c2) × (rest ≡ rest2)
both_in terms c c2 rest rest2 end end2 (reads, acts, draws) (reads2, acts2, draws2) input =
    let same : over end c.written rest ≡ over end2 c2.written rest2 = sym reads ∙ ap (reading terms) input ∙ reads2 in
    let rests : rest ≡ rest2 = cc in
    let written : c.written ≡ c2.written = cc in
    let taken : c.taken ≡ c2.taken = append_cancel_right c.taken c2.taken rest2 (ap (λ xs. c.taken ++ xs) (sym rests) ∙ input) in
    ((cc), course_same c.taken c2.taken c.acts c2.acts c.draws c2.draws c.written c2.written taken (acts ∙ sym acts2) (draws ∙ sym draws2) written, rests)

not_in : (terms : Terms) (drawn : ℕ) (c c2 : Transcript) (rest rest2 : List ℕ) (end end2 : ConnEnd) → InOpening terms c rest end → AfterOpening terms drawn c2 rest2 end2 → c.taken ++ rest ≡ c2.taken ++ rest2 → ⊥
not_in terms drawn c c2 rest rest2 end end2 (reads, quiet, none) b input =
    let same : over end c.written rest ≡ opens b.opening (flat_map taken_by b.es ++ (b.tail.taken ++ rest2)) = sym reads ∙ ap (reading terms) input ∙ b.reads in cc

-- An input and the answers of the outside have one settled dialogue.
pub one_dialogue : (terms : Terms) (drawn : ℕ) (c c2 : Transcript) (rest rest2 : List ℕ) (end end2 : ConnEnd) (t t2 : List OutsideAnswer)
    → Dialogue terms drawn c (Some rest) end → IsSettled end → Dialogue terms drawn c2 (Some rest2) end2 → IsSettled end2
    → c.taken ++ rest ≡ c2.taken ++ rest2 → tape c.acts ++ t ≡ tape c2.acts ++ t2
    → (end ≡ end2) × (c ≡ c2) × (rest ≡ rest2)
one_dialogue terms drawn c c2 rest rest2 end end2 t t2 first settled second settled2 input ticking =
    elim (dialogue_splits terms drawn c rest end first settled) [
      | inl a ↦ elim (dialogue_splits terms drawn c2 rest2 end2 second settled2) [
        | inl b ↦ both_in terms c c2 rest rest2 end end2 a b input
        | inr b ↦ absurd (not_in terms drawn c c2 rest rest2 end end2 a b input)
      ]
      | inr a ↦ elim (dialogue_splits terms drawn c2 rest2 end2 second settled2) [
        | inl b ↦ absurd (not_in terms drawn c2 c rest2 rest end2 end b a (sym input))
        | inr b ↦ both_after terms drawn c c2 rest rest2 end end2 t t2 a b input ticking
      ]
    ]

-- What was taken is a front of what was told.
pub front_told : (input taken : List ℕ) (left : Option (List ℕ)) → Some input ≡ with_front taken left → (rest : List ℕ) × (left ≡ Some rest) × (input ≡ taken ++ rest)
front_told input taken None same = cc
front_told input taken (Some rest) same = (rest, refl, (cc))

-- A connection that ended in a dialogue went as each settled dialogue of its input says.
talks_settle : (may : Invocation → Outcome → Type 0) (moves : States → WorkerCall → States → Type 0) (terms : Terms) (start now : ConnectionState) (c : Transcript) (result : ConnEnd)
    → IsConversation may moves terms start now c result → Settles terms start now c result
unfolding Settles
talks_settle may moves terms start now c result talks other rest end t t2 told first settled settled2 ticking =
    let (rest2, is, whole) = front_told (other.taken ++ rest) c.taken now.wires.left (sym told ∙ talks.goes.left) in
    let P : Option (List ℕ) → Type 0 = λ l. Dialogue terms start.drawn c l result in
    let mine : Dialogue terms start.drawn c (Some rest2) result = subst P is talks.dialogue in
    let one = one_dialogue terms start.drawn c other rest2 rest result end t t2 mine settled2 first settled (sym whole) ticking in
    (one.0, one.1, is ∙ ap Some one.2)

-- A connection that ended in a dialogue was served.
pub talked_served : (may : Invocation → Outcome → Type 0) (moves : States → WorkerCall → States → Type 0) (terms : Terms) (start now : ConnectionState) (result : ConnEnd)
    → Talked may moves terms start now result → IsServedFrom may moves terms start now result
talked_served may moves terms start now result (c, talks) = record { transcript = c; talks = talks; settles = talks_settle may moves terms start now c result talks }
