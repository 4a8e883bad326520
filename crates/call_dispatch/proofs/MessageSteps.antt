-- The messages of a dialogue, over plain lists.
use Rattle.std.proofs.Common.{◌≡◌, ℕ, ◌+◌, ◌<◌, ◌≤◌, max, List, [], ◌∷◌, length, take, Option, Result, Ok, Err, IfOk, refl, sym, ap, ◌∙◌, inr, arith}
use Rattle.wire_io.specs.Wire.{with_front-nothing, with_front}
use Rattle.wire_io.specs.Pulled.{PullState}
use Rattle.jrmp_frames.specs.declared.header.Protocol.TheVariants.{Stream, SingleOp}
use Rattle.jrmp_frames.specs.Gives.{GivesCode}
use Rattle.jrmp_frames.specs.declared.fault.FrameFault.{FrameFault}
use Rattle.jrmp_frames.specs.declared.fault.FrameFault.TheVariants.{BadHeader, UnknownProtocol, BadMessage, BadKind}
use Rattle.jrmp_frames.specs.declared.fault.FrameFault.TheVariants as frames
use Rattle.call_dispatch.specs.declared.outcome.Invocation.{Invocation}
use Rattle.call_dispatch.specs.declared.outcome.Outcome.{Outcome}
use Rattle.call_dispatch.specs.declared.end.ConnEnd.{ConnEnd}
use Rattle.call_dispatch.specs.declared.end.ConnEnd.TheVariants as ends
use Rattle.system_objects.specs.Terms.{Terms}
use Rattle.call_dispatch.specs.Acts.{Call, States, Observed}
use Rattle.call_dispatch.specs.ConnectionState.{ConnectionState}
use Rattle.call_dispatch.specs.Rows.{Exchange, ping, taken_by, written_by, transcript_by, IsOpen, StaysOpen}
use Rattle.call_dispatch.specs.Dialogue.{Opening, stream, single_op, protocol_of, most_messages, Completed, opened, IsAtCode}
use Rattle.call_dispatch.specs.Progress.{StandsWhole, Talked, StepsTo, Writes, end_from}
use Rattle.call_dispatch.proofs.Going.{goes_exchanged}
use Rattle.call_dispatch.proofs.Steps.{spot_at, talks_took, talks_in, talks_cut, stands_more}
use Rattle.call_dispatch.specs.declared.messages.TheConstants.{MAX_MESSAGES, MAX_BYTES}
use Rattle.ser_values.specs.declared.limits.TheConstants.{MESSAGE_BYTES}
use Rattle.system_objects.specs.declared.returns.TheConstants.{RETURN_BYTES}

-- The connection ends in a code's place.
pub code_ends : (may : Invocation → Outcome → Type 0) (moves : States → Call → States → Type 0) (terms : Terms) (start : ConnectionState) (old new : PullState) (held : Option (List ℕ)) (side : Observed) (drawn sent : ℕ) (w : Completed) (fault : FrameFault)
    → StandsWhole may moves terms start (spot_at old held side drawn) old.at sent w → IsAtCode w → old.at < old.stop → GivesCode old new (Err fault)
    → Talked may moves terms start (spot_at new held side drawn) (end_from fault)
code_ends may moves terms start old new held side drawn sent w (BadHeader at) stands code room h = absurd h
code_ends may moves terms start old new held side drawn sent w (UnknownProtocol byte) stands code room h = absurd h
code_ends may moves terms start old new held side drawn sent w (BadMessage byte at) stands code room h =
    talks_took may moves terms start _ _ old.at sent w (byte ∷ []) (ends.BadMessage byte at) stands h.2.left refl refl refl
    (code, h.1, h.0 ∙ stands.position, refl)
code_ends may moves terms start old new held side drawn sent w (BadKind byte at) stands code room h = absurd h
code_ends may moves terms start old new held side drawn sent w (frames.Stream fault) stands code room (more, h) =
    talks_in may moves terms start old new held side drawn sent w (λ part. part ≡ []) fault stands h
    (λ part inside. omega (arith, ap length inside, room)) (λ part inside. (λ at is. absurd (more at is), inr (code, inside)))

-- Below the limit a further message may follow.
pub limit_left : (opening : Opening) (exchanges : List Exchange) → IsAtCode (opened opening exchanges) → length exchanges < MAX_MESSAGES → length exchanges < most_messages opening
limit_left (stream endpoint) exchanges code few = few
limit_left single_op [] code few = omega arith
limit_left single_op (e ∷ exchanges) code few = absurd code

-- A Ping was read and its answer written, or cut.
pub ping_steps : (may : Invocation → Outcome → Type 0) (moves : States → Call → States → Type 0) (terms : Terms) (start before now : ConnectionState) (at sent at2 : ℕ) (opening : Opening) (exchanges : List Exchange) (result : Result ℕ ConnEnd)
    → StandsWhole may moves terms start before at sent (opened opening exchanges) → IsAtCode (opened opening exchanges) → length exchanges < MAX_MESSAGES
    → before.wires.left ≡ with_front (taken_by ping) now.wires.left → now.side ≡ before.side → now.drawn ≡ before.drawn
    → at2 ≡ at + length (taken_by ping) → Writes before.wires.held now.wires.held sent (written_by ping) result
    → StepsTo may moves terms start now at2 opening exchanges result
ping_steps may moves terms start before now at sent at2 opening exchanges (Ok sent2) stands code room taken side drawn ats writes = (
  ping,
  refl,
  stands_more may moves terms start before now at sent at2 sent2 opening exchanges ping stands code (limit_left opening exchanges code room) tt
      (goes_exchanged may moves before now (taken_by ping) (written_by ping) taken writes.0 side drawn) ats writes.1,
)
ping_steps may moves terms start before now at sent at2 opening exchanges (Err end) stands code room taken side drawn ats (part, less, is, written) =
    rw is (talks_cut may moves terms start before now at sent part (opened opening exchanges) (transcript_by ping) stands (inr (inr (ping, (code, room, tt), refl))) less
    (goes_exchanged may moves before now (taken_by ping) (take part (written_by ping)) taken written side drawn))

-- Single-op's one message was served.
pub one_served : (may : Invocation → Outcome → Type 0) (moves : States → Call → States → Type 0) (terms : Terms) (start now : ConnectionState) (at sent : ℕ) (opening : Opening) (e : Exchange) → protocol_of opening ≡ SingleOp → IsOpen e
    → StandsWhole may moves terms start now at sent (opened opening (e ∷ [])) → Talked may moves terms start now ends.Ended
one_served may moves terms start now at sent (stream endpoint) e is goes stands = absurd (cc)
one_served may moves terms start now at sent single_op e is goes stands =
    talks_took may moves terms start now now at sent (opened single_op (e ∷ [])) [] ends.Ended stands (sym (with_front-nothing now.wires.left)) refl refl refl (inr goes, refl)

-- Before the first message its code is to come.
pub opened_at_code : (opening : Opening) → IsAtCode (opened opening [])
opened_at_code (stream endpoint) = refl
opened_at_code single_op = tt

-- In the stream protocol a code is to come after each message that leaves the connection open.
pub stream_at_code : (opening : Opening) (exchanges : List Exchange) → protocol_of opening ≡ Stream → StaysOpen exchanges → IsAtCode (opened opening exchanges)
stream_at_code (stream endpoint) exchanges is goes = goes
stream_at_code single_op exchanges is goes = absurd (cc)

-- How many bytes were sent, and where a message ends.
pub most_of : (result : Result ℕ ConnEnd) (x a b : ℕ) → a ≤ b → IfOk result (λ after. after ≤ x) → IfOk result (λ after. (after ≤ x) × (a ≤ b))
most_of (Ok after) x a b le h = (h, le)
most_of (Err end) x a b le h = tt

-- A Call behind few bytes.
pub most_of_call : (result : Result ℕ ConnEnd) (sent first mid stop now : ℕ) → stop ≤ first + MESSAGE_BYTES → first ≤ mid → IfOk result (λ after. (after ≤ sent + RETURN_BYTES) × (now ≤ stop))
    → IfOk result (λ after. (sent ≤ MAX_BYTES) × (mid ≤ MAX_BYTES))
    → IfOk result (λ after. (after ≤ max (sent + 1) (MAX_BYTES + RETURN_BYTES)) × (now ≤ max (first + 15) (MAX_BYTES + MESSAGE_BYTES)))
most_of_call (Ok after) sent first mid stop now le low h early = (omega (arith, h.0, early.0), omega (arith, h.1, le, low, early.1))
most_of_call (Err end) sent first mid stop now le low h early = tt
