-- How far a connection has come, for the functions that serve it step by step.
use Rattle.std.specs.Prelude.{◌≡◌, ℕ, ◌+◌, ◌<◌, ◌^◌, List, [], ◌∷◌, ◌++◌, length, take, Option, Some, Result, Ok, Err}
use Rattle.wire_io.specs.Wire.{with_front, with_end}
use Rattle.ser_read.specs.declared.fault.StreamFault.TheVariants as faults
use Rattle.jrmp_frames.specs.declared.fault.FrameFault.{FrameFault}
use Rattle.jrmp_frames.specs.declared.fault.FrameFault.TheVariants.{BadHeader, UnknownProtocol, BadMessage, BadKind, Stream}
use Rattle.jrmp_frames.specs.declared.header.Protocol.{Protocol}
use Rattle.jrmp_frames.specs.declared.header.Protocol.TheVariants as protocols
use Rattle.jrmp_frames.specs.declared.code.Code.TheVariants as codes
use Rattle.jrmp_frames.specs.Frames.{header, protocol_not_supported, code_byte}
use Rattle.call_dispatch.specs.declared.opening.Opened.{Opened}
use Rattle.call_dispatch.specs.declared.outcome.Invocation.{Invocation}
use Rattle.call_dispatch.specs.declared.outcome.Outcome.{Outcome}
use Rattle.call_dispatch.specs.declared.end.ConnEnd.{ConnEnd}
use Rattle.call_dispatch.specs.declared.end.ConnEnd.TheVariants as ends
use Rattle.call_dispatch.specs.End.{IsSettled}
use Rattle.system_objects.specs.Terms.{Terms}
use Rattle.call_dispatch.specs.Acts.{Call, States}
use Rattle.call_dispatch.specs.ConnectionState.{ConnectionState, Transcript, bytes_taken, LeadsFrom}
use Rattle.ser_values.specs.declared.limits.TheConstants.{MESSAGE_BYTES}
use Rattle.call_dispatch.specs.Rows.{Exchange, IsOpen}
use Rattle.call_dispatch.specs.Dialogue.{Opening, protocol_of, Completed, opened, IsCompleted, taken_in, written_in, transcript_in, IsAtCode, Dialogue}
use Rattle.call_dispatch.specs.Tape.{OutsideAnswer, tape}
use Rattle.call_dispatch.specs.declared.messages.TheConstants.{MAX_MESSAGES}

-- The connection began at `start` and ended, and this transcript since is a dialogue.
pub record IsConversation (may : Invocation → Outcome → Type 0) (moves : States → Call → States → Type 0) (terms : Terms) (start now : ConnectionState) (c : Transcript) (end : ConnEnd) : Type 0 where
  pub goes : LeadsFrom may moves start now c
  pub dialogue : Dialogue terms start.drawn c now.wires.left end

-- Where a settled dialogue stands for the input that was told, and the outside's answers in it begin as those that it gave here do, as far
-- as both go, the connection went so, unless something outside failed.
unfoldable pub Settles : Terms → ConnectionState → ConnectionState → Transcript → ConnEnd → Type 0
Settles terms start now c result = (other : Transcript) (rest : List ℕ) (end : ConnEnd) (t t2 : List OutsideAnswer)
    → start.wires.left ≡ Some (other.taken ++ rest) → Dialogue terms start.drawn other (Some rest) end → IsSettled end → IsSettled result
    → tape c.acts ++ t ≡ tape other.acts ++ t2
    → (result ≡ end) × (c ≡ other) × (now.wires.left ≡ Some rest)

-- The connection began at `start` and ended: what it took, did, drew and wrote since is a dialogue, and the one of its input and of
-- what the outside answered.
pub record IsServedFrom (may : Invocation → Outcome → Type 0) (moves : States → Call → States → Type 0) (terms : Terms) (start now : ConnectionState) (end : ConnEnd) : Type 0 where
  pub transcript : Transcript
  pub talks : IsConversation may moves terms start now transcript end
  pub settles : Settles terms start now transcript end

-- The connection began at `start` and ended in a dialogue.
abbrev pub Talked : (Invocation → Outcome → Type 0) → (States → Call → States → Type 0) → Terms → ConnectionState → ConnectionState → ConnEnd → Type 0
Talked may moves terms start now end = (c : Transcript) × IsConversation may moves terms start now c end

-- The connection began at `start`, and now w stands whole: `at` bytes were taken and `sent` bytes written.
pub record StandsWhole (may : Invocation → Outcome → Type 0) (moves : States → Call → States → Type 0) (terms : Terms) (start now : ConnectionState) (at sent : ℕ) (w : Completed) : Type 0 where
  pub whole : IsCompleted terms start.drawn w
  pub goes : LeadsFrom may moves start now (transcript_in terms w)
  pub position : at ≡ length (taken_in w)
  pub count : sent ≡ length (written_in terms w)

-- An opening stands whole, as it is told; or the connection ended in it.
abbrev pub StandsOpened : (Invocation → Outcome → Type 0) → (States → Call → States → Type 0) → Terms → ConnectionState → ConnectionState → ℕ → Result Opened ConnEnd → Type 0
StandsOpened may moves terms start now at (Ok told) = (opening : Opening) × (protocol_of opening ≡ told.protocol) × (at < 2 ^ 17) × (told.sent < 2 ^ 17)
    × StandsWhole may moves terms start now at told.sent (opened opening [])
StandsOpened may moves terms start now at (Err end) = Talked may moves terms start now end

-- Wherever the header of the stream protocol was just taken, an opening comes to stand whole, or the connection ends in it.
abbrev pub OpensStream : (Invocation → Outcome → Type 0) → (States → Call → States → Type 0) → Terms → ConnectionState → ConnectionState → ℕ → Result Opened ConnEnd → Type 0
OpensStream may moves terms before now at result = (start : ConnectionState) → LeadsFrom may moves start before (bytes_taken (header protocols.Stream)) → StandsOpened may moves terms start now at result

-- What refusing the protocol with this byte does: the client is told, or that one byte can't be written.
abbrev pub Refuses : ℕ → Option (List ℕ) → Option (List ℕ) → ConnEnd → Type 0
Refuses byte before after (ends.UnknownProtocol b) = (b ≡ byte) × (after ≡ with_end before protocol_not_supported)
Refuses byte before after (ends.WriteFault sent) = (sent ≡ 0) × (after ≡ before)
Refuses byte before after _ = ⊥

-- Wherever the connection began, its dialogue goes on from an opening of this protocol to the end.
abbrev pub FinishesDialogue : (Invocation → Outcome → Type 0) → (States → Call → States → Type 0) → Terms → Protocol → ConnectionState → ConnectionState → ℕ → ℕ → ConnEnd → Type 0
FinishesDialogue may moves terms protocol before now at sent end = (start : ConnectionState) (opening : Opening) → protocol_of opening ≡ protocol
    → StandsWhole may moves terms start before at sent (opened opening []) → Talked may moves terms start now end

-- A further exchange stands, after which the connection goes on; or the connection ended.
abbrev pub StepsTo : (Invocation → Outcome → Type 0) → (States → Call → States → Type 0) → Terms → ConnectionState → ConnectionState → ℕ → Opening → List Exchange → Result ℕ ConnEnd → Type 0
StepsTo may moves terms start now at opening exchanges (Ok sent) =
    (e : Exchange) × IsOpen e × StandsWhole may moves terms start now at sent (opened opening (exchanges ++ e ∷ []))
StepsTo may moves terms start now at opening exchanges (Err end) = Talked may moves terms start now end

-- Wherever the connection began and so many exchanges stand, one more exchange comes to stand, or the dialogue ends.
abbrev pub Steps : (Invocation → Outcome → Type 0) → (States → Call → States → Type 0) → Terms → ConnectionState → ConnectionState → ℕ → ℕ → ℕ → ℕ → Result ℕ ConnEnd → Type 0
Steps may moves terms before now at sent served end_at result = (start : ConnectionState) (opening : Opening) (exchanges : List Exchange)
    → length exchanges ≡ served → IsAtCode (opened opening exchanges) → StandsWhole may moves terms start before at sent (opened opening exchanges)
    → StepsTo may moves terms start now end_at opening exchanges result

-- A Call's code was taken, and nothing of the Call else: the connection stands behind `first`, where its exchanges before stand, at this
-- position and with this limit of the message.
pub record IsCoded (may : Invocation → Outcome → Type 0) (moves : States → Call → States → Type 0) (terms : Terms) (start first before : ConnectionState) (at stop sent : ℕ) (opening : Opening) (exchanges : List Exchange) : Type 0 where
  pub few : length exchanges < MAX_MESSAGES
  pub code : IsAtCode (opened opening exchanges)
  pub place : ℕ
  pub stands : StandsWhole may moves terms start first place sent (opened opening exchanges)
  pub left : first.wires.left ≡ with_front (code_byte codes.Call ∷ []) before.wires.left
  pub held : before.wires.held ≡ first.wires.held
  pub side : before.side ≡ first.side
  pub drawn : before.drawn ≡ first.drawn
  pub position : at ≡ place + 1
  pub limit : stop ≡ place + MESSAGE_BYTES

-- Wherever the connection began and a Call's code was just taken, its exchange comes to stand, or the dialogue ends.
abbrev pub ServesCall : (Invocation → Outcome → Type 0) → (States → Call → States → Type 0) → Terms → ConnectionState → ConnectionState → ℕ → ℕ → ℕ → ℕ → Result ℕ ConnEnd → Type 0
ServesCall may moves terms before now at stop sent end_at result = (start first : ConnectionState) (opening : Opening) (exchanges : List Exchange)
    → IsCoded may moves terms start first before at stop sent opening exchanges → StepsTo may moves terms start now end_at opening exchanges result

-- What writing an answer after `sent` bytes does: it is written whole, or some front of it, and then the sink fails.
abbrev pub Writes : Option (List ℕ) → Option (List ℕ) → ℕ → List ℕ → Result ℕ ConnEnd → Type 0
Writes before after sent answer (Ok sent_after) = (after ≡ with_end before answer) × (sent_after ≡ sent + length answer)
Writes before after sent answer (Err end) = (part : ℕ) × (part < length answer) × (end ≡ ends.WriteFault (sent + part)) × (after ≡ with_end before (take part answer))

-- the end that a fault in reading makes; a server reads no kind of a return
abbrev pub end_from : FrameFault → ConnEnd
end_from (BadHeader at) = ends.BadHeader at
end_from (UnknownProtocol byte) = ends.UnknownProtocol byte
end_from (BadMessage byte at) = ends.BadMessage byte at
end_from (BadKind byte at) = ends.BadMessage byte at
end_from (Stream (faults.Bad kind at)) = ends.BadStream kind at
end_from (Stream (faults.TooLarge what at)) = ends.TooLarge what at
end_from (Stream (faults.Truncated at)) = ends.Truncated at
end_from (Stream faults.ReadFault) = ends.ReadFault
end_from (Stream faults.OutOfMemory) = ends.OutOfMemory
