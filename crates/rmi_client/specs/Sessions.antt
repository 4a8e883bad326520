-- What the calls of a session do on its link: the bytes that they send, and the reply that they read (Java RMI Specification, 10.2 and 10.3).
use Rattle.std.specs.Prelude.{◌≡◌, ◌⊎◌, ◌<◌, ◌≤◌, ℕ, pos, List, [], ◌∷◌, ◌++◌, length, take, Option, Result, Ok, Err}
use Rattle.wire_io.specs.Wire.{ReadHalf, WriteHalf, with_end, Rose}
use Rattle.wire_io.specs.Pulled.{PullState}
use Rattle.object_ids.specs.declared.ids.Uid.{Uid}
use Rattle.class_desc.specs.declared.field.TypeCode.{TypeCode}
use Rattle.class_desc.specs.declared.slot.Item.{Item}
use Rattle.stream_grammar.specs.Spelled.{joined}
use Rattle.ser_values.specs.declared.graph.Graph.{Graph}
use Rattle.ser_read.specs.SpelledWants.{Fits}
use Rattle.jrmp_frames.specs.declared.code.Code.TheVariants.{Ping}
use Rattle.jrmp_frames.specs.declared.header.Protocol.TheVariants.{Stream}
use Rattle.jrmp_frames.specs.declared.head.CallHead.{CallHead}
use Rattle.jrmp_frames.specs.Frames.{code_byte, dgc_ack, endpoint, header}
use Rattle.jrmp_frames.specs.Messages.{CallBytes, args_of, call_message, wants_of}
use Rattle.rmi_client.specs.Replies.{reading, HearsAck, HearsAnswer}
use Rattle.rmi_client.specs.declared.end.ClientEnd.{ClientEnd}
use Rattle.rmi_client.specs.declared.end.ClientEnd.TheVariants as ends
use Rattle.rmi_client.specs.declared.reply.Answer.{Answer}
use Rattle.rmi_client.specs.declared.session.Session.{Session}

-- ---- a session's link

-- its two halves, and how many bytes were read
pub record LinkState : Type 0 where
  pub read : ReadHalf
  pub write : WriteHalf
  pub at : ℕ

-- a link by its two halves and how many bytes were read
abbrev pub link_at : ReadHalf → WriteHalf → ℕ → LinkState
link_at read write at = record { read = read; write = write; at = at }

-- the link of a session, by what its source and its sink show
abbrev pub link_of : {S K : Type 0} → (S → ReadHalf) → (K → WriteHalf) → Session S K → LinkState
link_of read write session = link_at (read session.source) (write session.sink) session.at

-- ---- what is sent

-- These bytes were written, and nothing else happened to the half.
pub record Sends (old new : WriteHalf) (bytes : List ℕ) : Type 0 where
  pub held : new.held ≡ with_end old.held bytes
  pub faults : old.faults ≤ new.faults
  pub shut : new.shut ≡ old.shut

-- Writing failed after exactly the first n of these bytes, and not all.
pub record SendsFront (old new : WriteHalf) (n : ℕ) (bytes : List ℕ) : Type 0 where
  pub few : n < length bytes
  pub sends : Sends old new (take n bytes)
  pub rose : Rose old.faults new.faults

-- Nothing was read.
abbrev pub ReadsNothing : LinkState → LinkState → Type 0
ReadsNothing old new = (new.read ≡ old.read) × (new.at ≡ old.at)

-- The bytes of a message went out, and this holds of the place from which its reply is read and of the place behind it.
abbrev pub Exchanges : {A : Type 0} → (List ℕ → Type 0) → (PullState → PullState → Result A ClientEnd → Type 0) → LinkState → LinkState → Result A ClientEnd → Type 0
Exchanges IsMessage Hears old new result = (bytes : List ℕ) × IsMessage bytes × Sends old.write new.write bytes
    × Hears (reading old.read old.at old.at) (reading new.read old.at new.at) result

-- A front of a message went out, and nothing was read.
abbrev pub IsCut : (List ℕ → Type 0) → LinkState → LinkState → ℕ → Type 0
IsCut IsMessage old new n = (bytes : List ℕ) × IsMessage bytes × SendsFront old.write new.write n bytes × ReadsNothing old new

-- What a call did that sends one message and reads its reply: both; or writing failed; or there was no memory, and nothing was sent, or all.
abbrev pub Asks : {A : Type 0} → (List ℕ → Type 0) → (PullState → PullState → Result A ClientEnd → Type 0) → LinkState → LinkState → Result A ClientEnd → Type 0
Asks IsMessage Hears old new (Err ends.Over) = ⊥
Asks IsMessage Hears old new (Err (ends.WriteFault n)) = IsCut IsMessage old new n
Asks IsMessage Hears old new (Err ends.OutOfMemory) = (new ≡ old) ⊎ Exchanges IsMessage Hears old new (Err ends.OutOfMemory)
Asks IsMessage Hears old new result = Exchanges IsMessage Hears old new result

-- What was read where a call with this type of result was answered so.
abbrev pub HearsReturnOf : Option TypeCode → PullState → PullState → Result Answer ClientEnd → Type 0
HearsReturnOf want old new result = HearsAnswer old new want result

-- What a call did that sends one message, which has no reply: it went out whole, or writing failed.
abbrev pub Tells : {A : Type 0} → (List ℕ → Type 0) → LinkState → LinkState → Result A ClientEnd → Type 0
Tells IsMessage old new (Ok _) = (bytes : List ℕ) × IsMessage bytes × Sends old.write new.write bytes × ReadsNothing old new
Tells IsMessage old new (Err (ends.WriteFault n)) = IsCut IsMessage old new n
Tells IsMessage old new (Err _) = ⊥

-- ---- messages

abbrev pub IsPing : List ℕ → Type 0
IsPing bytes = bytes ≡ code_byte Ping ∷ []

abbrev pub IsDgcAck : Uid → List ℕ → Type 0
IsDgcAck uid bytes = bytes ≡ dgc_ack uid

-- The bytes are the call with this head whose arguments are the items of this graph: one for every method whose parameters the items fit.
pub record IsCall (head : CallHead) (graph : Graph) (bytes : List ℕ) : Type 0 where
  pub is : bytes ≡ call_message head graph
  pub spelled : (params : List TypeCode) (answers : List Item) → Fits (wants_of params) answers → graph.items ≡ joined answers
      → ∥ CallBytes head params (record { graph = graph; values = args_of params answers }) bytes ∥₁

-- ---- the beginning

-- The header of the stream protocol.
abbrev pub IsHeader : List ℕ → Type 0
IsHeader bytes = bytes ≡ header Stream

-- The acknowledgement was read.
abbrev pub HearsAcked : LinkState → LinkState → Type 0
HearsAcked old new = HearsAck {A = Unit {0}} (reading old.read old.at old.at) (reading new.read old.at new.at) (Ok tt)

-- What a call did that begins a session and tells these bytes of the client: the header went out, the acknowledgement was read, and then the bytes went
-- out; or writing any of that failed; or the header was not acknowledged; or there was no memory, and nothing was done.
abbrev pub BeginsWith : {A : Type 0} → List ℕ → LinkState → LinkState → Result A ClientEnd → Type 0
BeginsWith own old new (Ok _) = Sends old.write new.write (header Stream ++ own) × HearsAcked old new
BeginsWith own old new (Err ends.Over) = ⊥
BeginsWith own old new (Err ends.OutOfMemory) = new ≡ old
BeginsWith own old new (Err (ends.WriteFault n)) = SendsFront old.write new.write n (header Stream ++ own)
    × (n < length (header Stream) → ReadsNothing old new) × (length (header Stream) ≤ n → HearsAcked old new)
BeginsWith own old new (Err end) = Exchanges {A = Unit {0}} IsHeader HearsAck old new (Err end)

-- The same of a client at this host, which tells no port.
abbrev pub Begins : {A : Type 0} → List ℕ → LinkState → LinkState → Result A ClientEnd → Type 0
Begins host old new result = BeginsWith (endpoint host (pos 0)) old new result
