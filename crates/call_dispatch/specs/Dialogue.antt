-- The dialogue of one connection, by this grammar (Java RMI Specification, 10.2). Before '/' stands what the client sends, behind it the answer:
--   Dialogue = Opening Exchange .. Exchange End
--   Opening  = JRMI 0002 4B / ProtocolAck, and then Endpoint / nothing; or JRMI 0002 4C / nothing, with at most one exchange
--   Exchange = Ping / PingAck; or DgcAck / nothing; or Call / Return
--   End      = the input's end; a refused or cut Opening; a byte that begins no message; a cut Exchange; a Return that closes; one message too many
-- It is a relation between whole lists: the bytes taken, what was done, the bytes that the source has left then, the bytes written and the end.
use Rattle.std.specs.Prelude.{◌≡◌, true, false, ℕ, ◌+◌, ◌<◌, ◌≤◌, ◌⊎◌, List, [], ◌∷◌, ◌++◌, length, take, slice_get, Option, Some, Ok}
use Rattle.std.specs.List.{flat_map}
use Rattle.wire_io.specs.Wire.{NothingLeft}
use Rattle.jrmp_frames.specs.declared.header.Protocol.{Protocol}
use Rattle.jrmp_frames.specs.declared.header.Protocol.TheVariants.{Stream, SingleOp}
use Rattle.jrmp_frames.specs.declared.code.Code.TheVariants.{Call}
use Rattle.jrmp_frames.specs.Frames.{header_start, header, IsNoProtocol, IsInHeader, BreaksHeader, IsEndpoint, IsInEndpoint, IsInAck, protocol_ack, protocol_not_supported, code_byte, IsCode}
use Rattle.call_dispatch.specs.declared.end.ConnEnd.{ConnEnd}
use Rattle.call_dispatch.specs.declared.end.ConnEnd.TheVariants.{Ended, BadHeader, UnknownProtocol, BadMessage, BadStream, TooLarge, Truncated, NoSuchObject, NoSuchMethod, SpaceFull, MessageLimit, ReadFault, WriteFault, OutOfMemory}
use Rattle.history.specs.declared.asks.Ask.TheVariants.{Begin}
use Rattle.history.specs.declared.replies.Reply.TheVariants.{Started}
use Rattle.history.specs.declared.replies.Turn.{Turn}
use Rattle.method_hash.specs.declared.method.Method.{Method}
use Rattle.ser_read.specs.Wants.{serve_to_close}
use Rattle.ser_read.specs.Heading.{inside_block}
use Rattle.jrmp_frames.specs.declared.head.CallHead.{CallHead}
use Rattle.jrmp_frames.specs.Messages.{head_bytes, wants_of}
use Rattle.jrmp_frames.specs.Calls.{head_at}
use Rattle.system_objects.specs.declared.book.Kind.{Kind}
use Rattle.system_objects.specs.Book.{methods_of}
use Rattle.call_dispatch.specs.Acts.{acts_of, abandon_act}
use Rattle.call_dispatch.specs.Inside.{BreaksAt}
use Rattle.call_dispatch.specs.Served.{EndsWithHead, FitsHead, IsMethodOf}
use Rattle.system_ids.specs.SystemIds.{is_system}
use Rattle.system_objects.specs.MethodByHead.{system_method}
use Rattle.system_ids.specs.SystemMethods.{params_of}
use Rattle.system_ids.specs.declared.methods.SystemMethod.{SystemMethod}
use Rattle.system_objects.specs.Terms.{Terms}
use Rattle.call_dispatch.specs.ConnectionState.{Transcript, bytes_exchanged, bytes_taken, followed_by}
use Rattle.ser_values.specs.declared.limits.TheConstants.{MESSAGE_BYTES}
use Rattle.call_dispatch.specs.Rows.{Exchange, taken_by, acts_by, draws_by, written_by, draws_in, transcript_by, IsExchange, closed_by, StaysOpen, IsChain, IsCut}
use Rattle.call_dispatch.specs.declared.messages.TheConstants.{MAX_MESSAGES}

-- an opening: what stands before the first message. The stream protocol's has the client's endpoint.
pub data Opening : Type 0 where
  stream : (endpoint : List ℕ) → Opening
  single_op : Opening

abbrev pub IsOpening : Opening → Type 0
IsOpening (stream endpoint) = IsEndpoint endpoint
IsOpening single_op = Unit {0}

abbrev pub protocol_of : Opening → Protocol
protocol_of (stream endpoint) = Stream
protocol_of single_op = SingleOp

-- the bytes that it takes
abbrev pub opening_taken : Opening → List ℕ
opening_taken (stream endpoint) = header Stream ++ endpoint
opening_taken single_op = header SingleOp

-- the bytes that answer it
abbrev pub opening_written : Terms → Opening → List ℕ
opening_written terms (stream endpoint) = protocol_ack terms.peer_host terms.peer_port
opening_written terms single_op = []

-- how many messages may follow it
abbrev pub most_messages : Opening → ℕ
most_messages (stream endpoint) = MAX_MESSAGES
most_messages single_op = 1

-- what of a dialogue stands whole: nothing yet; the stream protocol's header and its acknowledgement; or an opening and
-- the exchanges after it
pub data Completed : Type 0 where
  nothing : Completed
  greeted : Completed
  opened : (opening : Opening) (exchanges : List Exchange) → Completed

-- It stands so where so many identifiers were drawn before the connection.
abbrev pub IsCompleted : Terms → ℕ → Completed → Type 0
IsCompleted terms drawn nothing = Unit {0}
IsCompleted terms drawn greeted = Unit {0}
IsCompleted terms drawn (opened opening exchanges) =
    IsOpening opening × IsChain terms drawn exchanges × (length exchanges ≤ most_messages opening)

-- the bytes that it takes
abbrev pub taken_in : Completed → List ℕ
taken_in nothing = []
taken_in greeted = header Stream
taken_in (opened opening exchanges) = opening_taken opening ++ flat_map taken_by exchanges

-- the bytes that are written
abbrev pub written_in : Terms → Completed → List ℕ
written_in terms nothing = []
written_in terms greeted = protocol_ack terms.peer_host terms.peer_port
written_in terms (opened opening exchanges) = opening_written terms opening ++ flat_map written_by exchanges

-- the exchanges
abbrev pub exchanges_in : Completed → List Exchange
exchanges_in (opened opening exchanges) = exchanges
exchanges_in _ = []

-- what it takes, does, draws and writes
abbrev pub transcript_in : Terms → Completed → Transcript
transcript_in terms w = record {
  taken = taken_in w;
  acts = flat_map acts_by (exchanges_in w);
  draws = draws_in (exchanges_in w);
  written = written_in terms w;
}

-- how many messages were served
abbrev pub count_of : Completed → ℕ
count_of w = length (exchanges_in w)

-- A message's code is to come: in the stream protocol after each message that leaves the connection open, in single-op before the one.
abbrev pub IsAtCode : Completed → Type 0
IsAtCode (opened (stream endpoint) exchanges) = StaysOpen exchanges
IsAtCode (opened single_op []) = Unit {0}
IsAtCode _ = ⊥

-- Nothing more is to come: single-op's one message was served.
abbrev pub IsDone : Completed → Type 0
IsDone (opened single_op (e ∷ exchanges)) = StaysOpen (e ∷ exchanges)
IsDone _ = ⊥

-- The connection ended with the answer to the last message.
abbrev pub IsClosed : Completed → ConnEnd → Type 0
IsClosed (opened opening exchanges) end = closed_by exchanges ≡ Some end
IsClosed _ end = ⊥

-- These bytes, after what stands whole, are a front of what is to come next in the opening, or of an acknowledgement, and not all of it.
abbrev pub IsInside : Completed → List ℕ → Type 0
IsInside nothing more = IsInHeader more
IsInside greeted more = IsInEndpoint more
IsInside (opened opening exchanges) more = IsAtCode (opened opening exchanges) × (length exchanges < MAX_MESSAGES) × IsInAck more

-- This exchange may come next.
abbrev pub IsNext : Terms → ℕ → Completed → Exchange → Type 0
IsNext terms drawn w e = IsAtCode w × (count_of w < MAX_MESSAGES) × IsExchange terms (drawn + draws_in (exchanges_in w)) e

-- What came after what stands whole is an exchange that was cut: its message was taken, its acts were cut, and nothing was written.
pub record IsCutIn (terms : Terms) (drawn : ℕ) (w : Completed) (tail : Transcript) (e : Exchange) : Type 0 where
  pub next : IsNext terms drawn w e
  pub message : tail.taken ≡ taken_by e
  pub acts : IsCut [] (acts_by e) tail.acts
  pub draws : tail.draws ≤ draws_by e
  pub written : tail.written ≡ []

-- There was no memory for the next exchange. Only one that does something beside taking and writing bytes takes any.
abbrev pub IsCutByMemory : Terms → ℕ → Completed → Transcript → Type 0
IsCutByMemory terms drawn w tail = (e : Exchange) × IsCutIn terms drawn w tail e × (0 < length (acts_by e) + draws_by e)

-- What comes next is the header of the stream protocol and its acknowledgement.
abbrev pub IsGreeting : Terms → Completed → Transcript → Type 0
IsGreeting terms w c = (w ≡ nothing) × (c ≡ bytes_exchanged (header Stream) (protocol_ack terms.peer_host terms.peer_port))

-- What comes next is a header with the byte of no protocol, and its refusal.
abbrev pub IsHeaderRefused : Completed → ℕ → Transcript → Type 0
IsHeaderRefused w byte c = (w ≡ nothing) × IsNoProtocol byte × (c ≡ bytes_exchanged (header_start ++ byte ∷ []) protocol_not_supported)

-- What comes next is a whole exchange.
abbrev pub IsExchanged : Terms → ℕ → Completed → Transcript → Type 0
IsExchanged terms drawn w c = (e : Exchange) × IsNext terms drawn w e × (c ≡ transcript_by e)

-- This comes next, with its answer.
abbrev pub IsAnswered : Terms → ℕ → Completed → Transcript → Type 0
IsAnswered terms drawn w c = IsGreeting terms w c ⊎ (((byte : ℕ) × IsHeaderRefused w byte c) ⊎ IsExchanged terms drawn w c)

-- ---- inside a Call

-- Reading ends in the head of a Call that begins at a position.
abbrev pub EndsInHead : ℕ → Transcript → Option (List ℕ) → ConnEnd → Type 0
EndsInHead at tail rest end = (more : List ℕ) × (tail ≡ bytes_taken (code_byte Call ∷ more)) × BreaksAt head_at (at + 1) (at + MESSAGE_BYTES) more rest end

-- Reading ends in the arguments of a Call that begins at a position: its head was read, its Begin answered, its method found, and it is given up.
pub record EndsInArguments (kinds : List Kind) (at : ℕ) (tail : Transcript) (rest : Option (List ℕ)) (end : ConnEnd) : Type 0 where
  pub head : CallHead
  pub other : is_system head.id ≡ false
  pub numbers : FitsHead head
  pub front : List ℕ
  pub left : ℕ
  pub heading : EndsWithHead head front left
  pub moment : ℕ
  pub turn : Turn
  pub kind : ℕ
  pub started : turn.reply ≡ Started kind
  pub place : ℕ
  pub known : IsMethodOf kinds kind head place
  pub method : Method
  pub method_is : slice_get (methods_of kinds kind) place ≡ Some method
  pub more : List ℕ
  pub breaks : BreaksAt (λ last. serve_to_close last (wants_of method.params) (inside_block (head_bytes head) left)) (at + 1 + length front) (at + MESSAGE_BYTES) more rest end
  pub end_moment : ℕ
  pub end_place : ℕ
  pub tail_is : tail ≡ record {
    taken = code_byte Call ∷ front ++ more;
    acts = acts_of moment (Begin head.id) (Ok turn) ++ abandon_act end_moment head.id end_place ∷ [];
    draws = 0;
    written = [];
  }

-- Reading ends in the arguments of a call of the registry or the collector that begins at a position: its head was read and its method found, and nothing
-- is done.
pub record EndsInSystem (at : ℕ) (tail : Transcript) (rest : Option (List ℕ)) (end : ConnEnd) : Type 0 where
  pub head : CallHead
  pub own : is_system head.id ≡ true
  pub numbers : FitsHead head
  pub front : List ℕ
  pub left : ℕ
  pub heading : EndsWithHead head front left
  pub method : SystemMethod
  pub known : system_method head ≡ Some method
  pub more : List ℕ
  pub breaks : BreaksAt (λ last. serve_to_close last (wants_of (params_of method)) (inside_block (head_bytes head) left)) (at + 1 + length front) (at + MESSAGE_BYTES) more rest end
  pub tail_is : tail ≡ bytes_taken (code_byte Call ∷ front ++ more)

-- Reading ends in a Call.
abbrev pub EndsInCall : Terms → Completed → Transcript → Option (List ℕ) → ConnEnd → Type 0
EndsInCall terms w tail rest end = IsAtCode w × (count_of w < MAX_MESSAGES)
    × (EndsInHead (length (taken_in w)) tail rest end ⊎ (EndsInArguments terms.kinds (length (taken_in w)) tail rest end ⊎ EndsInSystem (length (taken_in w)) tail rest end))

-- Where each end stands: what stands whole, what came after it, and what is left.
--   Ended: the input ended where a message's code was to come, or single-op's one message was served.
--   BadHeader: the last byte taken is the first that differs from the header's.
--   UnknownProtocol: the header ends with the byte of no protocol, and 4F was written.
--   BadMessage: the byte taken in a code's place begins no message.
--   Truncated: the input ended inside the opening, an acknowledgement or a Call.
--   NoSuchObject: the last exchange is a Call of an object that is not exported, and its Return.
--   NoSuchMethod: the last exchange is a Call of a method that its object has not, and its Return.
--   SpaceFull: the last exchange is a Call that the full history refused, and its Return.
--   BadStream: the bytes of a Call are wrong.
--   TooLarge: a Call has too many bytes or nodes, or is too deep.
--   MessageLimit: as many messages as a connection may have were served, and the code of another was taken.
--   ReadFault: the source failed inside the opening, an acknowledgement or a Call, or where a code was to come.
--   WriteFault: the sink failed inside an answer, of which a front was written.
--   OutOfMemory: there was no memory for the acknowledgement of the opening, for the next exchange, or inside a Call; or a Call came behind too many bytes.
abbrev pub Ends : Terms → ℕ → Completed → Transcript → Option (List ℕ) → ConnEnd → Type 0
Ends terms drawn w tail rest Ended = ((IsAtCode w × NothingLeft rest) ⊎ IsDone w) × (tail ≡ bytes_taken [])
Ends terms drawn w tail rest (BadHeader at) = (w ≡ nothing) × ((more : List ℕ) × BreaksHeader at more × (tail ≡ bytes_taken more))
Ends terms drawn w tail rest (UnknownProtocol byte) = IsHeaderRefused w byte tail
Ends terms drawn w tail rest (BadMessage byte at) =
    IsAtCode w × ¬ IsCode byte × (at ≡ length (taken_in w)) × (tail ≡ bytes_taken (byte ∷ []))
Ends terms drawn w tail rest (Truncated at) =
    ((more : List ℕ) × IsInside w more × NothingLeft rest × (at ≡ length (taken_in w ++ more)) × (tail ≡ bytes_taken more)) ⊎ EndsInCall terms w tail rest (Truncated at)
Ends terms drawn w tail rest (NoSuchObject id) = IsClosed w (NoSuchObject id) × (tail ≡ bytes_taken [])
Ends terms drawn w tail rest (NoSuchMethod operation hash) = IsClosed w (NoSuchMethod operation hash) × (tail ≡ bytes_taken [])
Ends terms drawn w tail rest SpaceFull = IsClosed w SpaceFull × (tail ≡ bytes_taken [])
Ends terms drawn w tail rest (BadStream kind at) = EndsInCall terms w tail rest (BadStream kind at)
Ends terms drawn w tail rest (TooLarge what at) = EndsInCall terms w tail rest (TooLarge what at)
Ends terms drawn w tail rest MessageLimit =
    IsAtCode w × (count_of w ≡ MAX_MESSAGES) × ((byte : ℕ) × IsCode byte × (tail ≡ bytes_taken (byte ∷ [])))
Ends terms drawn w tail rest ReadFault =
    ((more : List ℕ) × (IsInside w more ⊎ (IsAtCode w × (more ≡ []))) × (tail ≡ bytes_taken more)) ⊎ EndsInCall terms w tail rest ReadFault
Ends terms drawn w tail rest (WriteFault sent) =
    (c : Transcript) × (part : ℕ) × IsAnswered terms drawn w c × (part < length c.written)
    × (sent ≡ length (written_in terms w) + part) × (tail ≡ record c { written = take part c.written })
Ends terms drawn w tail rest OutOfMemory =
    ((more : List ℕ) × (w ≡ nothing) × ((more ≡ []) ⊎ (more ≡ header Stream)) × (tail ≡ bytes_taken more))
    ⊎ (IsCutByMemory terms drawn w tail ⊎ EndsInCall terms w tail rest OutOfMemory)

-- The dialogue: what stands whole, what came after it, and the end.
abbrev pub Dialogue : Terms → ℕ → Transcript → Option (List ℕ) → ConnEnd → Type 0
Dialogue terms drawn c rest end =
    (w : Completed) × (tail : Transcript) × IsCompleted terms drawn w × (c ≡ followed_by (transcript_in terms w) tail) × Ends terms drawn w tail rest end
