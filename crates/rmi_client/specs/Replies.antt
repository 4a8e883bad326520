-- What a server sends to a client: the acknowledgement of the stream protocol, that of a Ping, and Returns (Java RMI Specification, 10.2). Each is
-- told twice: as what was taken where an answer or an end came, and as a function of the bytes to come.
use Rattle.std.specs.Prelude.{◌≡◌, ◌≢◌, ◌⊎◌, ℕ, ◌≤◌, ◌+◌, ◌*◌, ◌-◌, min, nat_eq, nat_lt, Bool, true, false, List, [], ◌∷◌, length, drop, Option, Some, None, Result, Ok, Err, if◌then◌else◌}
use Rattle.wire_io.specs.Wire.{ReadHalf}
use Rattle.wire_io.specs.Pulled.{PullState, Takes, Stops}
use Rattle.wire_io.specs.declared.pull.PullEnd.{PullEnd}
use Rattle.wire_io.specs.declared.pull.PullEnd.TheVariants as pulls
use Rattle.wire_io.specs.declared.limits.TheConstants.{LAST_POSITION}
use Rattle.object_ids.specs.declared.ids.Uid.{Uid}
use Rattle.object_ids.specs.Bytes.{bytes_of_uid}
use Rattle.class_desc.specs.declared.field.TypeCode.{TypeCode}
use Rattle.class_desc.specs.declared.slot.Slot.{Slot}
use Rattle.class_desc.specs.declared.slot.Item.{Item}
use Rattle.class_desc.specs.declared.slot.Item.TheVariants as items
use Rattle.ser_values.specs.declared.limits.TheConstants.{MESSAGE_BYTES}
use Rattle.ser_values.specs.declared.node.Node.{Node}
use Rattle.java_shapes.specs.Throwable.{fault_text_at}
use Rattle.ser_read.specs.declared.fault.StreamFault.{StreamFault}
use Rattle.ser_read.specs.Here.{coming_at, env_at, fault_of}
use Rattle.ser_read.specs.Wants.{WantFault, WantBreaks}
use Rattle.jrmp_frames.specs.declared.message.Body.{Body}
use Rattle.jrmp_frames.specs.declared.message.Body.TheVariants.{Tree}
use Rattle.jrmp_frames.specs.declared.fault.FrameFault.TheVariants.{BadKind}
use Rattle.jrmp_frames.specs.Frames.{IsEndpoint, IsInEndpoint}
use Rattle.jrmp_frames.specs.Gives.{StopsIn}
use Rattle.jrmp_frames.specs.Returns.{Carries, ReturnRead, no_kind, of_kind, return_at, TakesReturn, BreaksReturn}
use Rattle.rmi_client.specs.Ends.{end_of, end_by, Agrees, BlamesRead}
use Rattle.rmi_client.specs.declared.end.ReplyKind.TheVariants as kinds
use Rattle.rmi_client.specs.declared.end.ClientEnd.{ClientEnd}
use Rattle.rmi_client.specs.declared.end.ClientEnd.TheVariants as ends
use Rattle.rmi_client.specs.declared.reply.Answer.{Answer}

-- ---- where a reply is read from

-- the position past which no byte of a reply is taken that begins at this one
abbrev pub reply_stop : ℕ → ℕ
reply_stop at = min (at + MESSAGE_BYTES) LAST_POSITION

-- a link's half, from which a reply is read that began at the first of these positions, and has come to the second
abbrev pub reading : ReadHalf → ℕ → ℕ → PullState
reading half first at = record { left = half.left; faults = half.faults; shut = half.shut; at = at; stop = reply_stop first }

-- ---- the bytes to come

-- They are told.
abbrev pub IsTold : PullState → Type 0
IsTold p = (env_at p.left p.at p.stop).told ≡ true

-- those to come, up to the limit
abbrev pub to_come : PullState → List ℕ
to_come p = coming_at p.left p.at p.stop

-- the fault of who wants one byte more than these
abbrev pub past_fault : PullState → StreamFault
past_fault p = (env_at p.left p.at p.stop).after

-- ---- the first byte of a reply

-- No byte came.
pub record NoCode (old new : PullState) (end : ClientEnd) : Type 0 where
  pub why : PullEnd
  pub memory : why ≢ pulls.OutOfMemory
  pub stops : Stops old new why
  pub is : end ≡ end_of (fault_of why)

-- What a call did that takes the first byte of a reply.
abbrev pub TakesFirst : PullState → PullState → Result ℕ ClientEnd → Type 0
TakesFirst old new (Ok byte) = Takes old new (byte ∷ [])
TakesFirst old new (Err end) = NoCode old new end

-- This byte stood there and begins no reply.
abbrev pub NotReply : PullState → PullState → ℕ → ClientEnd → Type 0
NotReply old new byte end = Takes old new (byte ∷ []) × (end ≡ ends.BadReply kinds.NotReturn old.at)

-- This first byte was taken, and what holds of the place behind it.
abbrev pub Behind : PullState → ℕ → (PullState → Type 0) → Type 0
Behind old byte Holds = (mid : PullState) × Takes old mid (byte ∷ []) × Holds mid

-- ---- the acknowledgement of the stream protocol: 4E and an endpoint, or 4F

-- what bytes to come give: those behind it
abbrev pub endpoint_at : StreamFault → List ℕ → Result (List ℕ) ClientEnd
endpoint_at more (high ∷ low ∷ bs) = if nat_lt (length bs) (256 * high + low + 4) then Err (end_of more) else Ok (drop (256 * high + low + 4) bs)
endpoint_at more _ = Err (end_of more)

abbrev pub ack_at : ℕ → StreamFault → List ℕ → Result (List ℕ) ClientEnd
ack_at at more [] = Err (end_of more)
ack_at at more (byte ∷ bs) =
    if nat_eq byte 0x4E then endpoint_at more bs else (if nat_eq byte 0x4F then Err ends.Nack else Err (ends.BadReply kinds.NotReturn at))

-- What a call did that takes the client's endpoint, as the server sees it.
abbrev pub TakesEndpoint : {A : Type 0} → PullState → PullState → Result A ClientEnd → Type 0
TakesEndpoint mid new (Ok _) = (bytes : List ℕ) × IsEndpoint bytes × Takes mid new bytes
TakesEndpoint mid new (Err end) = (fault : StreamFault) × StopsIn IsInEndpoint mid new fault × (end ≡ end_of fault)

-- what was taken
abbrev pub TakesAck : {A : Type 0} → PullState → PullState → Result A ClientEnd → Type 0
TakesAck old new (Ok _) = Behind old 0x4E (λ mid. (bytes : List ℕ) × IsEndpoint bytes × Takes mid new bytes)
TakesAck old new (Err end) = NoCode old new end
    ⊎ (((byte : ℕ) × (byte ≢ 0x4E) × (byte ≢ 0x4F) × NotReply old new byte end)
    ⊎ ((Takes old new (0x4F ∷ []) × (end ≡ ends.Nack))
    ⊎ Behind old 0x4E (λ mid. (fault : StreamFault) × StopsIn IsInEndpoint mid new fault × (end ≡ end_of fault))))

pub record HearsAck {A : Type 0} (old new : PullState) (result : Result A ClientEnd) : Type 0 where
  pub takes : TakesAck old new result
  pub stop : new.stop ≡ old.stop
  pub gives : IsTold old → Agrees (λ a rest. rest ≡ to_come new) result (ack_at old.at (past_fault old) (to_come old))
  pub blames : BlamesRead old.faults new.faults result

-- ---- the answer to a Ping: 53

abbrev pub ping_at : ℕ → StreamFault → List ℕ → Result (List ℕ) ClientEnd
ping_at at more [] = Err (end_of more)
ping_at at more (byte ∷ bs) = if nat_eq byte 0x53 then Ok bs else Err (ends.BadReply kinds.NotReturn at)

abbrev pub TakesPing : {A : Type 0} → PullState → PullState → Result A ClientEnd → Type 0
TakesPing old new (Ok _) = Takes old new (0x53 ∷ [])
TakesPing old new (Err end) = NoCode old new end ⊎ ((byte : ℕ) × (byte ≢ 0x53) × NotReply old new byte end)

pub record HearsPing {A : Type 0} (old new : PullState) (result : Result A ClientEnd) : Type 0 where
  pub takes : TakesPing old new result
  pub stop : new.stop ≡ old.stop
  pub gives : IsTold old → Agrees (λ a rest. rest ≡ to_come new) result (ping_at old.at (past_fault old) (to_come old))
  pub blames : BlamesRead old.faults new.faults result

-- ---- Returns: 51, and a stream

-- the one reference of a graph with these items, and its nodes
abbrev pub reference_in : List Node → List Item → Option (List Node × Slot)
reference_in nodes (items.Ref s ∷ []) = Some (nodes, s)
reference_in nodes _ = None

-- the reference that a body is
abbrev pub reference_of : Body → Option (List Node × Slot)
reference_of (Tree graph) = reference_in graph.nodes graph.items
reference_of _ = None

-- what a reference is, seen by `view`
abbrev pub viewed : {X : Type 0} → (List Node → Slot → Option X) → Option (List Node × Slot) → Option X
viewed view (Some (nodes, s)) = view nodes s
viewed view None = None

-- the end for an exception with this text, or without one, whose Return ended at this position
abbrev pub exception_end : ℕ → Option (List ℕ) → ClientEnd
exception_end at (Some text) = ends.RemoteFault text
exception_end at None = ends.BadReply kinds.WrongShape at

-- What a call answers that makes this end.
abbrev pub IsExceptionEnd : ℕ → Option (List ℕ) → ClientEnd → Type 0
IsExceptionEnd at text end = (end ≡ exception_end at text) ⊎ (end ≡ ends.OutOfMemory)

-- What a normal Return holds, as it is read: its identifier's bytes, what its wants gave, and the nodes of its stream.
pub record AnswerRead : Type 0 where
  pub uid : List ℕ
  pub answers : List Item
  pub nodes : List Node

-- what reading a Return gives whose first byte was taken; `end` is the position at which the bytes end
abbrev pub said_at : ℕ → StreamFault → Result (ReturnRead × List ℕ) WantFault → Result (AnswerRead × List ℕ) ClientEnd
said_at end more (Ok (of_kind true (items.Bytes uid ∷ answers) nodes whole, rest)) = Ok (record { uid = uid; answers = answers; nodes = nodes }, rest)
said_at end more (Ok (of_kind false (items.Bytes uid ∷ answers) nodes whole, rest)) = Err (exception_end (end - length rest) (viewed fault_text_at (reference_in nodes answers)))
said_at end more (Ok (of_kind normal _ nodes whole, rest)) = Err (ends.BadReply kinds.WrongShape (end - length rest))
said_at end more (Ok (no_kind byte at, rest)) = Err (ends.BadReply kinds.BadReturnKind at)
said_at end more (Err fault) = Err (end_by more fault)

-- What bytes to come give from the code of a Return on, for a method whose result has this type: what it holds, and the bytes behind it.
abbrev pub answer_at : Option TypeCode → ℕ → StreamFault → List ℕ → Result (AnswerRead × List ℕ) ClientEnd
answer_at want at more [] = Err (end_of more)
answer_at want at more (byte ∷ bs) =
    if nat_eq byte 0x51 then said_at (at + length (byte ∷ bs)) more (return_at want (at + length (byte ∷ bs)) bs) else Err (ends.BadReply kinds.NotReturn at)

-- What was taken behind the code of a Return where this end came: bytes that are no Return, or whose kind is none; an exception; or a Return where there
-- was no memory for what it holds.
abbrev pub StopsReturn : PullState → PullState → Option TypeCode → ClientEnd → Type 0
StopsReturn mid new want end = ((fault : StreamFault) × WantBreaks mid new fault (return_at want) × (end ≡ end_of fault))
    ⊎ (((byte : ℕ) × (at : ℕ) × BreaksReturn mid new (BadKind byte at) (return_at want) × (end ≡ ends.BadReply kinds.BadReturnKind at))
    ⊎ (((uid : Uid) × (body : Body) × TakesReturn mid new want false uid body × (end ≡ exception_end new.at (viewed fault_text_at (reference_of body))))
    ⊎ ((normal : Bool) × (uid : Uid) × (body : Body) × TakesReturn mid new want normal uid body × (end ≡ ends.OutOfMemory))))

-- What was taken where a call answers this.
abbrev pub TakesAnswer : PullState → PullState → Option TypeCode → Result Answer ClientEnd → Type 0
TakesAnswer old new want (Ok answer) = Behind old 0x51 (λ mid. TakesReturn mid new want true answer.uid answer.body)
TakesAnswer old new want (Err end) = NoCode old new end
    ⊎ (((byte : ℕ) × (byte ≢ 0x51) × NotReply old new byte end)
    ⊎ Behind old 0x51 (λ mid. StopsReturn mid new want end))

-- An answer is what was read.
abbrev pub IsAnswerRead : Option TypeCode → Answer → AnswerRead → Type 0
IsAnswerRead want answer read = (read.uid ≡ bytes_of_uid answer.uid) × Carries want read.answers read.nodes answer.body

pub record HearsAnswer (old new : PullState) (want : Option TypeCode) (result : Result Answer ClientEnd) : Type 0 where
  pub takes : TakesAnswer old new want result
  pub stop : new.stop ≡ old.stop
  pub within : new.at ≤ new.stop
  pub gives : IsTold old → Agrees (λ answer read. IsAnswerRead want answer read.0 × (read.1 ≡ to_come new)) result (answer_at want old.at (past_fault old) (to_come old))
  pub blames : BlamesRead old.faults new.faults result

-- ---- inside

abbrev pub TakesBehind : PullState → PullState → Option TypeCode → Result Answer ClientEnd → Type 0
TakesBehind mid new want (Ok answer) = TakesReturn mid new want true answer.uid answer.body
TakesBehind mid new want (Err end) = StopsReturn mid new want end

-- What was taken behind the code of a Return, and what bytes to come give there.
pub record HearsReturn (mid new : PullState) (want : Option TypeCode) (result : Result Answer ClientEnd) : Type 0 where
  pub takes : TakesBehind mid new want result
  pub stop : new.stop ≡ mid.stop
  pub gives : IsTold mid → (end : ℕ) → end ≡ mid.at + length (to_come mid)
      → Agrees (λ answer read. IsAnswerRead want answer read.0 × (read.1 ≡ to_come new)) result (said_at end (past_fault mid) (return_at want end (to_come mid)))
  pub blames : BlamesRead mid.faults new.faults result
