-- The messages of a client of RMI, and what a server answers to them (Java RMI Specification, 10.2 and 10.3).
use Rattle.std.specs.Prelude.{◌≡◌, ◌⊎◌, ◌<◌, ◌+◌, ◌-◌, ℕ, ℤ, pos, true, List, [], ◌∷◌, length, take, Option, Some, None, Result, Ok, Err, option_map}
use Rattle.wire_io.specs.Wire.{ReadHalf, with_front}
use Rattle.wire_io.specs.Pulled.{PullState}
use Rattle.object_ids.specs.declared.ids.Uid.{Uid}
use Rattle.object_ids.specs.Bytes.{bytes_of_uid}
use Rattle.object_ids.specs.Client.{Client}
use Rattle.class_desc.specs.declared.field.TypeCode.{TypeCode}
use Rattle.class_desc.specs.declared.field.TypeCode.TheVariants as types
use Rattle.ser_values.specs.declared.graph.Graph.{Graph}
use Rattle.ser_read.specs.Here.{coming_at, env_at}
use Rattle.java_shapes.specs.declared.ref_views.LiveRef.{LiveRef}
use Rattle.java_shapes.specs.declared.lease_views.LeaseView.{LeaseView}
use Rattle.java_shapes.specs.Ids.{lease_at, texts_at}
use Rattle.java_shapes.specs.LiveRefs.{live_ref_at}
use Rattle.jrmp_frames.specs.declared.code.Code.TheVariants.{DgcAck}
use Rattle.jrmp_frames.specs.declared.header.Protocol.TheVariants.{Stream}
use Rattle.jrmp_frames.specs.declared.head.CallHead.{CallHead}
use Rattle.jrmp_frames.specs.declared.message.Body.{Body}
use Rattle.jrmp_frames.specs.Frames.{IsEndpoint, code_byte, endpoint, header}
use Rattle.jrmp_frames.specs.Returns.{ReturnOf}
use Rattle.method_hash.specs.declared.system.RegistryMethod.TheVariants as registry
use Rattle.dgc_client.specs.declared.plan.ClientFault.TheVariants as refusals
use Rattle.dgc_client.specs.declared.plan.Plan.{Plan}
use Rattle.dgc_client.specs.declared.plan.Plan.TheVariants as plans
use Rattle.ser_read.specs.declared.fault.Large.TheVariants as larges
use Rattle.rmi_client.specs.Leases.{IsPlanCall, granted_ms, want_of_plan}
use Rattle.rmi_client.specs.Replies.{AnswerRead, reading, reply_stop, viewed, ack_at, answer_at, HearsAck}
use Rattle.rmi_client.specs.Requests.{HearsSeen, IsBindCall, IsListCall, IsNameCall}
use Rattle.rmi_client.specs.Sessions.{IsCall}
use Rattle.rmi_client.specs.declared.end.ReplyKind.TheVariants.{WrongShape}
use Rattle.rmi_client.specs.declared.end.ClientEnd.{ClientEnd}
use Rattle.rmi_client.specs.declared.end.ClientEnd.TheVariants as ends
use Rattle.rmi_client.specs.declared.reply.Answer.{Answer}
use Rattle.client_talk.specs.Contents.{Content, content_of, content_in, reference_held}
use Rattle.client_talk.specs.Scripts.{Cause, by_memory, by_dial, by_read, by_write, by_shortage, by_answer, by_table, by_past, Heard, got, stopped, Protocol}
use Rattle.client_talk.specs.declared.end.CommandEnd.{CommandEnd}
use Rattle.client_talk.specs.declared.end.CommandEnd.TheVariants.{DialFault, Session, Table}

-- What a client sends.
pub data Message : Type 0 where
  -- the header of the stream protocol
  Header : Message
  -- the client's endpoint: this host, and port 0
  OwnHost : List ℕ → Message
  -- the names of the registry are asked for
  List_names : Message
  -- a name of the registry is looked up
  Look_up : List ℕ → Message
  -- a name is bound to a reference
  Bind : List ℕ → LiveRef → Message
  -- a name is unbound
  Unbind : List ℕ → Message
  -- a client's lease call is made, which asks for so many milliseconds where it is a dirty one
  Renew : Client → Plan → ℤ → Message
  -- a method is called with the items of a graph, whose result has this type, or that has none
  Call : CallHead → Graph → Option TypeCode → Message
  -- a Return is acknowledged, whose identifier has these bytes
  Acknowledge : List ℕ → Message

-- What a server answers.
pub data Reply : Type 0 where
  -- the protocol is spoken
  Welcome : Reply
  -- the names of the registry
  Names : List (List ℕ) → Reply
  -- a reference, in a Return whose identifier has these bytes
  Found : List ℕ → LiveRef → Reply
  -- a Return without a result
  Finished : Reply
  -- for how many milliseconds a lease is granted, as that is taken; 0 for a clean call
  Granted : ℕ → Reply
  -- what a Return holds whose identifier has these bytes
  Returned : List ℕ → Content → Reply

-- ---- why a command goes no further

abbrev pub cause_of_end : ClientEnd → Cause
cause_of_end ends.Nack = by_answer
cause_of_end (ends.BadReply kind at) = by_answer
cause_of_end (ends.TooLarge what at) = by_answer
cause_of_end (ends.Truncated at) = by_shortage
cause_of_end (ends.RemoteFault text) = by_answer
cause_of_end ends.ReadFault = by_read
cause_of_end (ends.WriteFault n) = by_write
cause_of_end ends.Over = by_past
cause_of_end ends.OutOfMemory = by_memory

abbrev pub cause_of : CommandEnd → Cause
cause_of DialFault = by_dial
cause_of (Session end) = cause_of_end end
cause_of (Table refusals.OutOfMemory) = by_memory
cause_of (Table _) = by_table

-- ---- what is sent

-- These bytes are the message.
abbrev pub IsMessageBytes : Message → List ℕ → Type 0
IsMessageBytes Header bytes = bytes ≡ header Stream
IsMessageBytes (OwnHost host) bytes = bytes ≡ endpoint host (pos 0)
IsMessageBytes List_names bytes = IsListCall bytes
IsMessageBytes (Look_up name) bytes = IsNameCall registry.Lookup name bytes
IsMessageBytes (Bind name reference) bytes = IsBindCall name reference bytes
IsMessageBytes (Unbind name) bytes = IsNameCall registry.Unbind name bytes
IsMessageBytes (Renew client plan asked) bytes = IsPlanCall client plan asked bytes
IsMessageBytes (Call head arguments want) bytes = IsCall head arguments bytes
IsMessageBytes (Acknowledge uid) bytes = bytes ≡ code_byte DgcAck ∷ uid

-- ---- what is answered

-- the type of the result that a message's Return has; None where it has none
abbrev pub want_of : Message → Option TypeCode
want_of List_names = Some types.Array
want_of (Look_up name) = Some types.Object
want_of (Renew client plan asked) = want_of_plan plan
want_of (Call head arguments want) = want
want_of _ = None

-- for how long a lease is granted by what the Return of a plan's call holds; None where that is no lease
abbrev pub grant_at : Plan → Content → Option ℕ
grant_at (plans.Dirty number ids) content = option_map (λ (lease : LeaseView). granted_ms lease.value) (viewed lease_at (reference_held content))
grant_at (plans.Clean number ids strong) content = Some 0

-- what a Return with an identifier of these bytes that holds this answers to the message; None where it has not the shape wanted
abbrev pub view_at : Message → List ℕ → Content → Option Reply
view_at List_names uid content = option_map Names (viewed texts_at (reference_held content))
view_at (Look_up name) uid content = option_map (Found uid) (viewed live_ref_at (reference_held content))
view_at (Bind name reference) uid content = Some Finished
view_at (Unbind name) uid content = Some Finished
view_at (Renew client plan asked) uid content = option_map Granted (grant_at plan content)
view_at (Call head arguments want) uid content = Some (Returned uid content)
view_at _ uid content = None

abbrev pub view_of : Message → Answer → Option Reply
view_of message answer = view_at message (bytes_of_uid answer.uid) (content_of answer.body)

-- These bytes are a reply to the message, with this answer: the acknowledgement of the protocol, or a Return with the wanted shape.
abbrev pub IsReplyBytes : Message → ℕ → List ℕ → Reply → Type 0
IsReplyBytes Header at bytes reply = (own : List ℕ) × (bytes ≡ 0x4E ∷ own) × IsEndpoint own × (reply ≡ Welcome)
IsReplyBytes message at bytes reply = (uid : Uid) × (body : Body) × ReturnOf (want_of message) true uid body bytes
    × (view_at message (bytes_of_uid uid) (content_of body) ≡ Some reply)

-- ---- ends of a session

-- how many bytes are taken past the position at which reading stops: the one that shows that there are too many
abbrev pub past_limit : ClientEnd → ℕ
past_limit (ends.TooLarge larges.Bytes at) = 1
past_limit _ = 0

-- What reading the reply to a message did that came to this end.
abbrev pub HearsEnd : Message → PullState → PullState → ClientEnd → Type 0
HearsEnd Header old new end = HearsAck {A = Unit {0}} old new (Err end)
HearsEnd message old new end = HearsSeen (view_of message) (want_of message) old new (Err end)

-- Reading the reply to a message from this position on took these bytes, left this behind them, where that is told, and came to this end. Of bytes that end
-- decides, none behind the last one that it needs was taken.
pub record StopsReading (message : Message) (at : ℕ) (taken : List ℕ) (rest : Option (List ℕ)) (end : ClientEnd) : Type 0 where
  pub old : ReadHalf
  pub new : ReadHalf
  pub later : ℕ
  pub left : old.left ≡ with_front taken new.left
  pub behind : new.left ≡ rest
  pub counted : at + length taken ≡ later + past_limit end
  pub hears : HearsEnd message (reading old at at) (reading new at later) end

-- how many bytes the call sent before the message: the endpoint follows the header
abbrev pub sent_before : Message → ℕ
sent_before (OwnHost host) = 7
sent_before _ = 0

-- Writing a message failed after exactly its first bytes, and not all; the end counts those that the call sent before it, too.
pub record StopsWriting (message : Message) (sent taken : List ℕ) (n : ℕ) : Type 0 where
  pub bytes : List ℕ
  pub written : ℕ
  pub is_message : IsMessageBytes message bytes
  pub few : written < length bytes
  pub sent_are : sent ≡ take written bytes
  pub counted : n ≡ sent_before message + written
  pub none_taken : taken ≡ []

-- A message was sent whole, and reading its reply stopped so; or a front of it was sent, and not all; or there was no memory, before it was sent or behind it.
abbrev pub StopsSession : Message → ℕ → List ℕ → List ℕ → Option (List ℕ) → ClientEnd → Type 0
StopsSession message at sent taken rest ends.Over = ⊥
StopsSession message at sent taken rest (ends.WriteFault n) = StopsWriting message sent taken n
StopsSession message at sent taken rest ends.OutOfMemory =
    ((sent ≡ []) × (taken ≡ [])) ⊎ (IsMessageBytes message sent × StopsReading message at taken rest ends.OutOfMemory)
StopsSession message at sent taken rest end = IsMessageBytes message sent × StopsReading message at taken rest end

abbrev pub StopsCommand : Message → ℕ → List ℕ → List ℕ → Option (List ℕ) → CommandEnd → Type 0
StopsCommand message at sent taken rest (Session end) = StopsSession message at sent taken rest end
StopsCommand message at sent taken rest _ = ⊥

-- ---- what bytes to come answer

abbrev pub heard_view : ℕ → ℕ → Option Reply → Heard Reply CommandEnd
heard_view at n (Some reply) = got reply n
heard_view at n None = stopped (Session (ends.BadReply WrongShape at))

-- of so many bytes, of which those of a Return are the first ones
abbrev pub heard_return : Message → ℕ → ℕ → Result (AnswerRead × List ℕ) ClientEnd → Heard Reply CommandEnd
heard_return message at all (Ok y) =
    heard_view (at + (all - length y.1)) (all - length y.1) (view_at message y.0.uid (content_in (want_of message) y.0.nodes y.0.answers))
heard_return message at all (Err end) = stopped (Session end)

abbrev pub heard_ack : ℕ → Result (List ℕ) ClientEnd → Heard Reply CommandEnd
heard_ack all (Ok rest) = got Welcome (all - length rest)
heard_ack all (Err end) = stopped (Session end)

abbrev pub heard_call : Message → ℕ → Option (List ℕ) → Heard Reply CommandEnd
heard_call message at left = heard_return message at (length (coming_at left at (reply_stop at)))
    (answer_at (want_of message) at (env_at left at (reply_stop at)).after (coming_at left at (reply_stop at)))

abbrev pub heard_header : ℕ → Option (List ℕ) → Heard Reply CommandEnd
heard_header at left = heard_ack (length (coming_at left at (reply_stop at))) (ack_at at (env_at left at (reply_stop at)).after (coming_at left at (reply_stop at)))

-- What the bytes to come, from this position on, answer to the message.
abbrev pub heard_at : Message → ℕ → List ℕ → Heard Reply CommandEnd
heard_at Header at bytes = heard_header at (Some bytes)
heard_at message at bytes = heard_call message at (Some bytes)

-- The messages and replies of a client of RMI.
abbrev pub rmi : Protocol
rmi = record {
  Message = Message;
  Answer = Reply;
  End = CommandEnd;
  cause = cause_of;
  IsMessage = IsMessageBytes;
  IsReply = IsReplyBytes;
  Stops = StopsCommand;
  heard = heard_at;
}

-- the end of a script where an answer is of another message; none comes
abbrev pub out_of_turn : CommandEnd
out_of_turn = Session ends.Over
