-- Inputs that a connection answers to their end: an opening and whole messages, each of which it can serve.
use Rattle.std.specs.Prelude.{◌≡◌, true, false, ℕ, ◌+◌, ◌≤◌, ◌⊎◌, List, [], ◌∷◌, ◌++◌, length, map, slice_get, Option, Some}
use Rattle.std.specs.List.{flat_map}
use Rattle.wire_io.specs.Wire.{ReadHalf, WriteHalf, Rose}
use Rattle.object_ids.specs.declared.ids.Uid.{Uid}
use Rattle.object_ids.specs.Bytes.{FitsUid}
use Rattle.history.specs.declared.asks.Ask.{Ask}
use Rattle.history.specs.declared.asks.Ask.TheVariants.{Begin}
use Rattle.history.specs.declared.replies.Reply.TheVariants.{Started}
use Rattle.space.specs.declared.asked.Asked.{Asked}
use Rattle.space.specs.declared.asked.AskedEnd.{AskedEnd}
use Rattle.space.specs.declared.asked.AskedEnd.TheVariants.{Turned}
use Rattle.method_hash.specs.declared.method.Method.{Method}
use Rattle.ser_values.specs.declared.limits.TheConstants.{MESSAGE_BYTES}
use Rattle.jrmp_frames.specs.declared.arguments.Arguments.{Arguments}
use Rattle.jrmp_frames.specs.declared.code.Code.TheVariants.{Ping, Call}
use Rattle.jrmp_frames.specs.declared.head.CallHead.{CallHead}
use Rattle.jrmp_frames.specs.Frames.{code_byte, dgc_ack}
use Rattle.jrmp_frames.specs.Messages.{CallBytes}
use Rattle.system_ids.specs.SystemIds.{is_system}
use Rattle.system_ids.specs.SystemMethods.{params_of}
use Rattle.system_ids.specs.declared.methods.SystemMethod.{SystemMethod}
use Rattle.system_objects.specs.declared.book.Kind.{Kind}
use Rattle.system_objects.specs.Book.{methods_of}
use Rattle.system_objects.specs.MethodByHead.{system_method}
use Rattle.system_objects.specs.Terms.{Terms}
use Rattle.call_dispatch.specs.declared.end.ConnEnd.{ConnEnd}
use Rattle.call_dispatch.specs.declared.end.ConnEnd.TheVariants.{Ended, ReadFault, OutOfMemory}
use Rattle.call_dispatch.specs.declared.outcome.Invocation.{Invocation}
use Rattle.call_dispatch.specs.declared.outcome.Outcome.{Outcome}
use Rattle.call_dispatch.specs.Acts.{Call as WorkerCall, States, entries}
use Rattle.call_dispatch.specs.ConnectionState.{ConnectionState, Transcript, LeadsFrom}
use Rattle.call_dispatch.specs.Dialogue.{Opening, IsOpening, opening_taken, most_messages, opened, transcript_in, Dialogue}
use Rattle.call_dispatch.specs.End.{IsSettled, IsWriteFault}
use Rattle.call_dispatch.specs.Rows.{Exchange, taken_by, IsChain}
use Rattle.call_dispatch.specs.Served.{FitsHead, IsMethodOf}

-- ---- what a client sends

-- a Call of an exported object: the object's kind, the Call's head, and its bytes behind the code
pub record SentCall : Type 0 where
  pub kind : ℕ
  pub head : CallHead
  pub bytes : List ℕ

-- a Call of the registry or the collector: its head, and its bytes behind the code
pub record SentSystemCall : Type 0 where
  pub head : CallHead
  pub bytes : List ℕ

-- a message of a client: a Ping; an acknowledgement of the Return with this identifier; a Call of an exported object; a Call of the registry or
-- the collector
pub data Sent : Type 0 where
  sent_ping : Sent
  sent_ack : (uid : Uid) → Sent
  sent_call : SentCall → Sent
  sent_system_call : SentSystemCall → Sent

-- the bytes of a message, from its code on
abbrev pub bytes_sent : Sent → List ℕ
bytes_sent sent_ping = code_byte Ping ∷ []
bytes_sent (sent_ack uid) = dgc_ack uid
bytes_sent (sent_call sent) = code_byte Call ∷ sent.bytes
bytes_sent (sent_system_call sent) = code_byte Call ∷ sent.bytes

-- These bytes, behind a Call's code, are a whole Call of an object of this kind with this head.
pub record IsWholeCall (kinds : List Kind) (kind : ℕ) (head : CallHead) (bytes : List ℕ) : Type 0 where
  -- the object is neither the registry nor the collector
  pub other : is_system head.id ≡ false
  -- the head's bytes tell its numbers
  pub numbers : FitsHead head
  -- the message is within the limit of its bytes
  pub few : 1 + length bytes ≤ MESSAGE_BYTES
  -- the kind has a method for the head, at this place
  pub place : ℕ
  pub known : IsMethodOf kinds kind head place
  pub method : Method
  pub method_is : slice_get (methods_of kinds kind) place ≡ Some method
  -- the bytes spell arguments of that method
  pub arguments : Arguments
  pub spelled : CallBytes head method.params arguments (code_byte Call ∷ bytes)

-- These bytes, behind a Call's code, are a whole Call of the registry or the collector with this head.
pub record IsWholeSystemCall (head : CallHead) (bytes : List ℕ) : Type 0 where
  -- the object is the registry or the collector
  pub own : is_system head.id ≡ true
  -- the head's bytes tell its numbers
  pub numbers : FitsHead head
  -- the message is within the limit of its bytes
  pub few : 1 + length bytes ≤ MESSAGE_BYTES
  -- the object has this method for the head
  pub method : SystemMethod
  pub known : system_method head ≡ Some method
  -- the bytes spell arguments of that method
  pub arguments : Arguments
  pub spelled : CallBytes head (params_of method) arguments (code_byte Call ∷ bytes)

-- The message is whole.
abbrev pub IsSent : List Kind → Sent → Type 0
IsSent kinds sent_ping = Unit {0}
IsSent kinds (sent_ack uid) = FitsUid uid
IsSent kinds (sent_call sent) = IsWholeCall kinds sent.kind sent.head sent.bytes
IsSent kinds (sent_system_call sent) = IsWholeSystemCall sent.head sent.bytes

-- Each of these messages is whole.
abbrev pub AreSent : List Kind → List Sent → Type 0
AreSent kinds [] = Unit {0}
AreSent kinds (s ∷ sents) = IsSent kinds s × AreSent kinds sents

-- The input is an opening and whole messages, and nothing else.
pub record IsWholeInput (kinds : List Kind) (opening : Opening) (sents : List Sent) (input : List ℕ) : Type 0 where
  pub opens : IsOpening opening
  pub whole : AreSent kinds sents
  -- no more messages than may follow the opening
  pub few : length sents ≤ most_messages opening
  pub is : input ≡ opening_taken opening ++ flat_map bytes_sent sents

-- ---- what their calls find

-- the kind of the exported object that a message calls
abbrev pub kind_called : Sent → List ℕ
kind_called (sent_call sent) = sent.kind ∷ []
kind_called _ = []

-- the end of an entry that asks this, where it is a Begin
abbrev pub end_of_begin : Ask → AskedEnd → List AskedEnd
end_of_begin (Begin object) end = end ∷ []
end_of_begin _ end = []

abbrev pub begin_end : Asked → List AskedEnd
begin_end entry = end_of_begin entry.ask entry.end

-- A Begin that ended so was answered that the call started, of an object of this kind: the object is exported, and the history isn't full.
abbrev pub StartsAs : ℕ → AskedEnd → Type 0
StartsAs kind (Turned turn) = turn.reply ≡ Started kind
StartsAs kind _ = ⊥

-- So did these, in their order, of objects of these kinds, as far as both go.
abbrev pub StartEach : List ℕ → List AskedEnd → Type 0
StartEach (kind ∷ kinds) (end ∷ ends) = StartsAs kind end × StartEach kinds ends
StartEach _ _ = Unit {0}

-- Each Begin among these entries started its call: the first Begin the first Call of an exported object among the messages, and so on.
abbrev pub FindsAll : List Asked → List Sent → Type 0
FindsAll asked sents = StartEach (flat_map kind_called sents) (flat_map begin_end asked)

-- ---- what is answered

-- The transcript is an opening and an exchange for each of these messages, in their order, and nothing else.
pub record AnswersEach (terms : Terms) (drawn : ℕ) (opening : Opening) (sents : List Sent) (c : Transcript) : Type 0 where
  pub exchanges : List Exchange
  -- each exchange takes its message
  pub messages : map taken_by exchanges ≡ map bytes_sent sents
  -- they may come one after the other, on these terms
  pub chain : IsChain terms drawn exchanges
  -- what was taken, done, drawn and written is the opening and they
  pub is : c ≡ transcript_in terms (opened opening exchanges)

-- The end tells no failure of the source or the sink.
pub record IsUnfailed (end : ConnEnd) : Type 0 where
  pub source : ¬ (end ≡ ReadFault)
  pub sink : ¬ IsWriteFault end

-- A dialogue in which nothing outside failed has an end that the bytes show, or there was no memory.
abbrev pub UnfailedIsSettled : Type 0
UnfailedIsSettled = (end : ConnEnd) → IsUnfailed end → IsSettled end ⊎ (end ≡ OutOfMemory)

-- A dialogue of a whole input, whose calls all found their objects and in which nothing outside failed, has answered each message and taken all of
-- the input, and then it ended; or there was no memory.
abbrev pub WholeInputIsAnswered : Type 0
WholeInputIsAnswered = (terms : Terms) (drawn : ℕ) (c : Transcript) (rest : List ℕ) (end : ConnEnd) (opening : Opening) (sents : List Sent)
    → Dialogue terms drawn c (Some rest) end → IsUnfailed end
    → IsWholeInput terms.kinds opening sents (c.taken ++ rest) → FindsAll (flat_map entries c.acts) sents
    → ((end ≡ Ended) × (rest ≡ []) × AnswersEach terms drawn opening sents c) ⊎ (end ≡ OutOfMemory)

-- The same of a dialogue whose source had these bytes left before and those after, where it tells them.
abbrev pub CompletesIn : Terms → ℕ → Option (List ℕ) → Transcript → Option (List ℕ) → ConnEnd → Type 0
CompletesIn terms drawn before c after end = (opening : Opening) (sents : List Sent) (input : List ℕ)
    → before ≡ Some input → IsWholeInput terms.kinds opening sents input → FindsAll (flat_map entries c.acts) sents
    → ((end ≡ Ended) × (after ≡ Some []) × AnswersEach terms drawn opening sents c) ⊎ (end ≡ OutOfMemory)

-- ---- at a connection

-- Neither the source's count of faults rose nor the sink's.
pub record NoFault (read read_after : ReadHalf) (write write_after : WriteHalf) : Type 0 where
  pub source : ¬ Rose read.faults read_after.faults
  pub sink : ¬ Rose write.faults write_after.faults

-- The connection that began at `start` answered each of these messages and nothing else: what it took, did, drew and wrote since is the opening and
-- an exchange for each.
pub record AnswersAll (may : Invocation → Outcome → Type 0) (moves : States → WorkerCall → States → Type 0) (terms : Terms) (start now : ConnectionState) (opening : Opening) (sents : List Sent) : Type 0 where
  pub transcript : Transcript
  pub goes : LeadsFrom may moves start now transcript
  pub answers : AnswersEach terms start.drawn opening sents transcript
  -- nothing of the input is left
  pub left : now.wires.left ≡ Some []

-- Where the input that was told is whole and its calls all found their objects, as the new entries show, each message was answered and the connection
-- ended behind the last; or there was no memory.
abbrev pub Completes : (Invocation → Outcome → Type 0) → (States → WorkerCall → States → Type 0) → Terms → ConnectionState → ConnectionState → ConnEnd → Type 0
Completes may moves terms start now end = (opening : Opening) (sents : List Sent) (input : List ℕ) (more : List Asked)
    → start.wires.left ≡ Some input → IsWholeInput terms.kinds opening sents input
    → now.side.asked ≡ start.side.asked ++ more → FindsAll more sents
    → ((end ≡ Ended) × AnswersAll may moves terms start now opening sents) ⊎ (end ≡ OutOfMemory)
