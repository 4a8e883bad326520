-- How far a call has come, for the functions that serve it step by step.
use Rattle.std.specs.Prelude.{◌≡◌, ◌≢◌, ℕ, ◌+◌, ◌<◌, ◌≤◌, ◌⊎◌, Bool, true, false, ◌&&◌, List, [], ◌∷◌, ◌++◌, length, slice_get, Option, None, Some, Result, Ok, Err, OnErr, if◌then◌else◌}
use Rattle.class_desc.specs.declared.field.TypeCode.{TypeCode}
use Rattle.method_hash.specs.declared.method.Method.{Method}
use Rattle.object_ids.specs.declared.ids.ObjId.{ObjId}
use Rattle.object_ids.specs.declared.ids.Uid.{Uid}
use Rattle.object_ids.specs.Bytes.{FitsUid, bytes_of_uid}
use Rattle.object_ids.specs.Draw.{uid_drawn}
use Rattle.object_ids.specs.Same.{same_id}
use Rattle.ser_values.specs.declared.graph.Graph.{Graph}
use Rattle.history.specs.declared.asks.Ask.TheVariants.{Begin, Ack}
use Rattle.history.specs.declared.replies.Reply.{Reply}
use Rattle.history.specs.declared.replies.Reply.TheVariants.{Started}
use Rattle.history.specs.declared.replies.Turn.{Turn}
use Rattle.history.specs.declared.replies.Refused.{Refused}
use Rattle.history.specs.declared.replies.Refused.TheVariants as refusals
use Rattle.wire_io.specs.Wire.{Rose}
use Rattle.wire_io.specs.Pulled.{PullState, Takes}
use Rattle.space.specs.declared.asked.Asked.{Asked}
use Rattle.ports.specs.Balance.{calls_begun, calls_ended}
use Rattle.ser_read.specs.Wants.{Stand, serve_to_close}
use Rattle.jrmp_frames.specs.declared.head.CallHead.{CallHead}
use Rattle.ser_read.specs.declared.fault.StreamFault.{StreamFault}
use Rattle.jrmp_frames.specs.declared.fault.FrameFault.{FrameFault}
use Rattle.jrmp_frames.specs.declared.fault.FrameFault.TheVariants.{Stream}
use Rattle.jrmp_frames.specs.Gives.{StopsIn}
use Rattle.jrmp_frames.specs.Messages.{wants_of}
use Rattle.jrmp_frames.specs.Calls.{ReadsHead, BreaksIn}
use Rattle.system_objects.specs.declared.book.Kind.{Kind}
use Rattle.call_dispatch.specs.declared.connection.Connection.{Connection}
use Rattle.call_dispatch.specs.declared.end.ConnEnd.{ConnEnd}
use Rattle.call_dispatch.specs.declared.end.ConnEnd.TheVariants as ends
use Rattle.call_dispatch.specs.declared.outcome.Invocation.{Invocation}
use Rattle.call_dispatch.specs.declared.outcome.Outcome.{Outcome}
use Rattle.call_dispatch.specs.declared.outcome.Outcome.TheVariants.{Tree, NewRemote, OutOfMemory}
use Rattle.call_dispatch.specs.declared.returns.Answer.{Answer}
use Rattle.call_dispatch.specs.declared.results.Pending.{Pending}
use Rattle.call_dispatch.specs.declared.returns.Prepared.{Prepared}
use Rattle.call_dispatch.specs.declared.returns.Prepared.TheVariants.{Normal, Exceptional}
use Rattle.call_dispatch.specs.declared.results.Sent.{Sent}
use Rattle.call_dispatch.specs.declared.results.Sent.TheVariants.{Whole, New}
use Rattle.system_objects.specs.Terms.{Terms, terms_of}
use Rattle.call_dispatch.specs.Acts.{Act, Call, States, Observed, Led, acts_of, abandon_act, GivesUp}
use Rattle.system_objects.specs.Book.{methods_of}
use Rattle.call_dispatch.specs.Results.{made_by, listed_by, interface_of, plain_return, normal_return}
use Rattle.call_dispatch.specs.Returns.{is_short, fits, fault_message}
use Rattle.system_objects.specs.ReturnBytes.{fault_return, full, wrong_outcome}
use Rattle.call_dispatch.specs.Served.{Conclusion, conclusion_acts, conclusion_written, IsFinished, IsGranted, IsConclusion, Running, running_acts, running_written, running_closes, IsRunning, AtHead, served_acts, served_written, served_closes, IsServed, IsMethodOf}
use Rattle.call_dispatch.specs.Rows.{IsNoted, IsCut}
use Rattle.call_dispatch.specs.Progress.{Writes, end_from}
use Rattle.system_objects.specs.declared.returns.TheConstants.{RETURN_BYTES}

-- the identifier that is drawn next
abbrev pub next_of : Terms → ℕ → Uid
next_of terms drawn = uid_drawn terms.unique terms.time drawn

-- the identifier that a connection draws next
abbrev pub next_in : {S K C P W : Type 0} → Connection S K C P W → Uid
next_in c = next_of (terms_of c.book.now c.setup.now) c.setup.now.draw.drawn

-- The entries show one call running, of this object.
abbrev pub RunsOne : ObjId → List Asked → Type 0
RunsOne object entries = (o : ObjId) → calls_begun entries o ≡ calls_ended entries o + (if same_id object o then 1 else 0)

-- The rest of a row, in which a call of this object runs, was cut.
pub record CutShort (may : Invocation → Outcome → Type 0) (moves : States → Call → States → Type 0) (before after : Observed) (object : ObjId) (row : List Act) : Type 0 where
  pub acts : List Act
  pub led : Led may moves before after acts
  pub cut : (shown : List Asked) → RunsOne object shown → IsCut shown row acts

-- What is to be sent can be: it isn't too long, or one object is made.
abbrev pub IsReadySent : List ℕ → Sent → Type 0
IsReadySent made (Whole bytes) = length bytes ≤ RETURN_BYTES
IsReadySent made (New interface) = length made ≡ 1

abbrev pub IsReady : Pending → Type 0
IsReady pending = IsReadySent pending.made pending.sent

abbrev pub IsReadyReturn : Prepared → Type 0
IsReadyReturn (Normal pending) = IsReady pending
IsReadyReturn (Exceptional bytes) = length bytes ≤ RETURN_BYTES

-- The reply is that the call was finished and has one new object.
abbrev pub MakesOne : Reply → Type 0
MakesOne reply = (made : List ℕ) × IsFinished made reply × (length made ≡ 1)

-- What is to be sent can be, now that this is the reply of Finish.
abbrev pub IsReadyFor : Reply → Sent → Type 0
IsReadyFor reply (Whole bytes) = length bytes ≤ RETURN_BYTES
IsReadyFor reply (New interface) = MakesOne reply

-- The normal Return of an outcome has these bytes, whatever Finish is answered; or it is that of a new object of a kind with this interface.
abbrev pub IsSent : Terms → Uid → Outcome → Sent → Type 0
IsSent terms uid outcome (Whole bytes) = (reply : Reply) → bytes ≡ normal_return terms uid outcome reply
IsSent terms uid outcome (New interface) = (kind : ℕ) × (outcome ≡ NewRemote kind) × (interface ≡ interface_of terms.kinds kind)

-- What is sent for an outcome once its call was finished, and what Finish lists.
pub record IsPending (terms : Terms) (uid : Uid) (outcome : Outcome) (pending : Pending) : Type 0 where
  pub made : pending.made ≡ made_by outcome
  pub listed : pending.listed ≡ listed_by terms outcome
  pub sent : IsSent terms uid outcome pending.sent

-- These bytes are sent, no object is made and none is listed.
abbrev pub IsPlain : List ℕ → Prepared → Type 0
IsPlain bytes (Normal pending) = (pending.made ≡ []) × (pending.listed ≡ []) × (pending.sent ≡ Whole bytes)
IsPlain bytes (Exceptional other) = ⊥

-- A normal Return with these bytes is that of an outcome of its method or not: they are sent, no object is made and none is listed; or it is said
-- that the outcome is wrong.
abbrev pub PreparesPlain : {E : Type 0} → Uid → Bool → List ℕ → Result Prepared E → Type 0
PreparesPlain uid suits bytes (Ok (Normal pending)) = (suits ≡ true) × (is_short bytes ≡ true) × IsPlain bytes (Normal pending)
PreparesPlain uid suits bytes (Ok (Exceptional other)) = ((suits && is_short bytes) ≡ false) × (other ≡ fault_return uid wrong_outcome)
PreparesPlain uid suits bytes (Err e) = Unit {0}

-- The same for a graph whose Return lists these objects.
abbrev pub PreparesGraph : {E : Type 0} → Uid → Graph → List ObjId → Result Prepared E → Type 0
PreparesGraph uid graph listed (Ok (Normal pending)) = (is_short (plain_return uid (Tree graph)) ≡ true) × (pending.made ≡ []) × (pending.listed ≡ listed)
    × (pending.sent ≡ Whole (plain_return uid (Tree graph)))
PreparesGraph uid graph listed (Ok (Exceptional other)) = (is_short (plain_return uid (Tree graph)) ≡ false) × (other ≡ fault_return uid wrong_outcome)
PreparesGraph uid graph listed (Err e) = Unit {0}

-- What was prepared of an outcome.
abbrev pub Prepares : {E : Type 0} → Terms → Uid → Option TypeCode → Outcome → Result Prepared E → Type 0
Prepares terms uid result_type outcome (Ok (Normal pending)) = (fits terms uid result_type outcome ≡ true) × IsPending terms uid outcome pending
Prepares terms uid result_type outcome (Ok (Exceptional bytes)) = (fits terms uid result_type outcome ≡ false) × (outcome ≢ OutOfMemory) × (bytes ≡ fault_return uid (fault_message uid outcome))
Prepares terms uid result_type outcome (Err e) = Unit {0}

-- What a call is answered whose Finish was refused.
abbrev pub IsDenied : Uid → Refused → Result Answer ConnEnd → Type 0
IsDenied uid refused (Ok answer) = (refused ≢ refusals.OutOfMemory) × (answer.bytes ≡ fault_return uid (full refused)) × (answer.close ≡ None)
IsDenied uid refused (Err end) = end ≡ ends.OutOfMemory

-- A running call of which this is pending is finished.
abbrev pub Finishes : (Invocation → Outcome → Type 0) → (States → Call → States → Type 0) → Terms → ObjId → Uid → Outcome → Observed → Observed → Result Answer ConnEnd → Type 0
Finishes may moves terms object uid outcome before after (Ok answer) = (c : Conclusion) × IsGranted terms uid outcome c × Led may moves before after (conclusion_acts object uid outcome c)
    × (answer.bytes ≡ conclusion_written uid outcome c) × (answer.close ≡ None)
Finishes may moves terms object uid outcome before after (Err end) = (end ≡ ends.OutOfMemory)
    × ((c : Conclusion) × IsGranted terms uid outcome c × CutShort may moves before after object (conclusion_acts object uid outcome c))

-- A running call whose worker answered so is concluded.
abbrev pub Concludes : (Invocation → Outcome → Type 0) → (States → Call → States → Type 0) → Terms → ObjId → Uid → Option TypeCode → Outcome → Observed → Observed → Result Answer ConnEnd → Type 0
Concludes may moves terms object uid result_type outcome before after (Ok answer) = (c : Conclusion) × IsConclusion terms uid result_type outcome c × Led may moves before after (conclusion_acts object uid outcome c)
    × (answer.bytes ≡ conclusion_written uid outcome c) × (answer.close ≡ None)
Concludes may moves terms object uid result_type outcome before after (Err end) = (end ≡ ends.OutOfMemory)
    × (((outcome ≡ OutOfMemory) × GivesUp may moves before after object)
    ⊎ ((c : Conclusion) × IsConclusion terms uid result_type outcome c × CutShort may moves before after object (conclusion_acts object uid outcome c)))

-- The arguments of a call whose head was read, and whose method was found, break off.
abbrev pub BreaksOff : List Kind → CallHead → ℕ → PullState → PullState → ConnEnd → Type 0
BreaksOff kinds head kind first now end = (mid : PullState) × (stand : Stand) × (place : ℕ) × (method : Method) × (fault : FrameFault)
    × ReadsHead first mid head stand × IsMethodOf kinds kind head place × (slice_get (methods_of kinds kind) place ≡ Some method)
    × BreaksIn mid now fault (λ end. serve_to_close end (wants_of method.params) stand) × (end ≡ end_from fault)

-- A call whose head was read behind `first`, and that runs, goes on. So many identifiers were drawn before and after; none where its arguments
-- break off.
abbrev pub RunsOn : (Invocation → Outcome → Type 0) → (States → Call → States → Type 0) → Terms → Uid → CallHead → ℕ → PullState → PullState → Observed → Observed → ℕ → ℕ → Result Answer ConnEnd → Type 0
RunsOn may moves terms uid head kind first now before after drawn drew (Ok answer) = (r : Running) × (bytes : List ℕ) × Takes first now bytes × IsRunning terms head kind bytes uid r
    × Led may moves before after (running_acts head uid kind r) × (answer.bytes ≡ running_written uid r) × (answer.close ≡ running_closes head r)
RunsOn may moves terms uid head kind first now before after drawn drew (Err end) =
    ((end ≡ ends.OutOfMemory) × ((r : Running) × (bytes : List ℕ) × Takes first now bytes × IsRunning terms head kind bytes uid r
    × CutShort may moves before after head.id (running_acts head uid kind r)))
    ⊎ ((drew ≡ drawn) × BreaksOff terms.kinds head kind first now end × GivesUp may moves before after head.id)

-- A Return that closes the connection was prepared with this message, or there was no memory.
abbrev pub IsPrepared : List ℕ → Option ConnEnd → Result Answer ConnEnd → Type 0
IsPrepared bytes close (Ok answer) = (answer.bytes ≡ bytes) × (answer.close ≡ close)
IsPrepared bytes close (Err end) = end ≡ ends.OutOfMemory

-- A Call whose head was read behind `first` is answered, or the connection ends in it. So many identifiers were drawn before and after.
abbrev pub Answers : (Invocation → Outcome → Type 0) → (States → Call → States → Type 0) → Terms → Uid → CallHead → PullState → PullState → Observed → Observed → ℕ → ℕ → Result Answer ConnEnd → Type 0
Answers may moves terms uid head first now before after drawn drew (Ok answer) = (s : AtHead) × (bytes : List ℕ) × Takes first now bytes × IsServed terms head bytes uid s
    × Led may moves before after (served_acts head uid s) × (answer.bytes ≡ served_written uid s) × (answer.close ≡ served_closes head s)
Answers may moves terms uid head first now before after drawn drew (Err end) =
    ((end ≡ ends.OutOfMemory) × ((s : AtHead) × (bytes : List ℕ) × Takes first now bytes × IsServed terms head bytes uid s
    × ((acts : List Act) × Led may moves before after acts × IsCut [] (served_acts head uid s) acts)))
    ⊎ ((moment : ℕ) × (turn : Turn) × (kind end_moment place : ℕ) × (turn.reply ≡ Started kind) × (drew ≡ drawn) × BreaksOff terms.kinds head kind first now end
    × Led may moves before after (acts_of moment (Begin head.id) (Ok turn) ++ abandon_act end_moment head.id place ∷ []))

-- ---- answers

-- What comes of an answer that was written so, where the connection ends with it or doesn't.
abbrev pub result_or_close : Result ℕ ConnEnd → Option ConnEnd → Result ℕ ConnEnd
result_or_close (Ok sent) None = Ok sent
result_or_close (Ok sent) (Some end) = Err end
result_or_close (Err end) close = Err end

-- What sending an answer after `sent` bytes does: it is written, or cut and the sink failed, and then the connection goes on or ends.
pub record Sends (before after : Option (List ℕ)) (faults faults_after : ℕ) (sent : ℕ) (answer : Answer) (result : Result ℕ ConnEnd) : Type 0 where
  pub written : Result ℕ ConnEnd
  pub writes : Writes before after sent answer.bytes written
  pub rose : OnErr written (Rose faults faults_after)
  pub kept : faults ≤ faults_after
  pub is : result ≡ result_or_close written answer.close

-- ---- acknowledgements

-- An identifier was noted, or passed over, or there was no memory for it. So many bytes were sent before, and none is sent.
abbrev pub Notes : (Invocation → Outcome → Type 0) → (States → Call → States → Type 0) → Uid → Observed → Observed → ℕ → Result ℕ ConnEnd → Type 0
Notes may moves uid before after sent (Ok sent_after) = (sent_after ≡ sent) × ((moment : ℕ) × (answer : Result Turn Refused) × IsNoted answer × Led may moves before after (acts_of moment (Ack uid) answer))
Notes may moves uid before after sent (Err end) = (end ≡ ends.OutOfMemory) × ((moment : ℕ) × Led may moves before after (acts_of moment (Ack uid) (Err refusals.OutOfMemory)))

-- What an acknowledgement does whose code was just taken, where so many bytes were sent before: none is sent. The identifier is taken and noted, or passed over; or
-- there is no memory for its turn; or the input stops in it, and nothing is done.
abbrev pub Acknowledges : (Invocation → Outcome → Type 0) → (States → Call → States → Type 0) → PullState → PullState → Observed → Observed → ℕ → Result ℕ ConnEnd → Type 0
Acknowledges may moves first now before after sent (Ok sent_after) = (sent_after ≡ sent) × ((uid : Uid) × (moment : ℕ) × (answer : Result Turn Refused) × FitsUid uid × IsNoted answer
    × Takes first now (bytes_of_uid uid) × Led may moves before after (acts_of moment (Ack uid) answer))
Acknowledges may moves first now before after sent (Err end) =
    ((end ≡ ends.OutOfMemory) × ((uid : Uid) × (moment : ℕ) × FitsUid uid × Takes first now (bytes_of_uid uid) × Led may moves before after (acts_of moment (Ack uid) (Err refusals.OutOfMemory))))
    ⊎ ((fault : StreamFault) × (end ≡ end_from (Stream fault)) × StopsIn (λ part. length part < 14) first now fault × (after ≡ before))
