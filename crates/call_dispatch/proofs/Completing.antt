-- A whole input whose calls all found their objects is answered to its end, where nothing outside failed.
use Rattle.std.proofs.Common.{◌≡◌, ℕ, ◌+◌, ◌<◌, ◌≤◌, inl, inr, List, [], ◌∷◌, ◌++◌, length, drop, map, slice_get, Option, None, Some, Result, Ok, Err, refl, ap, sym, subst, ◌∙◌, arith, append_assoc, append-nil, length-append}
use Rattle.std.proofs.lemmas.List.{append_cancel_left, length-map}
use Rattle.std.proofs.lemmas.Grind.{flat_map-append}
use Rattle.std.specs.List.{flat_map}
use Rattle.wire_io.specs.Wire.{ReadHalf, WriteHalf, Rose, with_front}
use Rattle.object_ids.specs.declared.ids.ObjId.{ObjId}
use Rattle.object_ids.specs.declared.ids.Uid.{Uid}
use Rattle.object_ids.specs.Bytes.{bytes_of_uid}
use Rattle.method_hash.specs.declared.method.Method.{Method}
use Rattle.history.specs.declared.asks.Ask.{Ask}
use Rattle.history.specs.declared.asks.Ask.TheVariants as asks
use Rattle.history.specs.declared.replies.Reply.TheVariants.{Started, NoObject}
use Rattle.history.specs.declared.replies.Turn.{Turn}
use Rattle.history.specs.declared.replies.Refused.{Refused}
use Rattle.history.specs.declared.replies.Refused.TheVariants as refusals
use Rattle.space.specs.declared.asked.Asked.{Asked}
use Rattle.space.specs.declared.asked.AskedEnd.{AskedEnd}
use Rattle.space.specs.declared.asked.AskedEnd.TheVariants.{Turned, Refused as Denied}
use Rattle.jrmp_frames.specs.declared.arguments.Arguments.{Arguments}
use Rattle.jrmp_frames.specs.declared.code.Code.TheVariants.{Call}
use Rattle.jrmp_frames.specs.declared.head.CallHead.{CallHead}
use Rattle.jrmp_frames.specs.Frames.{code_byte, dgc_ack}
use Rattle.jrmp_frames.specs.Messages.{CallBytes}
use Rattle.jrmp_frames.proofs.CallLaws.{call_is_one}
use Rattle.system_ids.specs.SystemMethods.{params_of}
use Rattle.system_ids.specs.declared.methods.SystemMethod.{SystemMethod}
use Rattle.system_objects.specs.Book.{methods_of}
use Rattle.system_objects.specs.MethodByHead.{system_method}
use Rattle.system_objects.specs.SystemRequests.{IsQuiet}
use Rattle.system_objects.specs.Terms.{Terms}
use Rattle.system_objects.specs.declared.book.Kind.{Kind}
use Rattle.system_objects.proofs.SystemAsks.{request_quiet}
use Rattle.call_dispatch.specs.declared.end.ConnEnd.{ConnEnd}
use Rattle.call_dispatch.specs.declared.end.ConnEnd.TheVariants.{Ended, BadHeader, UnknownProtocol, BadMessage, BadStream, TooLarge, Truncated, NoSuchObject, NoSuchMethod, SpaceFull, MessageLimit, ReadFault, WriteFault, OutOfMemory}
use Rattle.call_dispatch.specs.declared.outcome.Invocation.{Invocation}
use Rattle.call_dispatch.specs.declared.outcome.Outcome.{Outcome}
use Rattle.call_dispatch.specs.Acts.{Act, Call as WorkerCall, States, entries, acts_of, abandon_act}
use Rattle.call_dispatch.specs.Complete.{Sent, sent_ping, sent_ack, sent_call, sent_system_call, bytes_sent, IsWholeCall, IsWholeSystemCall, IsSent, AreSent, IsWholeInput, kind_called, end_of_begin, begin_end, StartEach, FindsAll, AnswersEach, IsUnfailed, UnfailedIsSettled, WholeInputIsAnswered, CompletesIn, NoFault, Completes}
use Rattle.call_dispatch.specs.ConnectionState.{ConnectionState, Transcript, bytes_taken, followed_by}
use Rattle.call_dispatch.specs.Dialogue.{Opening, stream, single_op, opening_taken, most_messages, nothing, greeted, opened, taken_in, transcript_in, Dialogue}
use Rattle.call_dispatch.specs.End.{IsSettled, IsWriteFault}
use Rattle.call_dispatch.specs.Progress.{Talked}
use Rattle.call_dispatch.specs.Results.{finish_with}
use Rattle.call_dispatch.specs.Rows.{Exchange, ping, acknowledged, served, system, IsExchange, taken_by, acts_by, draws_by, IsOpen, StaysOpen, IsChain}
use Rattle.call_dispatch.specs.Served.{AtHead as Way, absent, refused, begun, served_acts, IsServed, Conclusion, finished, denied, faulted, conclusion_acts, Running, unknown as no_such, ran, running_acts, HasNoMethod, IsMethodOf, FitsHead}
use Rattle.call_dispatch.specs.Systems.{System, unknown, rejected, turned, drawn_at, system_acts, IsSystem}
use Rattle.call_dispatch.proofs.Balancing.{turn_entries}
use Rattle.call_dispatch.proofs.Breaks.{same_behind}
use Rattle.call_dispatch.proofs.CallsOne.{served_begins, begin_same, none_known, known_same}
use Rattle.call_dispatch.proofs.OneReading.{no_call, no_ack, no_ping, uid_same, stopped, next, next_reads, StopsAt, opened_stops, stopped_went, call_input, chain_first, chain_rest, first_taken, goes_more, front_told}
use Rattle.call_dispatch.proofs.OpeningReading.{opens, over, reading, opening_passed, nothing_reads, greeted_reads}
use Rattle.call_dispatch.proofs.SystemOne.{system_begins, heads_differ}
use Rattle.call_dispatch.proofs.WholeCalls.{kind_same, whole_begins, whole_system_begins, call_whole, system_call_whole}

-- ---- the Begins among some acts

-- how the Begins among some acts ended
abbrev begun_by : List Act → List AskedEnd
begun_by acts = flat_map begin_end (flat_map entries acts)

begun_append : (a b : List Act) → begun_by (a ++ b) ≡ begun_by a ++ begun_by b
begun_append a b = ap (flat_map begin_end) (flat_map-append entries a b) ∙ flat_map-append begin_end (flat_map entries a) (flat_map entries b)

-- A turn whose ask is no Begin.
none_begun : (moment : ℕ) (ask : Ask) (answer : Result Turn Refused) → ((end : AskedEnd) → end_of_begin ask end ≡ []) → begun_by (acts_of moment ask answer) ≡ []
none_begun moment ask (Ok turn) none = ap (flat_map begin_end) (turn_entries moment ask turn) ∙ ap (λ (l : List AskedEnd). l ++ []) (none (Turned turn))
none_begun moment ask (Err refusals.HistoryFull) none = ap (λ (l : List AskedEnd). l ++ []) (none (Denied refusals.HistoryFull))
none_begun moment ask (Err (refusals.Full kind)) none = ap (λ (l : List AskedEnd). l ++ []) (none (Denied (refusals.Full kind)))
none_begun moment ask (Err refusals.OutOfMemory) none = refl

quiet_end : (ask : Ask) → IsQuiet ask → (end : AskedEnd) → end_of_begin ask end ≡ []
quiet_end (asks.Begin object) quiet end = absurd quiet
quiet_end (asks.Finish object made listed uid) quiet end = refl
quiet_end (asks.Abandon object) quiet end = refl
quiet_end (asks.Open kind pinned) quiet end = refl
quiet_end (asks.Dirty client number asked objects) quiet end = refl
quiet_end (asks.Clean client number objects strong) quiet end = refl
quiet_end (asks.Ack uid) quiet end = refl
quiet_end (asks.Bind name object) quiet end = refl
quiet_end (asks.Rebind name object) quiet end = refl
quiet_end (asks.Unbind name) quiet end = refl
quiet_end (asks.Lookup name uid) quiet end = refl
quiet_end asks.List quiet end = refl
quiet_end asks.Tick quiet end = refl

conclusion_begun : (object : ObjId) (uid : Uid) (outcome : Outcome) (c : Conclusion) → begun_by (conclusion_acts object uid outcome c) ≡ []
conclusion_begun object uid outcome (finished fin) = none_begun fin.moment (finish_with object outcome fin.listed uid) (Ok fin.turn) (λ end. refl)
conclusion_begun object uid outcome (denied den) =
    begun_append (acts_of den.moment (finish_with object outcome den.listed uid) (Err den.refused)) (abandon_act den.end_moment object den.place ∷ [])
    ∙ ap (λ (l : List AskedEnd). l ++ []) (none_begun den.moment (finish_with object outcome den.listed uid) (Err den.refused) (λ end. refl))
conclusion_begun object uid outcome (faulted up) = refl

running_begun : (head : CallHead) (uid : Uid) (kind : ℕ) (r : Running) → begun_by (running_acts head uid kind r) ≡ []
running_begun head uid kind (no_such up) = refl
running_begun head uid kind (ran inv conclusion) = conclusion_begun head.id uid inv.outcome conclusion

turn_begun : (moment : ℕ) (object : ObjId) (turn : Turn) → begun_by (acts_of moment (asks.Begin object) (Ok turn)) ≡ Turned turn ∷ []
turn_begun moment object turn = ap (flat_map begin_end) (turn_entries moment (asks.Begin object) turn)

served_begun : (head : CallHead) (uid : Uid) (moment : ℕ) (turn : Turn) (kind : ℕ) (r : Running) → begun_by (served_acts head uid (begun (record { moment = moment; turn = turn; kind = kind }) r)) ≡ Turned turn ∷ []
served_begun head uid moment turn kind r =
    begun_append (acts_of moment (asks.Begin head.id) (Ok turn)) (running_acts head uid kind r)
    ∙ ap (λ (l : List AskedEnd). l ++ begun_by (running_acts head uid kind r)) (turn_begun moment head.id turn)
    ∙ ap (λ (l : List AskedEnd). Turned turn ∷ l) (running_begun head uid kind r)

-- What is left to start behind acts without a Begin, and behind those with one.
starts_on : (kinds : List ℕ) (a later : List Act) → begun_by a ≡ [] → StartEach kinds (begun_by (a ++ later)) → StartEach kinds (begun_by later)
starts_on kinds a later none starts =
    let P : List AskedEnd → Type 0 = λ l. StartEach kinds l in
    subst P (begun_append a later ∙ ap (λ (l : List AskedEnd). l ++ begun_by later) none) starts

starts_one : (kind : ℕ) (kinds : List ℕ) (a later : List Act) (turn : Turn) → begun_by a ≡ Turned turn ∷ [] → StartEach (kind ∷ kinds) (begun_by (a ++ later)) → (turn.reply ≡ Started kind) × StartEach kinds (begun_by later)
starts_one kind kinds a later turn one starts =
    let P : List AskedEnd → Type 0 = λ l. StartEach (kind ∷ kinds) l in
    subst P (begun_append a later ∙ ap (λ (l : List AskedEnd). l ++ begun_by later) one) starts

-- ---- one message and its exchange

-- This exchange takes this message, and the connection goes on behind it.
record Passes (e : Exchange) (s : Sent) (xs ys : List ℕ) (sents : List Sent) (later : List Act) : Type 0 where
  message : taken_by e ≡ bytes_sent s
  goes : IsOpen e
  behind : xs ≡ ys
  starts : StartEach (flat_map kind_called sents) (begun_by later)

no_object : (kind : ℕ) (turn : Turn) → turn.reply ≡ NoObject → turn.reply ≡ Started kind → ⊥
no_object kind turn none started =
    let replies : NoObject ≡ Started kind = sym none ∙ started in
    cc

-- A whole Call of an exported object is served on.
served_passes : (terms : Terms) (bytes : List ℕ) (head : CallHead) (uid : Uid) (s : Way) (kind : ℕ) (head2 : CallHead) (bytes2 xs ys : List ℕ) (sents : List Sent) (later : List Act)
    → FitsHead head → IsServed terms head bytes uid s → IsWholeCall terms.kinds kind head2 bytes2 → bytes ++ xs ≡ bytes2 ++ ys
    → StartEach (kind ∷ flat_map kind_called sents) (begun_by (served_acts head uid s ++ later)) → Passes (served (record { bytes = bytes; head = head; uid = uid }) s) (sent_call (record { kind = kind; head = head2; bytes = bytes2 })) xs ys sents later
served_passes terms bytes head uid (absent gone) kind head2 bytes2 xs ys sents later fits (begins, none) w input starts =
    let one = starts_one kind (flat_map kind_called sents) (acts_of gone.moment (asks.Begin head.id) (Ok gone.turn)) later gone.turn (turn_begun gone.moment head.id gone.turn) starts in
    absurd (no_object kind gone.turn none one.0)
served_passes terms bytes head uid (refused moment) kind head2 bytes2 xs ys sents later fits is w input starts = absurd starts.0
served_passes terms bytes head uid (begun start (no_such up2)) kind head2 bytes2 xs ys sents later fits (started, (begins, none)) w input starts =
    let acts : List Act = served_acts head uid (begun start (no_such up2)) in
    let one = starts_one kind (flat_map kind_called sents) acts later start.turn (served_begun head uid start.moment start.turn start.kind (no_such up2)) starts in
    let kinds_same : start.kind ≡ kind = kind_same start.kind kind (sym started ∙ one.0) in
    let heads : head ≡ head2 =
    begin_same head head2 bytes bytes2 xs ys fits w.numbers (served_begins terms head bytes uid (begun start (no_such up2)) (started, (begins, none))) (whole_begins terms.kinds kind head2 bytes2 w) input in
    let P : ℕ → Type 0 = λ k. HasNoMethod terms.kinds k head in
    let Q : CallHead → Type 0 = λ h. HasNoMethod terms.kinds kind h in
    absurd (none_known terms.kinds kind head2 w.place w.known (subst Q heads (subst P kinds_same none)))
served_passes terms bytes head uid (begun start (ran inv conclusion)) kind head2 bytes2 xs ys sents later fits (started, (known, (method, method_is, call, concluded))) w input starts =
    let r : Running = ran inv conclusion in
    let one = starts_one kind (flat_map kind_called sents) (served_acts head uid (begun start r)) later start.turn (served_begun head uid start.moment start.turn start.kind r) starts in
    let kinds_same : start.kind ≡ kind = kind_same start.kind kind (sym started ∙ one.0) in
    let heads : head ≡ head2 =
    begin_same head head2 bytes bytes2 xs ys fits w.numbers (served_begins terms head bytes uid (begun start r) (started, (known, (method, method_is, call, concluded)))) (whole_begins terms.kinds kind head2 bytes2 w) input in
    let P : ℕ → Type 0 = λ k. IsMethodOf terms.kinds k head inv.place in
    let Q : CallHead → Type 0 = λ h. IsMethodOf terms.kinds kind h inv.place in
    let known2 : IsMethodOf terms.kinds kind head2 inv.place = subst Q heads (subst P kinds_same known) in
    let is2 : slice_get (methods_of terms.kinds kind) inv.place ≡ Some method = ap (λ k. slice_get (methods_of terms.kinds k) inv.place) (sym kinds_same) ∙ method_is in
    let methods = known_same terms.kinds kind head2 inv.place w.place method w.method known2 w.known is2 w.method_is in
    let R : Method → Type 0 = λ m. CallBytes head2 m.params w.arguments (0x50 ∷ bytes2) in
    let same = call_is_one method.params head head2 inv.arguments w.arguments (0x50 ∷ bytes) (0x50 ∷ bytes2) xs ys call (subst R (sym methods.1) w.spelled) (ap (λ (l : List ℕ). 0x50 ∷ l) input) in
    record { message = same.0; goes = refl; behind = same_behind bytes bytes2 xs ys (ap (drop 1) same.0) input; starts = one.1 }

abbrev some_method : SystemMethod → Option SystemMethod
some_method method = Some method

method_same : (a b : SystemMethod) → some_method a ≡ some_method b → a ≡ b
method_same a b e = cc

no_method : (a : SystemMethod) → some_method a ≡ None → ⊥
no_method a e = cc

-- A Call of the registry or the collector that was read takes the whole message.
system_taken : (head head2 : CallHead) (method : SystemMethod) (arguments : Arguments) (bytes bytes2 xs ys : List ℕ) → system_method head ≡ Some method → CallBytes head (params_of method) arguments (0x50 ∷ bytes)
    → (w : IsWholeSystemCall head2 bytes2) → head ≡ head2 → bytes ++ xs ≡ bytes2 ++ ys → code_byte Call ∷ bytes ≡ code_byte Call ∷ bytes2
system_taken head head2 method arguments bytes bytes2 xs ys known call w heads input =
    let methods : w.method ≡ method = method_same w.method method (sym w.known ∙ ap system_method (sym heads) ∙ known) in
    let P : SystemMethod → Type 0 = λ m. CallBytes head2 (params_of m) w.arguments (0x50 ∷ bytes2) in
    let same = call_is_one (params_of method) head head2 arguments w.arguments (0x50 ∷ bytes) (0x50 ∷ bytes2) xs ys call (subst P methods w.spelled) (ap (λ (l : List ℕ). 0x50 ∷ l) input) in
    same.0

-- It is answered on.
system_passes : (terms : Terms) (drawn : ℕ) (bytes : List ℕ) (head : CallHead) (uid : Uid) (s : System) (head2 : CallHead) (bytes2 xs ys : List ℕ) (sents : List Sent) (later : List Act)
    → FitsHead head → IsSystem terms drawn head bytes uid s → IsWholeSystemCall head2 bytes2 → bytes ++ xs ≡ bytes2 ++ ys
    → StartEach (flat_map kind_called sents) (begun_by (system_acts s ++ later)) → Passes (system (record { bytes = bytes; head = head; uid = uid }) s) (sent_system_call (record { head = head2; bytes = bytes2 })) xs ys sents later
system_passes terms drawn bytes head uid unknown head2 bytes2 xs ys sents later fits (begins, none, is) w input starts =
    let heads : head ≡ head2 = begin_same head head2 bytes bytes2 xs ys fits w.numbers (system_begins terms drawn head bytes uid unknown (begins, none, is)) (whole_system_begins head2 bytes2 w) input in
    absurd (no_method w.method (sym w.known ∙ ap system_method (sym heads) ∙ none))
system_passes terms drawn bytes head uid (rejected rej) head2 bytes2 xs ys sents later fits (known, call, is, e) w input starts =
    let heads : head ≡ head2 = begin_same head head2 bytes bytes2 xs ys fits w.numbers (system_begins terms drawn head bytes uid (rejected rej) (known, call, is, e)) (whole_system_begins head2 bytes2 w) input in
    let same = system_taken head head2 rej.method rej.arguments bytes bytes2 xs ys known call w heads input in
    record { message = same; goes = refl; behind = same_behind bytes bytes2 xs ys (ap (drop 1) same) input; starts = starts }
system_passes terms drawn bytes head uid (turned took) head2 bytes2 xs ys sents later fits (known, call, is, e, fit, ws) w input starts =
    let heads : head ≡ head2 =
    begin_same head head2 bytes bytes2 xs ys fits w.numbers (system_begins terms drawn head bytes uid (turned took) (known, call, is, e, fit, ws)) (whole_system_begins head2 bytes2 w) input in
    let same = system_taken head head2 took.method took.arguments bytes bytes2 xs ys known call w heads input in
    let quiet = request_quiet terms took.method took.arguments (drawn_at terms drawn) uid took.ask e in
    record {
      message = same;
      goes = refl;
      behind = same_behind bytes bytes2 xs ys (ap (drop 1) same) input;
      starts = starts_on (flat_map kind_called sents) (acts_of took.moment took.ask took.answer) later (none_begun took.moment took.ask took.answer (quiet_end took.ask quiet)) starts;
    }

-- An exchange that begins the bytes of whole messages takes the first of them, and the connection goes on.
passes : (terms : Terms) (drawn : ℕ) (e : Exchange) (s : Sent) (xs ys : List ℕ) (sents : List Sent) (later : List Act) → IsExchange terms drawn e → IsSent terms.kinds s → taken_by e ++ xs ≡ bytes_sent s ++ ys
    → StartEach (flat_map kind_called (s ∷ sents)) (begun_by (acts_by e ++ later)) → Passes e s xs ys sents later
passes terms drawn ping sent_ping xs ys sents later is whole input starts = record { message = refl; goes = refl; behind = ap (drop 1) input; starts = starts }
passes terms drawn ping (sent_ack uid) xs ys sents later is whole input starts = absurd (no_ping xs (bytes_of_uid uid ++ ys) input)
passes terms drawn ping (sent_call sent) xs ys sents later is whole input starts = absurd (no_call (sent.bytes ++ ys) xs (sym input))
passes terms drawn ping (sent_system_call sent) xs ys sents later is whole input starts = absurd (no_call (sent.bytes ++ ys) xs (sym input))
passes terms drawn (acknowledged noted) sent_ping xs ys sents later is whole input starts = absurd (no_ping ys (bytes_of_uid noted.uid ++ xs) (sym input))
passes terms drawn (acknowledged noted2) (sent_ack uid2) xs ys sents later (fits, noted) whole input starts =
    let one = uid_same noted2.uid uid2 xs ys fits whole (ap (drop 1) input) in
    record {
      message = ap dgc_ack one.0;
      goes = refl;
      behind = one.1;
      starts = starts_on (flat_map kind_called sents) (acts_of noted2.moment (asks.Ack noted2.uid) noted2.answer) later (none_begun noted2.moment (asks.Ack noted2.uid) noted2.answer (λ end. refl)) starts;
    }
passes terms drawn (acknowledged noted) (sent_call sent) xs ys sents later is whole input starts = absurd (no_ack (sent.bytes ++ ys) (bytes_of_uid noted.uid ++ xs) (sym input))
passes terms drawn (acknowledged noted) (sent_system_call sent) xs ys sents later is whole input starts = absurd (no_ack (sent.bytes ++ ys) (bytes_of_uid noted.uid ++ xs) (sym input))
passes terms drawn (served msg s) sent_ping xs ys sents later is whole input starts = absurd (no_call (msg.bytes ++ xs) ys input)
passes terms drawn (served msg s) (sent_ack uid2) xs ys sents later is whole input starts = absurd (no_ack (msg.bytes ++ xs) (bytes_of_uid uid2 ++ ys) input)
passes terms drawn (served msg s) (sent_call sent) xs ys sents later (other, draw, fits, few, is) whole input starts =
    served_passes terms msg.bytes msg.head msg.uid s sent.kind sent.head sent.bytes xs ys sents later fits is whole (ap (drop 1) input) starts
passes terms drawn (served msg s) (sent_system_call sent2) xs ys sents later (other, draw, fits, few, is) whole input starts =
    let heads : msg.head ≡ sent2.head = begin_same msg.head sent2.head msg.bytes sent2.bytes xs ys fits whole.numbers (served_begins terms msg.head msg.bytes msg.uid s is) (whole_system_begins sent2.head sent2.bytes whole) (ap (drop 1) input) in
    absurd (heads_differ sent2.head msg.head (sym heads) whole.own other)
passes terms drawn (system msg s) sent_ping xs ys sents later is whole input starts = absurd (no_call (msg.bytes ++ xs) ys input)
passes terms drawn (system msg s) (sent_ack uid2) xs ys sents later is whole input starts = absurd (no_ack (msg.bytes ++ xs) (bytes_of_uid uid2 ++ ys) input)
passes terms drawn (system msg s) (sent_call sent) xs ys sents later (own, fits, few, is) whole input starts =
    let heads : msg.head ≡ sent.head = begin_same msg.head sent.head msg.bytes sent.bytes xs ys fits whole.numbers (system_begins terms drawn msg.head msg.bytes msg.uid s is) (whole_begins terms.kinds sent.kind sent.head sent.bytes whole) (ap (drop 1) input) in
    absurd (heads_differ msg.head sent.head heads own whole.other)
passes terms drawn (system msg s) (sent_system_call sent2) xs ys sents later (own, fits, few, is) whole input starts =
    system_passes terms drawn msg.bytes msg.head msg.uid s sent2.head sent2.bytes xs ys sents later fits is whole (ap (drop 1) input) starts

-- ---- some exchanges beside the messages

-- These exchanges take the first of these messages, and the rest of them is what comes behind.
record Walked (kinds : List Kind) (es : List Exchange) (sents : List Sent) (b : List ℕ) (more : List Act) : Type 0 where
  done : List Sent
  later : List Sent
  split : sents ≡ done ++ later
  messages : map taken_by es ≡ map bytes_sent done
  goes : StaysOpen es
  behind : b ≡ flat_map bytes_sent later
  whole : AreSent kinds later
  starts : StartEach (flat_map kind_called later) (begun_by more)

not_nothing : (e : Exchange) (xs : List ℕ) → taken_by e ++ xs ≡ [] → ⊥
not_nothing ping xs is = cc
not_nothing (acknowledged noted) xs is = cc
not_nothing (served msg s) xs is = cc
not_nothing (system msg s) xs is = cc

first_same : (a b : List ℕ) (ms ns : List (List ℕ)) → a ≡ b → ms ≡ ns → a ∷ ms ≡ b ∷ ns
first_same a b ms ns one more = ap (λ (l : List ℕ). l ∷ ms) one ∙ ap (λ (l : List (List ℕ)). b ∷ l) more

walked : (terms : Terms) (drawn : ℕ) (es : List Exchange) (sents : List Sent) (b : List ℕ) (more : List Act) → IsChain terms drawn es → AreSent terms.kinds sents → flat_map taken_by es ++ b ≡ flat_map bytes_sent sents
    → StartEach (flat_map kind_called sents) (begun_by (flat_map acts_by es ++ more)) → Walked terms.kinds es sents b more
walked terms drawn [] sents b more chain whole input starts =
    record { done = []; later = sents; split = refl; messages = refl; goes = refl; behind = input; whole = whole; starts = starts }
walked terms drawn (e ∷ es) [] b more chain whole input starts = absurd (not_nothing e (flat_map taken_by es ++ b) (sym (first_taken e es b) ∙ input))
walked terms drawn (e ∷ es) (s ∷ sents) b more chain whole input starts =
    let later : List Act = flat_map acts_by es ++ more in
    let P : List Act → Type 0 = λ l. StartEach (flat_map kind_called (s ∷ sents)) (begun_by l) in
    let p = passes terms drawn e s (flat_map taken_by es ++ b) (flat_map bytes_sent sents) sents later (chain_first terms drawn e es chain) whole.0 (sym (first_taken e es b) ∙ input)
    (subst P (append_assoc (acts_by e) (flat_map acts_by es) more) starts) in
    let w = walked terms (drawn + draws_by e) es sents b more (chain_rest terms drawn e es chain) whole.1 p.behind p.starts in
    record {
      done = s ∷ w.done;
      later = w.later;
      split = ap (λ (l : List Sent). s ∷ l) w.split;
      messages = first_same (taken_by e) (bytes_sent s) (map taken_by es) (map bytes_sent w.done) p.message w.messages;
      goes = goes_more e es p.goes w.goes;
      behind = w.behind;
      whole = w.whole;
      starts = w.starts;
    }

-- ---- where it ends

-- Where the input ends behind some exchanges, it ends the connection.
end_next : (opening : Opening) (es : List Exchange) → StaysOpen es → next opening es [] ≡ stopped Ended []
end_next (stream endpoint) es goes = rw goes refl
end_next single_op [] goes = refl
end_next single_op (e ∷ es) goes = rw goes refl

-- an exchange that takes the message
abbrev stand_in : Sent → Exchange
stand_in sent_ping = ping
stand_in (sent_ack uid) = acknowledged (record { uid = uid; moment = 0; answer = Err refusals.HistoryFull })
stand_in (sent_call sent) = served (record { bytes = sent.bytes; head = sent.head; uid = sent.head.id.space }) (refused 0)
stand_in (sent_system_call sent) = served (record { bytes = sent.bytes; head = sent.head; uid = sent.head.id.space }) (refused 0)

stand_in_takes : (s : Sent) → taken_by (stand_in s) ≡ bytes_sent s
stand_in_takes sent_ping = refl
stand_in_takes (sent_ack uid) = refl
stand_in_takes (sent_call sent) = refl
stand_in_takes (sent_system_call sent) = refl

-- The input ended where the connection did, and nothing came behind the exchanges.
abbrev EndsHere : Transcript → List ℕ → ConnEnd → Type 0
EndsHere tail rest end = (end ≡ Ended) × (rest ≡ []) × (tail ≡ bytes_taken [])

both_nothing : (a b : List ℕ) → a ++ b ≡ [] → (a ≡ []) × (b ≡ [])
both_nothing [] b is = (refl, is)
both_nothing (x ∷ a) b is = absurd (cc)

stops_at_end : (terms : Terms) (opening : Opening) (es : List Exchange) (tail : Transcript) (rest : List ℕ) (end : ConnEnd) → StopsAt terms opening es tail rest end → StaysOpen es → tail.taken ++ rest ≡ [] → EndsHere tail rest end
stops_at_end terms opening es tail rest end (inl (more, is, stop)) goes input =
    let none : more ++ rest ≡ [] = sym (ap (λ (c : Transcript). c.taken ++ rest) is) ∙ input in
    let parts = both_nothing more rest none in
    let same : stopped end rest ≡ stopped Ended [] = sym stop ∙ ap (next opening es) none ∙ end_next opening es goes in
    ((cc), parts.1, is ∙ ap bytes_taken parts.0)
stops_at_end terms opening es tail rest end (inr (more, taken, calls, inside)) goes input =
    let none : code_byte Call ∷ (more ++ rest) ≡ [] = sym (call_input tail more rest taken) ∙ input in
    absurd (cc)

-- No end stands where a whole message is to come.
message_goes_on : (terms : Terms) (opening : Opening) (es : List Exchange) (tail : Transcript) (rest : List ℕ) (end : ConnEnd) (s : Sent) (xs : List ℕ) (kinds : List ℕ) → StopsAt terms opening es tail rest end → IsSettled end → StaysOpen es
    → length es < most_messages opening → IsSent terms.kinds s → StartEach (kind_called s ++ kinds) (begun_by tail.acts) → tail.taken ++ rest ≡ bytes_sent s ++ xs → ⊥
message_goes_on terms opening es tail rest end s xs kinds (inl (more, is, stop)) settled goes few whole starts input =
    let same_input : taken_by (stand_in s) ++ xs ≡ more ++ rest = ap (λ (l : List ℕ). l ++ xs) (stand_in_takes s) ∙ sym input ∙ ap (λ (c : Transcript). c.taken ++ rest) is in
    stopped_went end rest (stand_in s) xs (sym stop ∙ ap (next opening es) (sym same_input) ∙ next_reads opening es (stand_in s) xs few goes)
message_goes_on terms opening es tail rest end sent_ping xs kinds (inr (more, taken, calls, inside)) settled goes few whole starts input = no_call (more ++ rest) xs (sym (call_input tail more rest taken) ∙ input)
message_goes_on terms opening es tail rest end (sent_ack uid) xs kinds (inr (more, taken, calls, inside)) settled goes few whole starts input =
    no_ack (more ++ rest) (bytes_of_uid uid ++ xs) (sym (call_input tail more rest taken) ∙ input)
message_goes_on terms opening es tail rest end (sent_call sent) xs kinds (inr (more, taken, calls, inside)) settled goes few whole starts input =
    call_whole terms.kinds (length (taken_in (opened opening es))) tail rest end sent.kind sent.head sent.bytes xs kinds inside settled whole starts input
message_goes_on terms opening es tail rest end (sent_system_call sent) xs kinds (inr (more, taken, calls, inside)) settled goes few whole starts input =
    system_call_whole terms.kinds (length (taken_in (opened opening es))) tail rest end sent.head sent.bytes xs inside settled whole input

-- Behind the exchanges that take the first of the messages, there is none left and the connection ended.
ends_here : (terms : Terms) (opening : Opening) (es : List Exchange) (tail : Transcript) (rest : List ℕ) (end : ConnEnd) (later : List Sent) → StopsAt terms opening es tail rest end → IsSettled end → StaysOpen es
    → length es + length later ≤ most_messages opening → AreSent terms.kinds later → StartEach (flat_map kind_called later) (begun_by tail.acts) → tail.taken ++ rest ≡ flat_map bytes_sent later → (later ≡ []) × EndsHere tail rest end
ends_here terms opening es tail rest end [] stops settled goes few whole starts input = (refl, stops_at_end terms opening es tail rest end stops goes input)
ends_here terms opening es tail rest end (s ∷ later) stops settled goes few whole starts input =
    let room : length es < most_messages opening = omega (arith, few) in
    absurd (message_goes_on terms opening es tail rest end s (flat_map bytes_sent later) (flat_map kind_called later) stops settled goes room whole.0 starts input)

-- ---- dialogues

-- a transcript, by its parts
abbrev course : List ℕ → List Act → ℕ → List ℕ → Transcript
course taken acts draws written = record { taken = taken; acts = acts; draws = draws; written = written }

course_same : (c : Transcript) → followed_by c (bytes_taken []) ≡ c
course_same c =
    let none : c.draws + 0 ≡ c.draws = omega arith in
    ap (λ l. course l (c.acts ++ []) (c.draws + 0) (c.written ++ [])) (append-nil c.taken) ∙ ap (λ l. course c.taken l (c.draws + 0) (c.written ++ [])) (append-nil c.acts)
    ∙ ap (λ n. course c.taken c.acts n (c.written ++ [])) none ∙ ap (λ l. course c.taken c.acts c.draws l) (append-nil c.written)

no_more : (done later sents : List Sent) → sents ≡ done ++ later → later ≡ [] → sents ≡ done
no_more done later sents split none = split ∙ ap (λ (l : List Sent). done ++ l) none ∙ append-nil done

-- The dialogue's ending behind the opening.
answers_opened : (terms : Terms) (drawn : ℕ) (c tail : Transcript) (rest : List ℕ) (end : ConnEnd) (opening : Opening) (es : List Exchange) (sents : List Sent) → c ≡ followed_by (transcript_in terms (opened opening es)) tail
    → IsChain terms drawn es → StopsAt terms opening es tail rest end → IsSettled end → length sents ≤ most_messages opening → AreSent terms.kinds sents → flat_map taken_by es ++ (tail.taken ++ rest) ≡ flat_map bytes_sent sents
    → FindsAll (flat_map entries c.acts) sents → (end ≡ Ended) × (rest ≡ []) × AnswersEach terms drawn opening sents c
answers_opened terms drawn c tail rest end opening es sents is chain stops settled few whole input finds =
    let P : Transcript → Type 0 = λ x. FindsAll (flat_map entries x.acts) sents in
    let w = walked terms drawn es sents (tail.taken ++ rest) tail.acts chain whole input (subst P is finds) in
    let messages : length es ≡ length w.done = sym (length-map es taken_by) ∙ ap (λ (l : List (List ℕ)). length l) w.messages ∙ length-map w.done bytes_sent in
    let all : length sents ≡ length w.done + length w.later = ap (λ (l : List Sent). length l) w.split ∙ length-append w.done w.later in
    let here = ends_here terms opening es tail rest end w.later stops settled w.goes (omega (arith, few, messages, all)) w.whole w.starts w.behind in
    let same : sents ≡ w.done = no_more w.done w.later sents w.split here.0 in (
      here.1.0,
      here.1.1,
      record {
        exchanges = es;
        messages = w.messages ∙ ap (map bytes_sent) (sym same);
        chain = chain;
        is = is ∙ ap (followed_by (transcript_in terms (opened opening es))) here.1.2 ∙ course_same (transcript_in terms (opened opening es));
      },
    )

-- Where the input begins with an opening, the dialogue doesn't end in it.
not_over : (terms : Terms) (opening : Opening) (xs input : List ℕ) (end : ConnEnd) (written rest : List ℕ) → reading terms input ≡ over end written rest → input ≡ opening_taken opening ++ xs
    → reading terms (opening_taken opening ++ xs) ≡ opens opening xs → ⊥
not_over terms opening xs input end written rest ends is begins =
    let same : over end written rest ≡ opens opening xs = sym ends ∙ ap (reading terms) is ∙ begins in
    cc

settled_answers : (terms : Terms) (drawn : ℕ) (c : Transcript) (rest : List ℕ) (end : ConnEnd) (opening : Opening) (sents : List Sent) → Dialogue terms drawn c (Some rest) end → IsSettled end
    → IsWholeInput terms.kinds opening sents (c.taken ++ rest) → FindsAll (flat_map entries c.acts) sents → (end ≡ Ended) × (rest ≡ []) × AnswersEach terms drawn opening sents c
settled_answers terms drawn c rest end opening sents (nothing, tail, legal, is, ends) settled whole finds =
    let reads = nothing_reads terms drawn tail rest end ends settled in
    absurd (not_over terms opening (flat_map bytes_sent sents) (tail.taken ++ rest) end tail.written rest reads.0
    (sym (ap (λ (x : Transcript). x.taken ++ rest) is) ∙ whole.is) (opening_passed terms opening (flat_map bytes_sent sents) whole.opens))
settled_answers terms drawn c rest end opening sents (greeted, tail, legal, is, ends) settled whole finds =
    let reads = greeted_reads terms drawn tail rest end ends settled in
    absurd (not_over terms opening (flat_map bytes_sent sents) ((taken_in greeted ++ tail.taken) ++ rest) end _ rest reads.0
    (sym (ap (λ (x : Transcript). x.taken ++ rest) is) ∙ whole.is) (opening_passed terms opening (flat_map bytes_sent sents) whole.opens))
settled_answers terms drawn c rest end opening sents (opened opening2 es, tail, (legal, chain, few), is, ends) settled whole finds =
    let xs : List ℕ = flat_map taken_by es ++ (tail.taken ++ rest) in
    let input : c.taken ++ rest ≡ opening_taken opening2 ++ xs =
    ap (λ (x : Transcript). x.taken ++ rest) is ∙ append_assoc (opening_taken opening2 ++ flat_map taken_by es) tail.taken rest
    ∙ append_assoc (opening_taken opening2) (flat_map taken_by es) (tail.taken ++ rest) in
    let same : opens opening2 xs ≡ opens opening (flat_map bytes_sent sents) =
    sym (opening_passed terms opening2 xs legal) ∙ ap (reading terms) (sym input ∙ whole.is) ∙ opening_passed terms opening (flat_map bytes_sent sents) whole.opens in
    let openings : opening2 ≡ opening = cc in
    let inputs : xs ≡ flat_map bytes_sent sents = cc in
    let P : Opening → Type 0 = λ o. c ≡ followed_by (transcript_in terms (opened o es)) tail in
    let Q : Opening → Type 0 = λ o. StopsAt terms o es tail rest end in
    answers_opened terms drawn c tail rest end opening es sents (subst P openings is) chain (subst Q openings (opened_stops terms drawn opening2 es tail rest end ends settled)) settled whole.few whole.whole inputs finds

pub unfailed_is_settled : UnfailedIsSettled
unfailed_is_settled Ended u = inl tt
unfailed_is_settled (BadHeader at) u = inl tt
unfailed_is_settled (UnknownProtocol byte) u = inl tt
unfailed_is_settled (BadMessage byte at) u = inl tt
unfailed_is_settled (BadStream kind at) u = inl tt
unfailed_is_settled (TooLarge what at) u = inl tt
unfailed_is_settled (Truncated at) u = inl tt
unfailed_is_settled (NoSuchObject id) u = inl tt
unfailed_is_settled (NoSuchMethod operation hash) u = inl tt
unfailed_is_settled SpaceFull u = inl tt
unfailed_is_settled MessageLimit u = inl tt
unfailed_is_settled ReadFault u = absurd (u.source refl)
unfailed_is_settled (WriteFault sent) u = absurd (u.sink tt)
unfailed_is_settled OutOfMemory u = inr refl

pub whole_input_is_answered : WholeInputIsAnswered
whole_input_is_answered terms drawn c rest end opening sents dialogue unfailed whole finds =
    elim (unfailed_is_settled end unfailed) [
      | inl settled ↦ inl (settled_answers terms drawn c rest end opening sents dialogue settled whole finds)
      | inr none ↦ inr none
    ]

-- ---- connections

-- An end tells no failure where no count rose.
pub no_fault_unfailed : (read read2 : ReadHalf) (write write2 : WriteHalf) (end : ConnEnd) → (end ≡ ReadFault → Rose read.faults read2.faults) → (IsWriteFault end → Rose write.faults write2.faults)
    → NoFault read read2 write write2 → IsUnfailed end
no_fault_unfailed read read2 write write2 end reads writes none = record { source = (λ same. none.source (reads same)); sink = (λ same. none.sink (writes same)) }

-- A dialogue of an input that was told has answered it, where it is whole and its calls found their objects.
pub dialogue_completes : (terms : Terms) (drawn : ℕ) (before : Option (List ℕ)) (c : Transcript) (after : Option (List ℕ)) (end : ConnEnd) → before ≡ with_front c.taken after → Dialogue terms drawn c after end → IsUnfailed end
    → CompletesIn terms drawn before c after end
dialogue_completes terms drawn before c after end left dialogue unfailed opening sents input told whole finds =
    let (rest, is, taken) = front_told input c.taken after (sym told ∙ left) in
    let P : Option (List ℕ) → Type 0 = λ l. Dialogue terms drawn c l end in
    let Q : List ℕ → Type 0 = λ l. IsWholeInput terms.kinds opening sents l in
    elim (whole_input_is_answered terms drawn c rest end opening sents (subst P is dialogue) unfailed (subst Q taken whole) finds) [
      | inl (ended, none, answers) ↦ inl (ended, is ∙ ap Some none, answers)
      | inr memory ↦ inr memory
    ]

-- So has a connection that ended in it.
pub talked_completes : (may : Invocation → Outcome → Type 0) (moves : States → WorkerCall → States → Type 0) (terms : Terms) (start now : ConnectionState) (end : ConnEnd)
    → Talked may moves terms start now end → IsUnfailed end → Completes may moves terms start now end
talked_completes may moves terms start now end (c, talks) unfailed opening sents input more told whole asked finds =
    let R : List Asked → Type 0 = λ l. FindsAll l sents in
    let same : more ≡ flat_map entries c.acts = append_cancel_left start.side.asked more (flat_map entries c.acts) (sym asked ∙ talks.goes.led.asked) in
    elim (dialogue_completes terms start.drawn start.wires.left c now.wires.left end talks.goes.left talks.dialogue unfailed opening sents input told whole (subst R same finds)) [
      | inl (ended, left, answers) ↦ inl (ended, record { transcript = c; goes = talks.goes; answers = answers; left = left })
      | inr memory ↦ inr memory
    ]
