-- A call of the registry or the collector is answered in one way: its bytes and what the outside hands in decide how; and where it ends, it isn't answered.
use Rattle.std.proofs.Common.{◌≡◌, ◌≢◌, true, false, true≢false, ℕ, ◌+◌, ◌≤◌, ◌⊎◌, inl, inr, List, [], ◌∷◌, ◌++◌, length, drop, Option, None, Some, Result, Ok, Err, refl, ap, sym, subst, ◌∙◌, arith, append_assoc, append-nil, length-append}
use Rattle.class_desc.specs.declared.field.TypeCode.{TypeCode}
use Rattle.class_desc.specs.declared.slot.Item.TheVariants as items
use Rattle.stream_grammar.specs.Spelled.{joined}
use Rattle.stream_grammar.specs.Reading.{magic_at}
use Rattle.ser_read.specs.declared.serving.Want.{Want}
use Rattle.ser_read.specs.declared.serving.Want.TheVariants as wanted
use Rattle.ser_read.specs.Wants.{nothing_read, serve_to_close, wants_at}
use Rattle.ser_read.specs.Heading.{inside_block}
use Rattle.ser_read.proofs.Served.{want_ok}
use Rattle.ser_read.proofs.Given.{asked_complete}
use Rattle.object_ids.specs.declared.ids.Uid.{Uid}
use Rattle.history.specs.declared.asks.Ask.{Ask}
use Rattle.history.specs.declared.replies.Turn.{Turn}
use Rattle.history.specs.declared.replies.Refused.{Refused}
use Rattle.history.specs.declared.replies.Refused.TheVariants as refusals
use Rattle.space.specs.Entries.{end_of}
use Rattle.jrmp_frames.specs.declared.arguments.Arguments.{Arguments}
use Rattle.jrmp_frames.specs.declared.head.CallHead.{CallHead}
use Rattle.jrmp_frames.specs.declared.code.Code.TheVariants.{Call}
use Rattle.jrmp_frames.specs.Frames.{code_byte}
use Rattle.jrmp_frames.specs.Messages.{head_bytes, wants_of, CallBytes}
use Rattle.jrmp_frames.specs.Calls.{head_at}
use Rattle.ser_read.proofs.InOrder.{Whole}
use Rattle.jrmp_frames.proofs.Calls.{headed, head_then}
use Rattle.jrmp_frames.proofs.CallLaws.{call_is_one}
use Rattle.system_objects.specs.declared.book.Kind.{Kind}
use Rattle.system_objects.specs.declared.request.Rejection.{Rejection}
use Rattle.system_objects.proofs.SystemAsks.{asked, asked_same, refused}
use Rattle.call_dispatch.specs.declared.end.ConnEnd.{ConnEnd}
use Rattle.system_ids.specs.declared.methods.SystemMethod.{SystemMethod}
use Rattle.call_dispatch.specs.End.{IsSettled}
use Rattle.call_dispatch.specs.Acts.{acts_of}
use Rattle.system_objects.specs.SystemRequests.{request_of, client_draws}
use Rattle.call_dispatch.specs.Inside.{BreaksAt}
use Rattle.call_dispatch.specs.Served.{FitsHead, AtHead, served_acts, IsServed}
use Rattle.call_dispatch.specs.ConnectionState.{Transcript, bytes_taken}
use Rattle.system_objects.specs.SystemReturns.{answer_written}
use Rattle.call_dispatch.specs.Systems.{System, unknown, rejected, turned, system_acts, drawn_at, IsSystem}
use Rattle.system_ids.specs.SystemIds.{is_system}
use Rattle.system_objects.specs.MethodByHead.{system_method}
use Rattle.system_ids.specs.SystemMethods.{params_of}
use Rattle.system_objects.specs.Terms.{Terms}
use Rattle.ser_values.specs.declared.limits.TheConstants.{MESSAGE_BYTES}
use Rattle.call_dispatch.specs.Dialogue.{EndsInHead, EndsInArguments, EndsInSystem}
use Rattle.call_dispatch.specs.Tape.{OutsideAnswer, turn_answer, tape}
use Rattle.call_dispatch.proofs.HeadReads.{head_given, one_front, same_head, Begins, call_begins}
use Rattle.call_dispatch.proofs.Breaks.{same_behind, breaks_one, breaks_read, breaks_within}
use Rattle.call_dispatch.proofs.Tapes.{turn_alone}
use Rattle.call_dispatch.proofs.CallsOne.{served_begins, begin_same, front_same, arguments_same, head_unread, head_not_served, head_behind, in_call_one, in_call_not_served}

-- ---- one way

pub system_begins : (terms : Terms) (drawn : ℕ) (head : CallHead) (bytes : List ℕ) (uid : Uid) (s : System) → IsSystem terms drawn head bytes uid s → Begins head bytes
system_begins terms drawn head bytes uid unknown ((left, heading), none, is) = record { front = bytes; left = left; more = []; is = sym (append-nil bytes); heading = heading }
system_begins terms drawn head bytes uid (rejected rej) (known, call, is, e) = call_begins head (params_of rej.method) rej.arguments bytes call
system_begins terms drawn head bytes uid (turned took) (known, call, is, e, fits, ws) = call_begins head (params_of took.method) took.arguments bytes call

abbrev some_method : SystemMethod → Option SystemMethod
some_method method = Some method

method_same : (a b : SystemMethod) → some_method a ≡ some_method b → a ≡ b
method_same a b e = cc

no_method : (a : SystemMethod) → some_method a ≡ None → ⊥
no_method a e = cc

-- Two Calls of one head that were read are one.
read_same : (head : CallHead) (method method2 : SystemMethod) (arguments arguments2 : Arguments) (bytes bytes2 rest rest2 : List ℕ) → system_method head ≡ Some method → system_method head ≡ Some method2
    → CallBytes head (params_of method) arguments (0x50 ∷ bytes) → CallBytes head (params_of method2) arguments2 (0x50 ∷ bytes2) → bytes ++ rest ≡ bytes2 ++ rest2
    → (method ≡ method2) × (arguments ≡ arguments2) × (bytes ≡ bytes2)
read_same head method method2 a a2 bytes bytes2 rest rest2 known known2 call call2 input =
    let methods : method ≡ method2 = method_same method method2 (sym known ∙ known2) in
    let P : SystemMethod → Type 0 = λ m. CallBytes head (params_of m) a2 (0x50 ∷ bytes2) in
    let same = call_is_one (params_of method) head head a a2 (0x50 ∷ bytes) (0x50 ∷ bytes2) rest rest2 call (subst P (sym methods) call2) (ap (λ (l : List ℕ). 0x50 ∷ l) input) in
    (methods, arguments_same a a2 same.2 same.3 same.4, ap (drop 1) same.0)

-- One method with one list of arguments asks for one thing.
demanded_same : (terms : Terms) (drawn : ℕ) (m m2 : SystemMethod) (a a2 : Arguments) (uid uid2 : Uid) (r r2 : Result Ask Rejection) → m ≡ m2 → a ≡ a2
    → uid ≡ drawn_at terms (drawn + client_draws m a) → uid2 ≡ drawn_at terms (drawn + client_draws m2 a2)
    → request_of terms m a (drawn_at terms drawn) uid ≡ r → request_of terms m2 a2 (drawn_at terms drawn) uid2 ≡ r2 → (uid ≡ uid2) × (r ≡ r2)
demanded_same terms drawn m m2 a a2 uid uid2 r r2 ms args is is2 e e2 =
    let uids : uid ≡ uid2 = is ∙ ap (λ x. drawn_at terms (drawn + client_draws x a)) ms ∙ ap (λ x. drawn_at terms (drawn + client_draws m2 x)) args ∙ sym is2 in
    let demands : request_of terms m a (drawn_at terms drawn) uid ≡ request_of terms m2 a2 (drawn_at terms drawn) uid2 =
    ap (λ x. request_of terms x a (drawn_at terms drawn) uid) ms ∙ ap (λ x. request_of terms m2 x (drawn_at terms drawn) uid) args ∙ ap (λ x. request_of terms m2 a2 (drawn_at terms drawn) x) uids in
    (uids, sym e ∙ demands ∙ e2)

-- what the outside hands in at a turn
abbrev turn_ticks : ℕ → Result Turn Refused → List OutsideAnswer
turn_ticks moment answer = turn_answer moment (end_of answer) ∷ []

turned_tape : (ask : Ask) (moment : ℕ) (answer : Result Turn Refused) → answer ≢ Err refusals.OutOfMemory → tape (acts_of moment ask answer) ≡ turn_ticks moment answer
turned_tape ask moment (Ok turn) other = turn_alone moment ask turn
turned_tape ask moment (Err refusals.HistoryFull) other = refl
turned_tape ask moment (Err (refusals.Full kind)) other = refl
turned_tape ask moment (Err refusals.OutOfMemory) other = absurd (other refl)

ticks_one : (m m2 : ℕ) (a a2 : Result Turn Refused) (t t2 : List OutsideAnswer) → turn_ticks m a ++ t ≡ turn_ticks m2 a2 ++ t2 → (m ≡ m2) × (a ≡ a2) × (t ≡ t2)
ticks_one m m2 (Ok turn) (Ok turn2) t t2 same = ((cc), (cc), (cc))
ticks_one m m2 (Ok turn) (Err refusal) t t2 same = absurd (cc)
ticks_one m m2 (Err refusal) (Ok turn) t t2 same = absurd (cc)
ticks_one m m2 (Err refusal) (Err refusal2) t t2 same = ((cc), (cc), (cc))

barred_same : (m m2 : SystemMethod) (a a2 : Arguments) (b b2 : Rejection) → m ≡ m2 → a ≡ a2 → b ≡ b2 → rejected (record { method = m; arguments = a; rejection = b }) ≡ rejected (record { method = m2; arguments = a2; rejection = b2 })
barred_same m m2 a a2 b b2 ms args bs = λ i. rejected (record { method = ms i; arguments = args i; rejection = bs i })

turned_same : (m m2 : SystemMethod) (a a2 : Arguments) (k k2 : Ask) (x x2 : ℕ) (r r2 : Result Turn Refused) (w w2 : List ℕ) → m ≡ m2 → a ≡ a2 → k ≡ k2 → x ≡ x2 → r ≡ r2 → w ≡ w2 → turned (record { method = m; arguments = a; ask = k; moment = x; answer = r; written = w }) ≡ turned (record { method = m2; arguments = a2; ask = k2; moment = x2; answer = r2; written = w2 })
turned_same m m2 a a2 k k2 x x2 r r2 w w2 ms args ks xs rs ws =
    λ i. turned (record { method = ms i; arguments = args i; ask = ks i; moment = xs i; answer = rs i; written = ws i })

refused_same : (a b : Rejection) → refused a ≡ refused b → a ≡ b
refused_same a b e = cc

not_refused : (ask : Ask) (bar : Rejection) → asked ask ≡ refused bar → ⊥
not_refused ask bar e = cc

abbrev OneSystem : Uid → Uid → System → System → List ℕ → List ℕ → List OutsideAnswer → List OutsideAnswer → Type 0
OneSystem uid uid2 s s2 bytes bytes2 t t2 = (uid ≡ uid2) × (s ≡ s2) × (bytes ≡ bytes2) × (t ≡ t2)

-- A Call of one head is answered in one way.
pub system_one : (terms : Terms) (drawn : ℕ) (head : CallHead) (bytes bytes2 : List ℕ) (uid uid2 : Uid) (s s2 : System) (rest rest2 : List ℕ) (t t2 : List OutsideAnswer) → IsSystem terms drawn head bytes uid s → IsSystem terms drawn head bytes2 uid2 s2
    → bytes ++ rest ≡ bytes2 ++ rest2 → tape (system_acts s) ++ t ≡ tape (system_acts s2) ++ t2 → OneSystem uid uid2 s s2 bytes bytes2 t t2
system_one terms drawn head bytes bytes2 uid uid2 unknown unknown rest rest2 t t2 ((left, a), none, is) ((left2, b), none2, is2) input ticking =
    (is ∙ sym is2, refl, front_same head bytes bytes2 rest rest2 left left2 a b input, ticking)
system_one terms drawn head bytes bytes2 uid uid2 unknown (rejected rej2) rest rest2 t t2 (h, none, is) (known2, call2, is2, e2) input ticking = absurd (no_method rej2.method (sym known2 ∙ none))
system_one terms drawn head bytes bytes2 uid uid2 unknown (turned took2) rest rest2 t t2 (h, none, is) (known2, call2, is2, e2, fits2, ws2) input ticking = absurd (no_method took2.method (sym known2 ∙ none))
system_one terms drawn head bytes bytes2 uid uid2 (rejected rej) unknown rest rest2 t t2 (known, call, is, e) (h, none, is2) input ticking = absurd (no_method rej.method (sym known ∙ none))
system_one terms drawn head bytes bytes2 uid uid2 (turned took) unknown rest rest2 t t2 (known, call, is, e, fits, ws) (h, none, is2) input ticking = absurd (no_method took.method (sym known ∙ none))
system_one terms drawn head bytes bytes2 uid uid2 (rejected rej) (rejected rej2) rest rest2 t t2 (known, call, is, e) (known2, call2, is2, e2) input ticking =
    let read = read_same head rej.method rej2.method rej.arguments rej2.arguments bytes bytes2 rest rest2 known known2 call call2 input in
    let same = demanded_same terms drawn rej.method rej2.method rej.arguments rej2.arguments uid uid2 (refused rej.rejection) (refused rej2.rejection) read.0 read.1 is is2 e e2 in
    (same.0, barred_same rej.method rej2.method rej.arguments rej2.arguments rej.rejection rej2.rejection read.0 read.1 (refused_same rej.rejection rej2.rejection same.1), read.2, ticking)
system_one terms drawn head bytes bytes2 uid uid2 (rejected rej) (turned took2) rest rest2 t t2 (known, call, is, e) (known2, call2, is2, e2, fits2, ws2) input ticking =
    let read = read_same head rej.method took2.method rej.arguments took2.arguments bytes bytes2 rest rest2 known known2 call call2 input in
    let same = demanded_same terms drawn rej.method took2.method rej.arguments took2.arguments uid uid2 (refused rej.rejection) (asked took2.ask) read.0 read.1 is is2 e e2 in
    absurd (not_refused took2.ask rej.rejection (sym same.1))
system_one terms drawn head bytes bytes2 uid uid2 (turned took) (rejected rej2) rest rest2 t t2 (known, call, is, e, fits, ws) (known2, call2, is2, e2) input ticking =
    let read = read_same head took.method rej2.method took.arguments rej2.arguments bytes bytes2 rest rest2 known known2 call call2 input in
    let same = demanded_same terms drawn took.method rej2.method took.arguments rej2.arguments uid uid2 (asked took.ask) (refused rej2.rejection) read.0 read.1 is is2 e e2 in
    absurd (not_refused took.ask rej2.rejection same.1)
system_one terms drawn head bytes bytes2 uid uid2 (turned took) (turned took2) rest rest2 t t2 (known, call, is, e, (other, fits), ws) (known2, call2, is2, e2, (other2, fits2), ws2) input ticking =
    let read = read_same head took.method took2.method took.arguments took2.arguments bytes bytes2 rest rest2 known known2 call call2 input in
    let same = demanded_same terms drawn took.method took2.method took.arguments took2.arguments uid uid2 (asked took.ask) (asked took2.ask) read.0 read.1 is is2 e e2 in
    let ask_same : took.ask ≡ took2.ask = asked_same took.ask took2.ask same.1 in
    let handed : turn_ticks took.moment took.answer ++ t ≡ turn_ticks took2.moment took2.answer ++ t2 =
    ap (λ (l : List OutsideAnswer). l ++ t) (sym (turned_tape took.ask took.moment took.answer other)) ∙ ticking ∙ ap (λ (l : List OutsideAnswer). l ++ t2) (turned_tape took2.ask took2.moment took2.answer other2) in
    let told = ticks_one took.moment took2.moment took.answer took2.answer t t2 handed in
    let written : took.written ≡ took2.written = ws ∙ ap (λ x. answer_written terms x took.ask took.answer) same.0 ∙ ap (λ x. answer_written terms uid2 x took.answer) ask_same ∙ ap (λ x. answer_written terms uid2 took2.ask x) told.1 ∙ sym ws2 in
    (same.0, turned_same took.method took2.method took.arguments took2.arguments took.ask took2.ask took.moment took2.moment took.answer took2.answer took.written took2.written read.0 read.1 ask_same told.0 told.1 written, read.2, told.2)

-- A Call is answered in one way, by one head.
pub system_exchange_one : (terms : Terms) (drawn : ℕ) (head head2 : CallHead) (bytes bytes2 : List ℕ) (uid uid2 : Uid) (s s2 : System) (rest rest2 : List ℕ) (t t2 : List OutsideAnswer) → FitsHead head → FitsHead head2
    → IsSystem terms drawn head bytes uid s → IsSystem terms drawn head2 bytes2 uid2 s2 → bytes ++ rest ≡ bytes2 ++ rest2 → tape (system_acts s) ++ t ≡ tape (system_acts s2) ++ t2
    → (head ≡ head2) × OneSystem uid uid2 s s2 bytes bytes2 t t2
system_exchange_one terms drawn head head2 bytes bytes2 uid uid2 s s2 rest rest2 t t2 fits fits2 is is2 input ticking =
    let heads : head ≡ head2 = begin_same head head2 bytes bytes2 rest rest2 fits fits2 (system_begins terms drawn head bytes uid s is) (system_begins terms drawn head2 bytes2 uid2 s2 is2) input in
    let P : CallHead → Type 0 = λ h. IsSystem terms drawn h bytes2 uid2 s2 in
    (heads, system_one terms drawn head bytes bytes2 uid uid2 s s2 rest rest2 t t2 is (subst P (sym heads) is2) input ticking)

-- One head isn't of the two objects and of another.
pub heads_differ : (head head2 : CallHead) → head ≡ head2 → is_system head.id ≡ true → is_system head2.id ≡ false → ⊥
heads_differ head head2 same own other = true≢false (sym own ∙ ap (λ (h : CallHead). is_system h.id) same ∙ other)

-- A Call that is served is none of the two objects.
pub system_not_served : (terms : Terms) (drawn : ℕ) (head head2 : CallHead) (bytes bytes2 : List ℕ) (uid uid2 : Uid) (s : System) (s2 : AtHead) (rest rest2 : List ℕ) → FitsHead head → FitsHead head2
    → is_system head.id ≡ true → is_system head2.id ≡ false → IsSystem terms drawn head bytes uid s → IsServed terms head2 bytes2 uid2 s2 → bytes ++ rest ≡ bytes2 ++ rest2 → ⊥
system_not_served terms drawn head head2 bytes bytes2 uid uid2 s s2 rest rest2 fits fits2 own other is is2 input =
    heads_differ head head2 (begin_same head head2 bytes bytes2 rest rest2 fits fits2 (system_begins terms drawn head bytes uid s is) (served_begins terms head2 bytes2 uid2 s2 is2) input) own other

-- ---- what is read behind a head

-- what a stream gives for all that a call wants
abbrev call_wants : List TypeCode → List Want
call_wants params = wanted.Bytes 34 ∷ wants_of params

behind_magic : (n : ℕ) (ws : List Want) (bytes : List ℕ) → wants_at n ws (0xAC ∷ 0xED ∷ 0x00 ∷ 0x05 ∷ bytes) ≡ serve_to_close n ws nothing_read bytes
unfolding wants_at magic_at
behind_magic n ws bytes = refl

-- The arguments of a Call are read behind its head, whatever comes behind them.
pub arguments_read : (head : CallHead) (params : List TypeCode) (arguments : Arguments) (bytes : List ℕ) (b : Begins head bytes) (n : ℕ) (r : List ℕ) → CallBytes head params arguments (0x50 ∷ bytes)
    → (y : Whole) × (serve_to_close n (wants_of params) (inside_block (head_bytes head) b.left) (b.more ++ r) ≡ Ok y)
arguments_read head params arguments bytes b n r call =
    let y : Whole = (items.Bytes (head_bytes head) ∷ call.answers, arguments.graph.nodes, joined (items.Bytes (head_bytes head) ∷ call.answers), r) in
    let inside : bytes ++ r ≡ 0xAC ∷ 0xED ∷ 0x00 ∷ 0x05 ∷ (call.contents ++ r) = ap (λ (l : List ℕ). drop 1 l ++ r) call.headed in
    let whole : wants_at n (call_wants params) (bytes ++ r) ≡ Ok y =
    ap (λ (l : List ℕ). wants_at n (call_wants params) l) inside ∙ behind_magic n (call_wants params) (call.contents ++ r)
    ∙ asked_complete n (call_wants params) (items.Bytes (head_bytes head) ∷ call.answers) arguments.graph.nodes call.contents r call.asked in
    let parts : bytes ++ r ≡ b.front ++ (b.more ++ r) = ap (λ (l : List ℕ). l ++ r) b.is ∙ append_assoc b.front b.more r in
    let then = head_then n (wants_of params) (b.front ++ (b.more ++ r)) (head_bytes head) (b.more ++ r) (inside_block (head_bytes head) b.left) (head_given n head b.front b.left (b.more ++ r) b.heading) in
    let read : headed (head_bytes head) (serve_to_close n (wants_of params) (inside_block (head_bytes head) b.left) (b.more ++ r)) ≡ Ok y = sym then ∙ ap (λ (l : List ℕ). wants_at n (call_wants params) l) (sym parts) ∙ whole in
    let x = want_ok (serve_to_close n (wants_of params) (inside_block (head_bytes head) b.left) (b.more ++ r)) (λ (y : Whole). Ok (items.Bytes (head_bytes head) ∷ y.0, y.1, y.2, y.3)) y read in
    (x.0, x.1)

-- ---- ends in a Call

abbrev pub InAnyCall : List Kind → ℕ → Transcript → List ℕ → ConnEnd → Type 0
InAnyCall kinds at tail rest end = EndsInHead at tail (Some rest) end ⊎ (EndsInArguments kinds at tail (Some rest) end ⊎ EndsInSystem at tail (Some rest) end)

-- what is read behind a head, of the arguments of a method
abbrev SystemBreak : ℕ → List ℕ → ConnEnd → CallHead → List ℕ → ℕ → SystemMethod → List ℕ → Type 0
SystemBreak at rest end head front left method more =
    BreaksAt (λ last. serve_to_close last (wants_of (params_of method)) (inside_block (head_bytes head) left)) (at + 1 + length front) (at + MESSAGE_BYTES) more (Some rest) end

-- what comes behind the code
pub system_behind : (at : ℕ) (tail : Transcript) (rest more2 rest2 : List ℕ) (end : ConnEnd) (a : EndsInSystem at tail (Some rest) end) → tail.taken ++ rest ≡ code_byte Call ∷ (more2 ++ rest2) → (a.front ++ a.more) ++ rest ≡ more2 ++ rest2
system_behind at tail rest more2 rest2 end a input = ap (drop 1) (sym (ap (λ (c : Transcript). c.taken ++ rest) a.tail_is) ∙ input)

pub begins_so : (at : ℕ) (tail : Transcript) (rest : List ℕ) (end : ConnEnd) (a : EndsInSystem at tail (Some rest) end) → Begins a.head (a.front ++ a.more)
begins_so at tail rest end a = record { front = a.front; left = a.left; more = a.more; is = refl; heading = a.heading }

-- Reading ends in a head or behind it, not both.
head_or_system : (at : ℕ) (more rest : List ℕ) (tail2 : Transcript) (rest2 : List ℕ) (end end2 : ConnEnd) → BreaksAt head_at (at + 1) (at + MESSAGE_BYTES) more (Some rest) end → IsSettled end
    → (a : EndsInSystem at tail2 (Some rest2) end2) → IsSettled end2 → more ++ rest ≡ (a.front ++ a.more) ++ rest2 → ⊥
head_or_system at more rest tail2 rest2 end end2 breaks settled a settled2 input =
    let whole : (a.front ++ a.more) ++ rest2 ≡ a.front ++ (a.more ++ rest2) = append_assoc a.front a.more rest2 in
    head_unread at more rest a.front (a.more ++ rest2) end a.head a.left breaks settled a.heading
    (breaks_within (λ last. serve_to_close last (wants_of (params_of a.method)) (inside_block (head_bytes a.head) a.left)) (at + 1 + length a.front) (at + MESSAGE_BYTES) a.more rest2 end2 a.breaks settled2)
    (sym whole ∙ sym input)

-- Reading ends in the arguments of such a Call in one way.
system_ends_one : (at : ℕ) (tail tail2 : Transcript) (rest rest2 : List ℕ) (end end2 : ConnEnd) → (a : EndsInSystem at tail (Some rest) end) → IsSettled end → (b : EndsInSystem at tail2 (Some rest2) end2) → IsSettled end2
    → tail.taken ++ rest ≡ tail2.taken ++ rest2 → (end ≡ end2) × (tail ≡ tail2)
system_ends_one at tail tail2 rest rest2 end end2 a settled b settled2 input =
    let behind : (a.front ++ a.more) ++ rest ≡ (b.front ++ b.more) ++ rest2 = system_behind at tail rest (b.front ++ b.more) rest2 end a (input ∙ ap (λ (c : Transcript). c.taken ++ rest2) b.tail_is) in
    let parts : a.front ++ (a.more ++ rest) ≡ b.front ++ (b.more ++ rest2) = sym (append_assoc a.front a.more rest) ∙ behind ∙ append_assoc b.front b.more rest2 in
    let same = one_front a.head b.head a.front b.front (a.more ++ rest) (b.more ++ rest2) a.left b.left a.heading b.heading parts in
    let heads : a.head ≡ b.head = same_head a.head b.head a.numbers b.numbers same.0 in
    let methods : a.method ≡ b.method = method_same a.method b.method (sym a.known ∙ ap system_method heads ∙ b.known) in
    let R : SystemMethod → Type 0 = λ x. SystemBreak at rest2 end2 b.head b.front b.left x b.more in
    let S : ℕ → Type 0 = λ x. SystemBreak at rest2 end2 b.head b.front x a.method b.more in
    let T : List ℕ → Type 0 = λ x. SystemBreak at rest2 end2 b.head x a.left a.method b.more in
    let U : CallHead → Type 0 = λ x. SystemBreak at rest2 end2 x a.front a.left a.method b.more in
    let breaks : SystemBreak at rest2 end2 a.head a.front a.left a.method b.more = subst U (sym heads) (subst T (sym same.2) (subst S (sym same.1) (subst R (sym methods) b.breaks))) in
    let one = breaks_one (λ last. serve_to_close last (wants_of (params_of a.method)) (inside_block (head_bytes a.head) a.left)) (at + 1 + length a.front) (at + MESSAGE_BYTES) a.more b.more rest rest2 end end2
    a.breaks settled breaks settled2 same.3 in
    (one.0, a.tail_is ∙ ap (λ (l : List ℕ). bytes_taken (code_byte Call ∷ l ++ a.more)) same.2 ∙ ap (λ (l : List ℕ). bytes_taken (code_byte Call ∷ b.front ++ l)) one.1 ∙ sym b.tail_is)

-- Reading doesn't end in the arguments of a Call that was read whole.
pub system_not_read : (at : ℕ) (tail : Transcript) (rest : List ℕ) (end : ConnEnd) (method : SystemMethod) (arguments : Arguments) (bytes xs : List ℕ) → (a : EndsInSystem at tail (Some rest) end) → IsSettled end
    → 1 + length bytes ≤ MESSAGE_BYTES → system_method a.head ≡ Some method → CallBytes a.head (params_of method) arguments (0x50 ∷ bytes) → (a.front ++ a.more) ++ rest ≡ bytes ++ xs → ⊥
system_not_read at tail rest end method arguments bytes xs a settled few known call input =
    let methods : method ≡ a.method = method_same method a.method (sym known ∙ a.known) in
    let P : SystemMethod → Type 0 = λ m. CallBytes a.head (params_of m) arguments (0x50 ∷ bytes) in
    let mine : CallBytes a.head (params_of a.method) arguments (0x50 ∷ bytes) = subst P methods call in
    let b = call_begins a.head (params_of a.method) arguments bytes mine in
    let parts : a.front ++ (a.more ++ rest) ≡ b.front ++ (b.more ++ xs) = sym (append_assoc a.front a.more rest) ∙ input ∙ ap (λ (l : List ℕ). l ++ xs) b.is ∙ append_assoc b.front b.more xs in
    let same = one_front a.head a.head a.front b.front (a.more ++ rest) (b.more ++ xs) a.left b.left a.heading b.heading parts in
    let long : length bytes ≡ length b.front + length b.more = ap (λ (l : List ℕ). length l) b.is ∙ length-append b.front b.more in
    let fronts : length a.front ≡ length b.front = ap (λ (l : List ℕ). length l) same.2 in
    let Q : ℕ → Type 0 = λ k. SystemBreak at rest end a.head a.front k a.method a.more in
    breaks_read (λ last. serve_to_close last (wants_of (params_of a.method)) (inside_block (head_bytes a.head) b.left)) (at + 1 + length a.front) (at + MESSAGE_BYTES) a.more rest b.more xs end (subst Q same.1 a.breaks) settled
    (λ n r. arguments_read a.head (params_of a.method) arguments bytes b n r mine) (omega (arith, few, long, fronts)) (sym same.3)

-- Nor in those of a Call that is answered.
system_not_answered : (terms : Terms) (drawn at : ℕ) (tail : Transcript) (rest : List ℕ) (end : ConnEnd) (head : CallHead) (bytes : List ℕ) (uid : Uid) (s : System) (xs : List ℕ) → (a : EndsInSystem at tail (Some rest) end) → IsSettled end
    → head ≡ a.head → 1 + length bytes ≤ MESSAGE_BYTES → IsSystem terms drawn head bytes uid s → (a.front ++ a.more) ++ rest ≡ bytes ++ xs → ⊥
system_not_answered terms drawn at tail rest end head bytes uid unknown xs a settled heads few (h, none, is) input = no_method a.method (sym a.known ∙ ap system_method (sym heads) ∙ none)
system_not_answered terms drawn at tail rest end head bytes uid (rejected rej) xs a settled heads few (known, call, is, e) input =
    let P : CallHead → Type 0 = λ h. CallBytes h (params_of rej.method) rej.arguments (0x50 ∷ bytes) in
    system_not_read at tail rest end rej.method rej.arguments bytes xs a settled few (ap system_method (sym heads) ∙ known) (subst P heads call) input
system_not_answered terms drawn at tail rest end head bytes uid (turned took) xs a settled heads few (known, call, is, e, fits, ws) input =
    let P : CallHead → Type 0 = λ h. CallBytes h (params_of took.method) took.arguments (0x50 ∷ bytes) in
    system_not_read at tail rest end took.method took.arguments bytes xs a settled few (ap system_method (sym heads) ∙ known) (subst P heads call) input

abbrev OneEnd : ConnEnd → ConnEnd → Transcript → Transcript → List ℕ → List ℕ → Type 0
OneEnd end end2 tail tail2 rest rest2 = (end ≡ end2) × (tail ≡ tail2) × (rest ≡ rest2)

-- Reading doesn't end in the arguments of a Call of the two objects and of another.
objects_differ : (kinds : List Kind) (at : ℕ) (tail tail2 : Transcript) (rest rest2 : List ℕ) (end end2 : ConnEnd) → (a : EndsInSystem at tail (Some rest) end) → (b : EndsInArguments kinds at tail2 (Some rest2) end2)
    → tail.taken ++ rest ≡ tail2.taken ++ rest2 → ⊥
objects_differ kinds at tail tail2 rest rest2 end end2 a b input =
    let other : Begins b.head (b.front ++ b.more) = record { front = b.front; left = b.left; more = b.more; is = refl; heading = b.heading } in
    let behind = system_behind at tail rest (b.front ++ b.more) rest2 end a (input ∙ ap (λ (c : Transcript). c.taken ++ rest2) b.tail_is) in
    heads_differ a.head b.head (begin_same a.head b.head (a.front ++ a.more) (b.front ++ b.more) rest rest2 a.numbers b.numbers (begins_so at tail rest end a) other behind) a.own b.other

-- Reading ends in a Call in one way.
pub in_any_one : (kinds : List Kind) (at : ℕ) (tail tail2 : Transcript) (rest rest2 : List ℕ) (end end2 : ConnEnd) (t t2 : List OutsideAnswer) → InAnyCall kinds at tail rest end → IsSettled end → InAnyCall kinds at tail2 rest2 end2 → IsSettled end2
    → tail.taken ++ rest ≡ tail2.taken ++ rest2 → tape tail.acts ++ t ≡ tape tail2.acts ++ t2 → (end ≡ end2) × (tail ≡ tail2) × (rest ≡ rest2)
in_any_one kinds at tail tail2 rest rest2 end end2 t t2 (inl a) settled (inl b) settled2 input ticking = in_call_one kinds at tail tail2 rest rest2 end end2 t t2 (inl a) settled (inl b) settled2 input ticking
in_any_one kinds at tail tail2 rest rest2 end end2 t t2 (inl a) settled (inr (inl b)) settled2 input ticking = in_call_one kinds at tail tail2 rest rest2 end end2 t t2 (inl a) settled (inr b) settled2 input ticking
in_any_one kinds at tail tail2 rest rest2 end end2 t t2 (inr (inl a)) settled (inl b) settled2 input ticking = in_call_one kinds at tail tail2 rest rest2 end end2 t t2 (inr a) settled (inl b) settled2 input ticking
in_any_one kinds at tail tail2 rest rest2 end end2 t t2 (inr (inl a)) settled (inr (inl b)) settled2 input ticking = in_call_one kinds at tail tail2 rest rest2 end end2 t t2 (inr a) settled (inr b) settled2 input ticking
in_any_one kinds at tail tail2 rest rest2 end end2 t t2 (inl (more, is, breaks)) settled (inr (inr b)) settled2 input ticking =
    absurd (head_or_system at more rest tail2 rest2 end end2 breaks settled b settled2 (head_behind at tail rest (b.front ++ b.more) rest2 end (more, is, breaks) (input ∙ ap (λ (c : Transcript). c.taken ++ rest2) b.tail_is)))
in_any_one kinds at tail tail2 rest rest2 end end2 t t2 (inr (inr a)) settled (inl (more2, is2, breaks2)) settled2 input ticking =
    absurd (head_or_system at more2 rest2 tail rest end2 end breaks2 settled2 a settled (head_behind at tail2 rest2 (a.front ++ a.more) rest end2 (more2, is2, breaks2) (sym input ∙ ap (λ (c : Transcript). c.taken ++ rest) a.tail_is)))
in_any_one kinds at tail tail2 rest rest2 end end2 t t2 (inr (inl a)) settled (inr (inr b)) settled2 input ticking = absurd (objects_differ kinds at tail2 tail rest2 rest end2 end b a (sym input))
in_any_one kinds at tail tail2 rest rest2 end end2 t t2 (inr (inr a)) settled (inr (inl b)) settled2 input ticking = absurd (objects_differ kinds at tail tail2 rest rest2 end end2 a b input)
in_any_one kinds at tail tail2 rest rest2 end end2 t t2 (inr (inr a)) settled (inr (inr b)) settled2 input ticking =
    let one = system_ends_one at tail tail2 rest rest2 end end2 a settled b settled2 input in
    (one.0, one.1, same_behind tail.taken tail2.taken rest rest2 (ap (λ (c : Transcript). c.taken) one.1) input)

-- Reading doesn't end in a Call that is served.
pub in_any_not_served : (terms : Terms) (at : ℕ) (tail : Transcript) (rest : List ℕ) (end : ConnEnd) (head : CallHead) (bytes : List ℕ) (uid : Uid) (s : AtHead) (xs : List ℕ) (t u : List OutsideAnswer)
    → InAnyCall terms.kinds at tail rest end → IsSettled end → is_system head.id ≡ false → FitsHead head → 1 + length bytes ≤ MESSAGE_BYTES → IsServed terms head bytes uid s
    → tail.taken ++ rest ≡ code_byte Call ∷ (bytes ++ xs) → tape tail.acts ++ t ≡ tape (served_acts head uid s) ++ u → ⊥
in_any_not_served terms at tail rest end head bytes uid s xs t u (inl a) settled other fits few legal input ticking = in_call_not_served terms at tail rest end head bytes uid s xs t u (inl a) settled fits few legal input ticking
in_any_not_served terms at tail rest end head bytes uid s xs t u (inr (inl a)) settled other fits few legal input ticking = in_call_not_served terms at tail rest end head bytes uid s xs t u (inr a) settled fits few legal input ticking
in_any_not_served terms at tail rest end head bytes uid s xs t u (inr (inr a)) settled other fits few legal input ticking =
    let behind = system_behind at tail rest bytes xs end a input in
    heads_differ a.head head (begin_same a.head head (a.front ++ a.more) bytes rest xs a.numbers fits (begins_so at tail rest end a) (served_begins terms head bytes uid s legal) behind) a.own other

-- Nor in a Call of the registry or the collector that is answered.
pub in_any_not_answered : (terms : Terms) (drawn at : ℕ) (tail : Transcript) (rest : List ℕ) (end : ConnEnd) (head : CallHead) (bytes : List ℕ) (uid : Uid) (s : System) (xs : List ℕ)
    → InAnyCall terms.kinds at tail rest end → IsSettled end → is_system head.id ≡ true → FitsHead head → 1 + length bytes ≤ MESSAGE_BYTES → IsSystem terms drawn head bytes uid s
    → tail.taken ++ rest ≡ code_byte Call ∷ (bytes ++ xs) → ⊥
in_any_not_answered terms drawn at tail rest end head bytes uid s xs (inl (more, is, breaks)) settled own fits few legal input =
    head_not_served at more rest bytes xs end head breaks settled (system_begins terms drawn head bytes uid s legal) few (head_behind at tail rest bytes xs end (more, is, breaks) input)
in_any_not_answered terms drawn at tail rest end head bytes uid s xs (inr (inl a)) settled own fits few legal input =
    let mine : Begins a.head (a.front ++ a.more) = record { front = a.front; left = a.left; more = a.more; is = refl; heading = a.heading } in
    let behind : (a.front ++ a.more) ++ rest ≡ bytes ++ xs = ap (drop 1) (sym (ap (λ (c : Transcript). c.taken ++ rest) a.tail_is) ∙ input) in
    heads_differ head a.head (sym (begin_same a.head head (a.front ++ a.more) bytes rest xs a.numbers fits mine (system_begins terms drawn head bytes uid s legal) behind)) own a.other
in_any_not_answered terms drawn at tail rest end head bytes uid s xs (inr (inr a)) settled own fits few legal input =
    let behind = system_behind at tail rest bytes xs end a input in
    let heads : a.head ≡ head = begin_same a.head head (a.front ++ a.more) bytes rest xs a.numbers fits (begins_so at tail rest end a) (system_begins terms drawn head bytes uid s legal) behind in
    system_not_answered terms drawn at tail rest end head bytes uid s xs a settled (sym heads) few legal behind
