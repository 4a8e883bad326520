-- Calls of the registry and the collector from their heads on.
use Rattle.std.proofs.Common.{◌≡◌, ◌≢◌, ℕ, ◌+◌, ◌≤◌, false, List, [], ◌∷◌, ◌++◌, None, Some, Result, Ok, Err, refl, sym, subst, inl, inr, arith, append-nil}
use Rattle.std.specs.List.{flat_map}
use Rattle.wire_io.specs.Pulled.{PullState, Takes}
use Rattle.object_ids.specs.declared.ids.ObjId.{ObjId}
use Rattle.object_ids.specs.declared.ids.Uid.{Uid}
use Rattle.history.specs.declared.asks.Ask.{Ask}
use Rattle.history.specs.declared.asks.Ask.TheVariants.{Open, Begin, Finish, Abandon, Dirty, Clean, Ack, Bind, Rebind, Unbind, Lookup, List as ListNames, Tick}
use Rattle.history.specs.declared.replies.Turn.{Turn}
use Rattle.history.specs.declared.replies.Refused.{Refused}
use Rattle.history.specs.declared.replies.Refused.TheVariants as refusals
use Rattle.space.specs.declared.asked.Asked.{Asked}
use Rattle.space.specs.declared.asked.AskedEnd.{AskedEnd}
use Rattle.space.specs.Entries.{entry_of, end_of}
use Rattle.space.specs.TurnAnswers.{IsAnswerTo}
use Rattle.ports.specs.Ports.{begins, ends, begins_with, ends_with, Shows}
use Rattle.ports.specs.Balance.{Balanced}
use Rattle.ser_read.specs.Wants.{Stand}
use Rattle.jrmp_frames.specs.declared.arguments.Arguments.{Arguments}
use Rattle.jrmp_frames.specs.declared.head.CallHead.{CallHead}
use Rattle.jrmp_frames.specs.Messages.{CallBytes}
use Rattle.jrmp_frames.specs.Calls.{ReadsHead}
use Rattle.system_objects.specs.declared.request.Rejection.{Rejection}
use Rattle.call_dispatch.specs.declared.end.ConnEnd.{ConnEnd}
use Rattle.call_dispatch.specs.declared.end.ConnEnd.TheVariants as conn
use Rattle.call_dispatch.specs.declared.outcome.Invocation.{Invocation}
use Rattle.call_dispatch.specs.declared.outcome.Outcome.{Outcome}
use Rattle.call_dispatch.specs.declared.returns.Answer.{Answer}
use Rattle.system_ids.specs.declared.methods.SystemMethod.{SystemMethod}
use Rattle.call_dispatch.specs.Acts.{Act, Call, States, Observed, Led, lost, entries, acts_of}
use Rattle.system_objects.specs.SystemRequests.{rejection_message, request_of, client_draws, IsQuiet}
use Rattle.system_objects.specs.ReturnBytes.{fault_return, no_method}
use Rattle.call_dispatch.specs.Rows.{IsCut, IsFailed}
use Rattle.call_dispatch.specs.Serving.{IsPrepared}
use Rattle.call_dispatch.specs.ServingSystem.{AsksTurn, AnswersRead, AnswersSystem}
use Rattle.system_objects.specs.SystemReturns.{answer_written}
use Rattle.call_dispatch.specs.Systems.{System, unknown, rejected, turned, system_acts, system_draws, drawn_at, IsSystem}
use Rattle.system_objects.specs.MethodByHead.{system_method}
use Rattle.system_ids.specs.SystemMethods.{params_of}
use Rattle.system_objects.specs.Terms.{Terms}
use Rattle.call_dispatch.proofs.Balancing.{filter_one, even_on, turn_entries, balanced_quiet}
use Rattle.call_dispatch.proofs.Calling.{head_ends}
use Rattle.call_dispatch.proofs.Cutting.{cut_whole}
use Rattle.call_dispatch.proofs.Going.{led_nothing}

-- ---- turns that begin and end no call

quiet_begins : (o : ObjId) (ask : Ask) (end : AskedEnd) → IsQuiet ask → begins_with o ask end ≡ false
quiet_begins o (Begin object) end quiet = absurd quiet
quiet_begins o (Finish object made listed uid) end quiet = absurd quiet
quiet_begins o (Abandon object) end quiet = absurd quiet
quiet_begins o (Open kind pinned) end quiet = refl
quiet_begins o (Dirty client number asked objects) end quiet = refl
quiet_begins o (Clean client number objects strong) end quiet = refl
quiet_begins o (Ack uid) end quiet = refl
quiet_begins o (Bind name object) end quiet = refl
quiet_begins o (Rebind name object) end quiet = refl
quiet_begins o (Unbind name) end quiet = refl
quiet_begins o (Lookup name uid) end quiet = refl
quiet_begins o ListNames end quiet = refl
quiet_begins o Tick end quiet = refl

quiet_ends : (o : ObjId) (ask : Ask) (end : AskedEnd) → IsQuiet ask → ends_with o ask end ≡ false
quiet_ends o (Begin object) end quiet = absurd quiet
quiet_ends o (Finish object made listed uid) end quiet = absurd quiet
quiet_ends o (Abandon object) end quiet = absurd quiet
quiet_ends o (Open kind pinned) end quiet = refl
quiet_ends o (Dirty client number asked objects) end quiet = refl
quiet_ends o (Clean client number objects strong) end quiet = refl
quiet_ends o (Ack uid) end quiet = refl
quiet_ends o (Bind name object) end quiet = refl
quiet_ends o (Rebind name object) end quiet = refl
quiet_ends o (Unbind name) end quiet = refl
quiet_ends o (Lookup name uid) end quiet = refl
quiet_ends o ListNames end quiet = refl
quiet_ends o Tick end quiet = refl

entry_even : (xs : List Asked) (moment : ℕ) (ask : Ask) (answer : Result Turn Refused) → IsQuiet ask → Balanced xs → Balanced (xs ++ entry_of moment ask answer ∷ [])
entry_even xs moment ask answer quiet even =
    even_on xs (entry_of moment ask answer ∷ []) even
    (λ o. filter_one (begins o) (entry_of moment ask answer) false (quiet_begins o ask (end_of answer) quiet))
    (λ o. filter_one (ends o) (entry_of moment ask answer) false (quiet_ends o ask (end_of answer) quiet))

-- Such a turn leaves the entries balanced.
pub turn_even : (ask : Ask) (moment : ℕ) (answer : Result Turn Refused) (xs : List Asked) → IsQuiet ask → Balanced xs → Balanced (xs ++ flat_map entries (acts_of moment ask answer))
turn_even ask moment (Ok turn) xs quiet even =
    let P : List Asked → Type 0 = λ ys. Balanced (xs ++ ys) in
    subst P (sym (turn_entries moment ask turn)) (entry_even xs moment ask (Ok turn) quiet even)
turn_even ask moment (Err refusals.HistoryFull) xs quiet even = entry_even xs moment ask (Err refusals.HistoryFull) quiet even
turn_even ask moment (Err (refusals.Full kind)) xs quiet even = entry_even xs moment ask (Err (refusals.Full kind)) quiet even
turn_even ask moment (Err refusals.OutOfMemory) xs quiet even = let P : List Asked → Type 0 = λ ys. Balanced ys in subst P (sym (append-nil xs)) even

-- ---- asking

-- A turn was taken, and its Return prepared.
pub turn_asked : (may : Invocation → Outcome → Type 0) (moves : States → Call → States → Type 0) (terms : Terms) (uid : Uid) (ask : Ask) (shown : List Asked) (moment : ℕ) (reply : Result Turn Refused) (a b : Observed) (answer : Answer)
    → IsAnswerTo (Shows shown) ask reply → reply ≢ Err refusals.OutOfMemory → Led may moves a b (acts_of moment ask reply) → answer.bytes ≡ answer_written terms uid ask reply → answer.close ≡ None
    → AsksTurn may moves terms uid ask a b (Ok answer)
turn_asked may moves terms uid ask shown moment reply a b answer answers other led bytes_are unclosed = (moment, reply, (other, (shown, answers)), led, bytes_are, unclosed)

-- A turn was taken, and there was no memory for its Return.
pub turn_untold : (may : Invocation → Outcome → Type 0) (moves : States → Call → States → Type 0) (terms : Terms) (uid : Uid) (ask : Ask) (shown : List Asked) (moment : ℕ) (reply : Result Turn Refused) (a b : Observed)
    → IsQuiet ask → IsAnswerTo (Shows shown) ask reply → reply ≢ Err refusals.OutOfMemory → Led may moves a b (acts_of moment ask reply) → AsksTurn may moves terms uid ask a b (Err conn.OutOfMemory)
turn_untold may moves terms uid ask shown moment reply a b quiet answers other led =
    (refl, (moment, reply, (other, (shown, answers)), (acts_of moment ask reply, led, cut_whole [] (acts_of moment ask reply) (turn_even ask moment reply [] quiet (λ o. refl)))))

-- There was no memory for the turn.
pub turn_lost : (may : Invocation → Outcome → Type 0) (moves : States → Call → States → Type 0) (terms : Terms) (uid : Uid) (ask : Ask) (moment : ℕ) (a b : Observed)
    → Led may moves a b (acts_of moment ask (Err refusals.OutOfMemory)) → AsksTurn may moves terms uid ask a b (Err conn.OutOfMemory)
turn_lost may moves terms uid ask moment a b led = (
  refl,
  (
    moment,
    Err refusals.HistoryFull,
    ((λ same. cc), ([], tt)),
    (
      lost moment ∷ [],
      led,
      record {
        front = [];
        later = acts_of moment ask (Err refusals.HistoryFull);
        fails = lost moment ∷ [];
        given_up = [];
        whole = refl;
        failing = inr refl;
        giving_up = balanced_quiet [] (λ o. refl);
        is = refl;
      },
    ),
  ),
)

-- ---- calls whose arguments were read

-- the acts of a row that was cut before all of them
cut_nothing : (row : List Act) → IsFailed row [] → IsCut [] row []
cut_nothing row failing = record { front = []; later = row; fails = []; given_up = []; whole = refl; failing = failing; giving_up = balanced_quiet [] (λ o. refl); is = refl }

-- Some row may come of every call that was read, which isn't begun yet.
record SomeRow (terms : Terms) (drawn : ℕ) (head : CallHead) (bytes : List ℕ) (method : SystemMethod) (arguments : Arguments) : Type 0 where
  uid : Uid
  s : System
  is : IsSystem terms drawn head bytes uid s
  failing : IsFailed (system_acts s) []
  draws : system_draws s ≡ client_draws method arguments + 1

some_row : (terms : Terms) (drawn : ℕ) (head : CallHead) (bytes : List ℕ) (method : SystemMethod) (arguments : Arguments) → system_method head ≡ Some method → CallBytes head (params_of method) arguments (0x50 ∷ bytes)
    → (r : Result Ask Rejection) → request_of terms method arguments (drawn_at terms drawn) (drawn_at terms (drawn + client_draws method arguments)) ≡ r → SomeRow terms drawn head bytes method arguments
some_row terms drawn head bytes method arguments known call (Ok ask) e =
    let uid : Uid = drawn_at terms (drawn + client_draws method arguments) in
    record {
      uid = uid;
      s = turned (record { method = method; arguments = arguments; ask = ask; moment = 0; answer = Err refusals.HistoryFull; written = answer_written terms uid ask (Err refusals.HistoryFull) });
      is = (known, call, refl, e, ((λ same. cc), ([], tt)), refl);
      failing = inl refl;
      draws = refl;
    }
some_row terms drawn head bytes method arguments known call (Err bar) e = record {
  uid = drawn_at terms (drawn + client_draws method arguments);
  s = rejected (record { method = method; arguments = arguments; rejection = bar });
  is = (known, call, refl, e);
  failing = refl;
  draws = refl;
}

-- There was no memory before anything was done but drawing.
pub read_unbegun : (may : Invocation → Outcome → Type 0) (moves : States → Call → States → Type 0) (terms : Terms) (head : CallHead) (bytes : List ℕ) (method : SystemMethod) (arguments : Arguments) (a : Observed) (drawn drew draws : ℕ)
    → system_method head ≡ Some method → CallBytes head (params_of method) arguments (0x50 ∷ bytes) → drew ≡ drawn + draws → draws ≤ client_draws method arguments + 1
    → AnswersRead may moves terms head bytes a a drawn drew (Err conn.OutOfMemory)
read_unbegun may moves terms head bytes method arguments a drawn drew draws known call drew_is most =
    let row = some_row terms drawn head bytes method arguments known call (request_of terms method arguments (drawn_at terms drawn) (drawn_at terms (drawn + client_draws method arguments))) refl in
    (refl, (row.uid, row.s, row.is, ([], led_nothing may moves a, cut_nothing (system_acts row.s) row.failing), (draws, drew_is, omega (arith, most, row.draws))))

-- The call is rejected.
pub read_barred : (may : Invocation → Outcome → Type 0) (moves : States → Call → States → Type 0) (terms : Terms) (head : CallHead) (bytes : List ℕ) (method : SystemMethod) (arguments : Arguments) (bar : Rejection) (uid : Uid) (a : Observed) (drawn drew : ℕ) (result : Result Answer ConnEnd)
    → system_method head ≡ Some method → CallBytes head (params_of method) arguments (0x50 ∷ bytes) → uid ≡ drawn_at terms (drawn + client_draws method arguments)
    → request_of terms method arguments (drawn_at terms drawn) uid ≡ Err bar → drew ≡ drawn + (client_draws method arguments + 1) → IsPrepared (fault_return uid (rejection_message bar)) None result
    → AnswersRead may moves terms head bytes a a drawn drew result
read_barred may moves terms head bytes method arguments bar uid a drawn drew (Ok answer) known call uid_is demands drew_is prepared =
    (uid, rejected (record { method = method; arguments = arguments; rejection = bar }), (known, call, uid_is, demands), led_nothing may moves a, drew_is, prepared.0, prepared.1)
read_barred may moves terms head bytes method arguments bar uid a drawn drew (Err end) known call uid_is demands drew_is prepared =
    let all : client_draws method arguments + 1 ≤ client_draws method arguments + 1 = omega arith in
    (prepared, (uid, rejected (record { method = method; arguments = arguments; rejection = bar }), (known, call, uid_is, demands), ([], led_nothing may moves a, cut_nothing [] refl), (client_draws method arguments + 1, drew_is, all)))

-- It is asked in one turn.
pub read_asked : (may : Invocation → Outcome → Type 0) (moves : States → Call → States → Type 0) (terms : Terms) (head : CallHead) (bytes : List ℕ) (method : SystemMethod) (arguments : Arguments) (ask : Ask) (uid : Uid) (a b : Observed) (drawn drew : ℕ) (result : Result Answer ConnEnd)
    → system_method head ≡ Some method → CallBytes head (params_of method) arguments (0x50 ∷ bytes) → uid ≡ drawn_at terms (drawn + client_draws method arguments)
    → request_of terms method arguments (drawn_at terms drawn) uid ≡ Ok ask → drew ≡ drawn + (client_draws method arguments + 1) → AsksTurn may moves terms uid ask a b result
    → AnswersRead may moves terms head bytes a b drawn drew result
read_asked may moves terms head bytes method arguments ask uid a b drawn drew (Ok answer) known call uid_is demands drew_is (moment, reply, turned_is, led, bytes_are, unclosed) =
    (uid, turned (record { method = method; arguments = arguments; ask = ask; moment = moment; answer = reply; written = answer_written terms uid ask reply }), (known, call, uid_is, demands, turned_is, refl), led, drew_is, bytes_are, unclosed)
read_asked may moves terms head bytes method arguments ask uid a b drawn drew (Err end) known call uid_is demands drew_is (memory, (moment, reply, turned_is, cut)) =
    let all : client_draws method arguments + 1 ≤ client_draws method arguments + 1 = omega arith in
    (memory, (uid, turned (record { method = method; arguments = arguments; ask = ask; moment = moment; answer = reply; written = answer_written terms uid ask reply }), (known, call, uid_is, demands, turned_is, refl), cut, (client_draws method arguments + 1, drew_is, all)))

-- ---- calls whose head was read

-- There is no such method.
pub unknown_answers : (may : Invocation → Outcome → Type 0) (moves : States → Call → States → Type 0) (terms : Terms) (head : CallHead) (first now : PullState) (stand : Stand) (a : Observed) (drawn drew : ℕ) (result : Result Answer ConnEnd)
    → system_method head ≡ None → ReadsHead first now head stand → drew ≡ drawn + 1 → IsPrepared (fault_return (drawn_at terms drawn) no_method) (Some (conn.NoSuchMethod head.operation head.hash)) result
    → AnswersSystem may moves terms head first now a a drawn drew result
unknown_answers may moves terms head first now stand a drawn drew (Ok answer) none reads drew_is prepared =
    let (bytes, takes, whole) = head_ends first now head stand reads in
    (bytes, takes, (drawn_at terms drawn, unknown, (whole, none, refl), led_nothing may moves a, drew_is, prepared.0, prepared.1))
unknown_answers may moves terms head first now stand a drawn drew (Err end) none reads drew_is prepared =
    let (bytes, takes, whole) = head_ends first now head stand reads in
    let all : 1 ≤ 1 = omega arith in
    inl (bytes, takes, (prepared, (drawn_at terms drawn, unknown, (whole, none, refl), ([], led_nothing may moves a, cut_nothing [] refl), (1, drew_is, all))))

-- The arguments were read.
pub read_answers : (may : Invocation → Outcome → Type 0) (moves : States → Call → States → Type 0) (terms : Terms) (head : CallHead) (bytes : List ℕ) (first now : PullState) (a b : Observed) (drawn drew : ℕ) (result : Result Answer ConnEnd)
    → Takes first now bytes → AnswersRead may moves terms head bytes a b drawn drew result → AnswersSystem may moves terms head first now a b drawn drew result
read_answers may moves terms head bytes first now a b drawn drew (Ok answer) takes answers = (bytes, takes, answers)
read_answers may moves terms head bytes first now a b drawn drew (Err end) takes answers = inl (bytes, takes, answers)
