-- Which calls the entries of a call's turns begin and end.
use Rattle.std.proofs.Common.{◌≡◌, ℕ, ◌+◌, Bool, true, false, ◌&&◌, List, [], ◌∷◌, ◌++◌, length, Result, Ok, Err, if◌then◌else◌, refl, ap, sym, subst, ◌∙◌, arith, length-append}
use Rattle.std.specs.List.{flat_map, filter}
use Rattle.std.proofs.lemmas.List.Elements.{filter-append}
use Rattle.object_ids.specs.declared.ids.ObjId.{ObjId}
use Rattle.object_ids.specs.declared.ids.Uid.{Uid}
use Rattle.object_ids.specs.Same.{same_id}
use Rattle.object_ids.proofs.Exact.{same_id-self}
use Rattle.history.specs.declared.asks.Ask.{Ask}
use Rattle.history.specs.declared.asks.Ask.TheVariants.{Begin, Finish, Ack}
use Rattle.history.specs.declared.replies.Reply.{Reply}
use Rattle.history.specs.declared.replies.Reply.TheVariants.{Opened, Started, NoObject, Finished, NotRunning, Granted, Done, Bound, AlreadyBound, Unbound, NotBound, Found, Names}
use Rattle.history.specs.declared.replies.Turn.{Turn}
use Rattle.history.specs.declared.replies.Refused.{Refused}
use Rattle.history.specs.declared.replies.Refused.TheVariants.{HistoryFull, Full, OutOfMemory}
use Rattle.space.specs.declared.asked.Asked.{Asked}
use Rattle.space.specs.Entries.{entry_of}
use Rattle.space.specs.TurnAnswers.{IsReplyTo}
use Rattle.ports.specs.Ports.{begins, ends, Shows, is_finished, is_started, abandoned_at}
use Rattle.ports.specs.Balance.{calls_begun, calls_ended, Balanced}
use Rattle.call_dispatch.specs.Acts.{entries, acts_of, tells_of, abandon_act}
use Rattle.call_dispatch.specs.Served.{IsFinished}
use Rattle.call_dispatch.specs.Serving.{RunsOne}

abbrev pub one : Bool → ℕ
one b = if b then 1 else 0

pub filter_one : (p : Asked → Bool) (e : Asked) (b : Bool) → p e ≡ b → length (filter p (e ∷ [])) ≡ one b
filter_one p e true is = rw is refl
filter_one p e false is = rw is refl

begun_more : (xs ys : List Asked) (o : ObjId) → calls_begun (xs ++ ys) o ≡ calls_begun xs o + calls_begun ys o
begun_more xs ys o = ap length (filter-append (begins o) xs ys) ∙ length-append (filter (begins o) xs) (filter (begins o) ys)

ended_more : (xs ys : List Asked) (o : ObjId) → calls_ended (xs ++ ys) o ≡ calls_ended xs o + calls_ended ys o
ended_more xs ys o = ap length (filter-append (ends o) xs ys) ∙ length-append (filter (ends o) xs) (filter (ends o) ys)

and-true : (a b : Bool) → b ≡ true → (a && b) ≡ a
and-true true b is = is
and-true false b is = refl

and-false : (a b : Bool) → b ≡ false → (a && b) ≡ false
and-false true b is = is
and-false false b is = refl

-- A call of the object runs, and it shows.
pub runs_shows : (object : ObjId) (xs : List Asked) → RunsOne object xs → Shows xs object
runs_shows object xs runs =
    let same : one (same_id object object) ≡ 1 = ap one (same_id-self object) in
    omega (arith, runs object, same)

-- No call runs that would show.
pub balanced_quiet : (xs : List Asked) → Balanced xs → (o : ObjId) → Shows xs o → ⊥
balanced_quiet xs even o shows = omega (arith, even o, shows)

-- Entries that are balanced before and after are balanced in between.
pub balanced_more : (xs more now : List Asked) → now ≡ xs ++ more → Balanced xs → Balanced now → Balanced more
balanced_more xs more now is first last o =
    let all : calls_begun (xs ++ more) o ≡ calls_ended (xs ++ more) o = subst (λ (entries : List Asked). Balanced entries) is last o in
    omega (arith, first o, all, begun_more xs more o, ended_more xs more o)

-- ---- the entries of turns

tells_nothing : (gone : List ObjId) → flat_map entries (tells_of gone) ≡ []
tells_nothing [] = refl
tells_nothing (o ∷ gone) = tells_nothing gone

-- The entry of a turn that was taken.
pub turn_entries : (moment : ℕ) (ask : Ask) (turn : Turn) → flat_map entries (acts_of moment ask (Ok turn)) ≡ entry_of moment ask (Ok turn) ∷ []
turn_entries moment ask turn = ap (λ xs. entry_of moment ask (Ok turn) ∷ xs) (tells_nothing turn.gone)

-- More entries, of which each begins and ends so many calls.
even_more : (object : ObjId) (xs ys : List Asked) → RunsOne object xs → ((o : ObjId) → calls_begun ys o ≡ 0) → ((o : ObjId) → calls_ended ys o ≡ one (same_id object o)) → Balanced (xs ++ ys)
even_more object xs ys runs begun ended o = omega (arith, runs o, begun o, ended o, begun_more xs ys o, ended_more xs ys o)

pub runs_more : (object : ObjId) (xs ys : List Asked) → RunsOne object xs → ((o : ObjId) → calls_begun ys o ≡ 0) → ((o : ObjId) → calls_ended ys o ≡ 0) → RunsOne object (xs ++ ys)
runs_more object xs ys runs begun ended o = omega (arith, runs o, begun o, ended o, begun_more xs ys o, ended_more xs ys o)

pub runs_begun : (object : ObjId) (xs ys : List Asked) → Balanced xs → ((o : ObjId) → calls_begun ys o ≡ one (same_id object o)) → ((o : ObjId) → calls_ended ys o ≡ 0) → RunsOne object (xs ++ ys)
runs_begun object xs ys even begun ended o = omega (arith, even o, begun o, ended o, begun_more xs ys o, ended_more xs ys o)

pub even_on : (xs ys : List Asked) → Balanced xs → ((o : ObjId) → calls_begun ys o ≡ 0) → ((o : ObjId) → calls_ended ys o ≡ 0) → Balanced (xs ++ ys)
even_on xs ys even begun ended o = omega (arith, even o, begun o, ended o, begun_more xs ys o, ended_more xs ys o)

finished_is : (made : List ℕ) (reply : Reply) → IsFinished made reply → is_finished reply ≡ true
finished_is made (Finished objects) h = refl
finished_is made NotRunning h = absurd h
finished_is made (Opened o) h = absurd h
finished_is made (Started kind) h = absurd h
finished_is made NoObject h = absurd h
finished_is made (Granted duration) h = absurd h
finished_is made Done h = absurd h
finished_is made Bound h = absurd h
finished_is made AlreadyBound h = absurd h
finished_is made Unbound h = absurd h
finished_is made NotBound h = absurd h
finished_is made (Found o kind) h = absurd h
finished_is made (Names names) h = absurd h

-- A Finish was answered: no call runs then.
pub finish_balances : (object : ObjId) (made : List ℕ) (listed : List ObjId) (uid : Uid) (moment : ℕ) (turn : Turn) (xs : List Asked) → RunsOne object xs → IsFinished made turn.reply
    → Balanced (xs ++ flat_map entries (acts_of moment (Finish object made listed uid) (Ok turn)))
finish_balances object made listed uid moment turn xs runs is =
    let P : List Asked → Type 0 = λ ys. Balanced (xs ++ ys) in
    subst P (sym (turn_entries moment (Finish object made listed uid) turn)) (even_more object xs (entry_of moment (Finish object made listed uid) (Ok turn) ∷ []) runs (λ o. refl)
    (λ o. filter_one (ends o) (entry_of moment (Finish object made listed uid) (Ok turn)) (same_id object o) (and-true (same_id object o) (is_finished turn.reply) (finished_is made turn.reply is))))

-- A call was given up: none runs then.
pub give_up_balances : (object : ObjId) (moment place : ℕ) (xs : List Asked) → RunsOne object xs → Balanced (xs ++ flat_map entries (abandon_act moment object place ∷ []))
give_up_balances object moment place xs runs =
    even_more object xs (abandoned_at moment object place ∷ []) runs (λ o. refl) (λ o. filter_one (ends o) (abandoned_at moment object place) (same_id object o) refl)

-- A Finish that is refused begins and ends no call.
finish_begins : (object : ObjId) (made : List ℕ) (listed : List ObjId) (uid : Uid) (moment : ℕ) (refused : Refused) (o : ObjId) → calls_begun (flat_map entries (acts_of moment (Finish object made listed uid) (Err refused))) o ≡ 0
finish_begins object made listed uid moment HistoryFull o = refl
finish_begins object made listed uid moment (Full kind) o = refl
finish_begins object made listed uid moment OutOfMemory o = refl

finish_ends : (object : ObjId) (made : List ℕ) (listed : List ObjId) (uid : Uid) (moment : ℕ) (refused : Refused) (o : ObjId) → calls_ended (flat_map entries (acts_of moment (Finish object made listed uid) (Err refused))) o ≡ 0
finish_ends object made listed uid moment HistoryFull o = refl
finish_ends object made listed uid moment (Full kind) o = refl
finish_ends object made listed uid moment OutOfMemory o = refl

pub finish_refused : (object : ObjId) (made : List ℕ) (listed : List ObjId) (uid : Uid) (moment : ℕ) (refused : Refused) (xs : List Asked) → RunsOne object xs
    → RunsOne object (xs ++ flat_map entries (acts_of moment (Finish object made listed uid) (Err refused)))
finish_refused object made listed uid moment refused xs runs =
    runs_more object xs (flat_map entries (acts_of moment (Finish object made listed uid) (Err refused))) runs (finish_begins object made listed uid moment refused) (finish_ends object made listed uid moment refused)

-- A Begin was answered Started: the call runs.
pub begin_runs : (object : ObjId) (moment kind : ℕ) (turn : Turn) (xs : List Asked) → Balanced xs → turn.reply ≡ Started kind
    → RunsOne object (xs ++ flat_map entries (acts_of moment (Begin object) (Ok turn)))
begin_runs object moment kind turn xs even is =
    let started : is_started turn.reply ≡ true = ap is_started is in
    let P : List Asked → Type 0 = λ ys. RunsOne object (xs ++ ys) in
    subst P (sym (turn_entries moment (Begin object) turn)) (runs_begun object xs (entry_of moment (Begin object) (Ok turn) ∷ []) even
    (λ o. filter_one (begins o) (entry_of moment (Begin object) (Ok turn)) (same_id object o) (and-true (same_id object o) (is_started turn.reply) started)) (λ o. refl))

-- A Begin was answered that there is no such object: none runs.
pub begin_absent : (object : ObjId) (moment : ℕ) (turn : Turn) (xs : List Asked) → Balanced xs → turn.reply ≡ NoObject
    → Balanced (xs ++ flat_map entries (acts_of moment (Begin object) (Ok turn)))
begin_absent object moment turn xs even is =
    let started : is_started turn.reply ≡ false = ap is_started is in
    let P : List Asked → Type 0 = λ ys. Balanced (xs ++ ys) in
    subst P (sym (turn_entries moment (Begin object) turn)) (even_on xs (entry_of moment (Begin object) (Ok turn) ∷ []) even
    (λ o. filter_one (begins o) (entry_of moment (Begin object) (Ok turn)) false (and-false (same_id object o) (is_started turn.reply) started)) (λ o. refl))

begin_begins : (object : ObjId) (moment : ℕ) (refused : Refused) (o : ObjId) → calls_begun (flat_map entries (acts_of moment (Begin object) (Err refused))) o ≡ 0
begin_begins object moment HistoryFull o = refl
begin_begins object moment (Full kind) o = refl
begin_begins object moment OutOfMemory o = refl

begin_ends : (object : ObjId) (moment : ℕ) (refused : Refused) (o : ObjId) → calls_ended (flat_map entries (acts_of moment (Begin object) (Err refused))) o ≡ 0
begin_ends object moment HistoryFull o = refl
begin_ends object moment (Full kind) o = refl
begin_ends object moment OutOfMemory o = refl

-- A Begin was refused: none runs.
pub begin_refused : (object : ObjId) (moment : ℕ) (refused : Refused) (xs : List Asked) → Balanced xs → Balanced (xs ++ flat_map entries (acts_of moment (Begin object) (Err refused)))
begin_refused object moment refused xs even =
    even_on xs (flat_map entries (acts_of moment (Begin object) (Err refused))) even (begin_begins object moment refused) (begin_ends object moment refused)

-- A Finish of a call that runs is answered Finished.
pub finish_answered : (object : ObjId) (made : List ℕ) (listed : List ObjId) (uid : Uid) (xs : List Asked) (reply : Reply) → RunsOne object xs → IsReplyTo (Shows xs) (Finish object made listed uid) reply → IsFinished made reply
finish_answered object made listed uid xs (Finished objects) runs h = h
finish_answered object made listed uid xs NotRunning runs h = absurd (h (runs_shows object xs runs))
finish_answered object made listed uid xs (Opened o) runs h = absurd h
finish_answered object made listed uid xs (Started kind) runs h = absurd h
finish_answered object made listed uid xs NoObject runs h = absurd h
finish_answered object made listed uid xs (Granted duration) runs h = absurd h
finish_answered object made listed uid xs Done runs h = absurd h
finish_answered object made listed uid xs Bound runs h = absurd h
finish_answered object made listed uid xs AlreadyBound runs h = absurd h
finish_answered object made listed uid xs Unbound runs h = absurd h
finish_answered object made listed uid xs NotBound runs h = absurd h
finish_answered object made listed uid xs (Found o kind) runs h = absurd h
finish_answered object made listed uid xs (Names names) runs h = absurd h

-- An acknowledgement begins and ends no call.
ack_refused : (uid : Uid) (moment : ℕ) (refused : Refused) (o : ObjId) → (calls_begun (flat_map entries (acts_of moment (Ack uid) (Err refused))) o ≡ 0) × (calls_ended (flat_map entries (acts_of moment (Ack uid) (Err refused))) o ≡ 0)
ack_refused uid moment HistoryFull o = (refl, refl)
ack_refused uid moment (Full kind) o = (refl, refl)
ack_refused uid moment OutOfMemory o = (refl, refl)

pub ack_even : (uid : Uid) (moment : ℕ) (answer : Result Turn Refused) (xs : List Asked) → Balanced xs → Balanced (xs ++ flat_map entries (acts_of moment (Ack uid) answer))
ack_even uid moment (Ok turn) xs even =
    let P : List Asked → Type 0 = λ ys. Balanced (xs ++ ys) in
    subst P (sym (turn_entries moment (Ack uid) turn)) (even_on xs (entry_of moment (Ack uid) (Ok turn) ∷ []) even (λ o. refl) (λ o. refl))
ack_even uid moment (Err refused) xs even =
    even_on xs (flat_map entries (acts_of moment (Ack uid) (Err refused))) even (λ o. (ack_refused uid moment refused o).0) (λ o. (ack_refused uid moment refused o).1)

-- An acknowledgement is answered Done.
pub ack_answered : (uid : Uid) (xs : List Asked) (reply : Reply) → IsReplyTo (Shows xs) (Ack uid) reply → reply ≡ Done
ack_answered uid xs Done h = refl
ack_answered uid xs (Finished objects) h = absurd h
ack_answered uid xs NotRunning h = absurd h
ack_answered uid xs (Opened o) h = absurd h
ack_answered uid xs (Started kind) h = absurd h
ack_answered uid xs NoObject h = absurd h
ack_answered uid xs (Granted duration) h = absurd h
ack_answered uid xs Bound h = absurd h
ack_answered uid xs AlreadyBound h = absurd h
ack_answered uid xs Unbound h = absurd h
ack_answered uid xs NotBound h = absurd h
ack_answered uid xs (Found o kind) h = absurd h
ack_answered uid xs (Names names) h = absurd h
