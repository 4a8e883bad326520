-- Turns and calls of the worker, one act after another.
use Rattle.std.proofs.Common.{◌≡◌, ℕ, ◌+◌, ◌<◌, List, [], ◌∷◌, ◌++◌, length, take, get_or, Option, Result, Ok, Err, refl, ap, sym, subst, ◌∙◌, append-nil, add-zero}
use Rattle.std.proofs.lemmas.List.{take_more, map-append}
use Rattle.wire_io.specs.Wire.{Gave, Gave-nothing}
use Rattle.object_ids.specs.declared.ids.ObjId.{ObjId}
use Rattle.object_ids.specs.declared.ids.Uid.{Uid}
use Rattle.history.specs.declared.asks.Ask.{Ask}
use Rattle.history.specs.declared.asks.Ask.TheVariants.{Finish}
use Rattle.history.specs.declared.replies.Turn.{Turn}
use Rattle.history.specs.declared.replies.Refused.{Refused}
use Rattle.history.specs.declared.replies.Refused.TheVariants.{HistoryFull, Full, OutOfMemory}
use Rattle.space.specs.declared.asked.Asked.{Asked}
use Rattle.space.specs.Entries.{entry_of}
use Rattle.ports.specs.Ports.{entries_of}
use Rattle.call_dispatch.specs.declared.outcome.Invocation.{Invocation}
use Rattle.call_dispatch.specs.declared.outcome.Outcome.{Outcome}
use Rattle.call_dispatch.specs.Results.{made_by, finish_with}
use Rattle.call_dispatch.specs.Acts.{Call, invokes, unreferenced, States, Act, asks, lost, called, TellsMore, LeadsStates, Observed, Led, tells_of, acts_of}
use Rattle.call_dispatch.proofs.Going.{led_more, tells_nothing, leads_nothing}

-- a turn with its entry
pub led_made : (may : Invocation → Outcome → Type 0) (moves : States → Call → States → Type 0) (a : Observed) (asked : List Asked) (given : Option (List ℕ)) (entry : Asked)
    → asked ≡ a.asked ++ entry ∷ [] → Gave a.given given (entry.moment ∷ []) → Led may moves a (record a { asked = asked; given = given }) (asks entry ∷ [])
led_made may moves a asked given entry is gave = record {
  asked = is;
  given = gave;
  invoked = sym (add-zero a.invoked);
  may_all = tt;
  seen = tells_nothing a.seen;
  state = leads_nothing moves a.state;
  number = refl;
}

-- a turn for which there was no memory
led_lost : (may : Invocation → Outcome → Type 0) (moves : States → Call → States → Type 0) (a : Observed) (asked : List Asked) (given : Option (List ℕ)) (moment : ℕ)
    → asked ≡ a.asked ++ [] → Gave a.given given (moment ∷ []) → Led may moves a (record a { asked = asked; given = given }) (lost moment ∷ [])
led_lost may moves a asked given moment is gave = record {
  asked = is;
  given = gave;
  invoked = sym (add-zero a.invoked);
  may_all = tt;
  seen = tells_nothing a.seen;
  state = leads_nothing moves a.state;
  number = refl;
}

-- The worker was told of an object.
pub led_told : (may : Invocation → Outcome → Type 0) (moves : States → Call → States → Type 0) (asked : List Asked) (given : Option (List ℕ)) (object : ObjId) (invoked invoked2 : ℕ) (seen seen2 : Option (List Call)) (state state2 : Option States) (number number2 : ℕ)
    → number2 ≡ number → invoked2 ≡ invoked → TellsMore seen (unreferenced object ∷ []) seen2 → LeadsStates moves state (unreferenced object ∷ []) state2
    → Led may moves (record { asked = asked; given = given; invoked = invoked; seen = seen; state = state; number = number }) (record { asked = asked; given = given; invoked = invoked2; seen = seen2; state = state2; number = number2 })
    (called (unreferenced object) ∷ [])
led_told may moves asked given object invoked invoked2 seen seen2 state state2 number number2 stays same tells leads = record {
  asked = sym (append-nil asked);
  given = Gave-nothing given;
  invoked = same ∙ sym (add-zero invoked);
  may_all = tt;
  seen = tells;
  state = leads;
  number = stays;
}

-- The worker was invoked.
pub led_invoked : (may : Invocation → Outcome → Type 0) (moves : States → Call → States → Type 0) (asked : List Asked) (given : Option (List ℕ)) (call : Invocation) (outcome : Outcome) (invoked invoked2 : ℕ) (seen seen2 : Option (List Call)) (state state2 : Option States) (number number2 : ℕ)
    → number2 ≡ number → invoked2 ≡ invoked + 1 → may call outcome → TellsMore seen (invokes call outcome ∷ []) seen2 → LeadsStates moves state (invokes call outcome ∷ []) state2
    → Led may moves (record { asked = asked; given = given; invoked = invoked; seen = seen; state = state; number = number }) (record { asked = asked; given = given; invoked = invoked2; seen = seen2; state = state2; number = number2 })
    (called (invokes call outcome) ∷ [])
led_invoked may moves asked given call outcome invoked invoked2 seen seen2 state state2 number number2 stays same allowed tells leads = record {
  asked = sym (append-nil asked);
  given = Gave-nothing given;
  invoked = same;
  may_all = (allowed, tt);
  seen = tells;
  state = leads;
  number = stays;
}

-- The worker was told of one more object.
pub led_told_more : (may : Invocation → Outcome → Type 0) (moves : States → Call → States → Type 0) (a b c : Observed) (gone : List ObjId) (i : ℕ) (default object : ObjId)
    → i < length gone → get_or gone i default ≡ object → Led may moves a b (tells_of (take i gone)) → Led may moves b c (called (unreferenced object) ∷ []) → Led may moves a c (tells_of (take (i + 1) gone))
led_told_more may moves a b c gone i default object inside here first then =
    let front : tells_of (take (i + 1) gone) ≡ tells_of (take i gone) ++ called (unreferenced object) ∷ []
    = ap tells_of (take_more gone i default inside) ∙ map-append (λ o. called (unreferenced o)) (take i gone) (get_or gone i default ∷ []) ∙ ap (λ o. tells_of (take i gone) ++ called (unreferenced o) ∷ []) here in
    rw front (led_more may moves a b c (tells_of (take i gone)) (called (unreferenced object) ∷ []) first then)

-- what is left to do once a turn was answered
abbrev pub Rest : (Invocation → Outcome → Type 0) → (States → Call → States → Type 0) → Observed → Observed → Result Turn Refused → Type 0
Rest may moves a b (Ok turn) = Led may moves a b (tells_of turn.gone)
Rest may moves a b (Err refused) = b ≡ a

led_from : (may : Invocation → Outcome → Type 0) (moves : States → Call → States → Type 0) (a b c : Observed) (acts : List Act) → Led may moves a b acts → c ≡ b → Led may moves a c acts
led_from may moves a b c acts led same = let P : Observed → Type 0 = λ s. Led may moves a s acts in subst P (sym same) led

-- The port answered, and the worker was told what is gone.
pub led_answer : (may : Invocation → Outcome → Type 0) (moves : States → Call → States → Type 0) (asked : List Asked) (given : Option (List ℕ)) (a b : Observed) (moment : ℕ) (ask : Ask) (answer : Result Turn Refused)
    → asked ≡ a.asked ++ entries_of moment ask answer → Gave a.given given (moment ∷ []) → Rest may moves (record a { asked = asked; given = given }) b answer → Led may moves a b (acts_of moment ask answer)
led_answer may moves asked given a b moment ask (Ok turn) is gave rest =
    led_more may moves a (record a { asked = asked; given = given }) b (asks (entry_of moment ask (Ok turn)) ∷ []) (tells_of turn.gone)
    (led_made may moves a asked given (entry_of moment ask (Ok turn)) is gave) rest
led_answer may moves asked given a b moment ask (Err HistoryFull) is gave rest =
    led_from may moves a (record a { asked = asked; given = given }) b _ (led_made may moves a asked given (entry_of moment ask (Err HistoryFull)) is gave) rest
led_answer may moves asked given a b moment ask (Err (Full kind)) is gave rest =
    led_from may moves a (record a { asked = asked; given = given }) b _ (led_made may moves a asked given (entry_of moment ask (Err (Full kind))) is gave) rest
led_answer may moves asked given a b moment ask (Err OutOfMemory) is gave rest =
    led_from may moves a (record a { asked = asked; given = given }) b _ (led_lost may moves a asked given moment is gave) rest

-- The same acts.
pub led_same : (may : Invocation → Outcome → Type 0) (moves : States → Call → States → Type 0) (a b : Observed) (xs ys : List Act) → xs ≡ ys → Led may moves a b xs → Led may moves a b ys
led_same may moves a b xs ys same led = let P : List Act → Type 0 = λ l. Led may moves a b l in subst P same led

-- A Finish that lists what an outcome makes.
pub finish_same : (moment : ℕ) (object : ObjId) (outcome : Outcome) (made : List ℕ) (listed : List ObjId) (uid : Uid) (answer : Result Turn Refused) → made ≡ made_by outcome
    → acts_of moment (Finish object made listed uid) answer ≡ acts_of moment (finish_with object outcome listed uid) answer
finish_same moment object outcome made listed uid answer same = ap (λ xs. acts_of moment (Finish object xs listed uid) answer) same
