-- Rows that were done and rows that were cut.
use Rattle.std.proofs.Common.{◌≡◌, ◌≢◌, ℕ, Bool, true, false, List, [], ◌∷◌, ◌++◌, Option, None, Result, Ok, Err, refl, ap, sym, subst, ◌∙◌, inl, inr, append_assoc, append-nil}
use Rattle.std.specs.List.{flat_map}
use Rattle.std.proofs.lemmas.Grind.{flat_map-append}
use Rattle.class_desc.specs.declared.field.TypeCode.{TypeCode}
use Rattle.object_ids.specs.declared.ids.ObjId.{ObjId}
use Rattle.object_ids.specs.declared.ids.Uid.{Uid}
use Rattle.history.specs.declared.replies.Refused.{Refused}
use Rattle.history.specs.declared.replies.Turn.{Turn}
use Rattle.history.specs.declared.replies.Refused.TheVariants as refusals
use Rattle.space.specs.declared.asked.Asked.{Asked}
use Rattle.ports.specs.Balance.{Balanced}
use Rattle.call_dispatch.specs.declared.end.ConnEnd.{ConnEnd}
use Rattle.call_dispatch.specs.declared.end.ConnEnd.TheVariants as ends
use Rattle.call_dispatch.specs.declared.outcome.Invocation.{Invocation}
use Rattle.call_dispatch.specs.declared.outcome.Outcome.{Outcome}
use Rattle.call_dispatch.specs.declared.outcome.Outcome.TheVariants.{Void, Prim, Tree, NewRemote, OldRemote, Fault, OutOfMemory}
use Rattle.call_dispatch.specs.declared.returns.Answer.{Answer}
use Rattle.call_dispatch.specs.Acts.{Act, Call, States, Observed, Led, lost, entries, acts_of, abandon_act}
use Rattle.call_dispatch.specs.Rows.{IsCut, IsFailed}
use Rattle.call_dispatch.specs.Results.{made_by, listed_by, finish_with, normal_return}
use Rattle.call_dispatch.specs.Returns.{fits, fault_message}
use Rattle.system_objects.specs.ReturnBytes.{fault_return, full}
use Rattle.call_dispatch.specs.Served.{Conclusion, finished, denied, faulted, conclusion_acts, IsFinished, IsGranted, IsConclusion}
use Rattle.call_dispatch.specs.Serving.{RunsOne, CutShort, Finishes, Concludes, IsDenied, IsPrepared}
use Rattle.system_objects.specs.Terms.{Terms}
use Rattle.call_dispatch.proofs.Going.{led_more}
use Rattle.call_dispatch.proofs.Balancing.{runs_shows, balanced_quiet, give_up_balances, finish_balances, finish_refused}

-- A row that was done whole, where no call runs then.
pub cut_whole : (shown : List Asked) (row : List Act) → Balanced (shown ++ flat_map entries row) → IsCut shown row row
cut_whole shown row even = record {
  front = row;
  later = [];
  fails = [];
  given_up = [];
  whole = sym (append-nil row);
  failing = refl;
  giving_up = balanced_quiet (shown ++ flat_map entries row) even;
  is = sym (append-nil row) ∙ ap (λ l. l ++ []) (sym (append-nil row));
}

-- A row that was cut before its first act, or at it, where a call runs.
pub cut_first : (object : ObjId) (moment place : ℕ) (shown : List Asked) (row fails : List Act) → RunsOne object shown → IsFailed row fails
    → IsCut shown row (fails ++ abandon_act moment object place ∷ [])
cut_first object moment place shown row fails runs failing = record {
  front = [];
  later = row;
  fails = fails;
  given_up = abandon_act moment object place ∷ [];
  whole = refl;
  failing = failing;
  giving_up = (let P : List Asked → Type 0 = λ xs. RunsOne object xs in
      (object, moment, place, runs_shows object (shown ++ []) (subst P (sym (append-nil shown)) runs), refl));
  is = refl;
}

-- A row that is cut after these acts.
pub cut_after : (shown : List Asked) (xs row acts : List Act) → IsCut (shown ++ flat_map entries xs) row acts → IsCut shown (xs ++ row) (xs ++ acts)
cut_after shown xs row acts h =
    let now : shown ++ flat_map entries (xs ++ h.front) ≡ (shown ++ flat_map entries xs) ++ flat_map entries h.front
    = ap (λ l. shown ++ l) (flat_map-append entries xs h.front) ∙ sym (append_assoc shown (flat_map entries xs) (flat_map entries h.front)) in
    record {
      front = xs ++ h.front;
      later = h.later;
      fails = h.fails;
      given_up = h.given_up;
      whole = ap (λ l. xs ++ l) h.whole ∙ sym (append_assoc xs h.front h.later);
      failing = h.failing;
      giving_up = rw now h.giving_up;
      is = ap (λ l. xs ++ l) h.is ∙ sym (append_assoc xs (h.front ++ h.fails) h.given_up) ∙ ap (λ l. l ++ h.given_up) (sym (append_assoc xs h.front h.fails));
    }

-- ---- finishing

denied_short : (may : Invocation → Outcome → Type 0) (moves : States → Call → States → Type 0) (object : ObjId) (uid : Uid) (outcome : Outcome) (listed : List ObjId) (a b c : Observed) (moment moment2 place : ℕ) (refused : Refused)
    → Led may moves a b (acts_of moment (finish_with object outcome listed uid) (Err refused)) → Led may moves b c (abandon_act moment2 object place ∷ [])
    → CutShort may moves a c object (conclusion_acts object uid outcome (denied (record { listed = listed; moment = moment; refused = refused; end_moment = moment2; place = place })))
denied_short may moves object uid outcome listed a b c moment moment2 place refused first then = record {
  acts = conclusion_acts object uid outcome (denied (record { listed = listed; moment = moment; refused = refused; end_moment = moment2; place = place }));
  led = led_more may moves a b c _ _ first then;
  cut = (λ shown runs.
      let turn : List Act = acts_of moment (finish_with object outcome listed uid) (Err refused) in
      let up : List Act = abandon_act moment2 object place ∷ [] in
      let now : shown ++ flat_map entries (turn ++ up) ≡ (shown ++ flat_map entries turn) ++ flat_map entries up
      = ap (λ l. shown ++ l) (flat_map-append entries turn up) ∙ sym (append_assoc shown (flat_map entries turn) (flat_map entries up)) in
      let even = give_up_balances object moment2 place (shown ++ flat_map entries turn) (finish_refused object (made_by outcome) listed uid moment refused shown runs) in
      let P : List Asked → Type 0 = λ xs. Balanced xs in
      cut_whole shown (turn ++ up) (subst P (sym now) even));
}

-- Finish was refused, and the call given up.
pub finishes_refused : (may : Invocation → Outcome → Type 0) (moves : States → Call → States → Type 0) (terms : Terms) (object : ObjId) (uid : Uid) (outcome : Outcome) (listed : List ObjId) (a b c : Observed) (moment moment2 place : ℕ) (refused : Refused) (result : Result Answer ConnEnd)
    → listed ≡ listed_by terms outcome → Led may moves a b (acts_of moment (finish_with object outcome listed uid) (Err refused)) → Led may moves b c (abandon_act moment2 object place ∷ [])
    → IsDenied uid refused result → Finishes may moves terms object uid outcome a c result
finishes_refused may moves terms object uid outcome listed a b c moment moment2 place refused (Ok answer) same first then (other, is, unclosed) =
    (denied (record { listed = listed; moment = moment; refused = refused; end_moment = moment2; place = place }), (same, other), led_more may moves a b c _ _ first then, is, unclosed)
finishes_refused may moves terms object uid outcome listed a b c moment moment2 place refusals.OutOfMemory (Err end) same first then memory = (
  memory,
  (
    denied (record { listed = listed; moment = moment; refused = refusals.HistoryFull; end_moment = moment2; place = place }),
    (same, (λ e. cc)),
    record {
      acts = lost moment ∷ abandon_act moment2 object place ∷ [];
      led = led_more may moves a b c (lost moment ∷ []) (abandon_act moment2 object place ∷ []) first then;
      cut = (λ shown runs. cut_first object moment2 place shown (conclusion_acts object uid outcome (denied (record { listed = listed; moment = moment; refused = refusals.HistoryFull; end_moment = moment2; place = place }))) (lost moment ∷ []) runs (inr refl));
    },
  ),
)
finishes_refused may moves terms object uid outcome listed a b c moment moment2 place refusals.HistoryFull (Err end) same first then memory =
    (memory, (denied (record { listed = listed; moment = moment; refused = refusals.HistoryFull; end_moment = moment2; place = place }), (same, (λ e. cc)), denied_short may moves object uid outcome listed a b c moment moment2 place refusals.HistoryFull first then))
finishes_refused may moves terms object uid outcome listed a b c moment moment2 place (refusals.Full kind) (Err end) same first then memory =
    (memory, (denied (record { listed = listed; moment = moment; refused = refusals.Full kind; end_moment = moment2; place = place }), (same, (λ e. cc)), denied_short may moves object uid outcome listed a b c moment moment2 place (refusals.Full kind) first then))

-- Finish was answered, and then its Return was there or there was no memory for it.
pub finishes_answered : (may : Invocation → Outcome → Type 0) (moves : States → Call → States → Type 0) (terms : Terms) (object : ObjId) (uid : Uid) (outcome : Outcome) (listed : List ObjId) (a b : Observed) (moment : ℕ) (turn : Turn) (result : Result Answer ConnEnd)
    → listed ≡ listed_by terms outcome → IsFinished (made_by outcome) turn.reply → Led may moves a b (acts_of moment (finish_with object outcome listed uid) (Ok turn))
    → IsPrepared (normal_return terms uid outcome turn.reply) None result → Finishes may moves terms object uid outcome a b result
finishes_answered may moves terms object uid outcome listed a b moment turn (Ok answer) same over led prepared =
    (finished (record { listed = listed; moment = moment; turn = turn; bytes = normal_return terms uid outcome turn.reply }), (same, over, refl), led, prepared.0, prepared.1)
finishes_answered may moves terms object uid outcome listed a b moment turn (Err end) same over led prepared = (
  prepared,
  (
    finished (record { listed = listed; moment = moment; turn = turn; bytes = normal_return terms uid outcome turn.reply }),
    (same, over, refl),
    record {
      acts = acts_of moment (finish_with object outcome listed uid) (Ok turn);
      led = led;
      cut = (λ shown runs. cut_whole shown (acts_of moment (finish_with object outcome listed uid) (Ok turn)) (finish_balances object (made_by outcome) listed uid moment turn shown runs over));
    },
  ),
)

-- ---- concluding

granted_concludes : (terms : Terms) (uid : Uid) (result_type : Option TypeCode) (outcome : Outcome) (c : Conclusion) → fits terms uid result_type outcome ≡ true → IsGranted terms uid outcome c → IsConclusion terms uid result_type outcome c
granted_concludes terms uid result_type outcome (finished fin) fit granted = (fit, granted)
granted_concludes terms uid result_type outcome (denied den) fit granted = (fit, granted)
granted_concludes terms uid result_type outcome (faulted up) fit granted = absurd granted

-- A call whose outcome fits is concluded as it is finished.
pub finish_concludes : (may : Invocation → Outcome → Type 0) (moves : States → Call → States → Type 0) (terms : Terms) (object : ObjId) (uid : Uid) (result_type : Option TypeCode) (outcome : Outcome) (a b : Observed) (result : Result Answer ConnEnd)
    → fits terms uid result_type outcome ≡ true → Finishes may moves terms object uid outcome a b result → Concludes may moves terms object uid result_type outcome a b result
finish_concludes may moves terms object uid result_type outcome a b (Ok answer) fit (c, granted, led, bytes_are, unclosed) =
    (c, granted_concludes terms uid result_type outcome c fit granted, led, bytes_are, unclosed)
finish_concludes may moves terms object uid result_type outcome a b (Err end) fit (memory, (c, granted, cut)) =
    (memory, inr (c, granted_concludes terms uid result_type outcome c fit granted, cut))

-- The outcome is a fault, or doesn't fit.
pub fault_concludes : (may : Invocation → Outcome → Type 0) (moves : States → Call → States → Type 0) (terms : Terms) (object : ObjId) (uid : Uid) (result_type : Option TypeCode) (outcome : Outcome) (a b : Observed) (moment place : ℕ) (answer : Answer)
    → fits terms uid result_type outcome ≡ false → outcome ≢ OutOfMemory → Led may moves a b (abandon_act moment object place ∷ []) → answer.bytes ≡ fault_return uid (fault_message uid outcome) → answer.close ≡ None
    → Concludes may moves terms object uid result_type outcome a b (Ok answer)
fault_concludes may moves terms object uid result_type outcome a b moment place answer unfit other led bytes_are unclosed = (faulted (record { moment = moment; place = place }), (unfit, other), led, bytes_are, unclosed)

-- Some conclusion may come of every outcome but the worker's want of memory.
concluded : (terms : Terms) (object : ObjId) (uid : Uid) (result_type : Option TypeCode) (outcome : Outcome) (b : Bool) → fits terms uid result_type outcome ≡ b → outcome ≢ OutOfMemory
    → (c : Conclusion) × IsConclusion terms uid result_type outcome c × IsFailed (conclusion_acts object uid outcome c) []
concluded terms object uid result_type outcome true fit other = (denied (record { listed = listed_by terms outcome; moment = 0; refused = refusals.HistoryFull; end_moment = 0; place = 0 }), (fit, (refl, (λ same. cc))), inl refl)
concluded terms object uid result_type outcome false fit other = (faulted (record { moment = 0; place = 0 }), (fit, other), inl refl)

abandoned_concludes : (may : Invocation → Outcome → Type 0) (moves : States → Call → States → Type 0) (terms : Terms) (object : ObjId) (uid : Uid) (result_type : Option TypeCode) (outcome : Outcome) (a b : Observed) (moment place : ℕ)
    → outcome ≢ OutOfMemory → Led may moves a b (abandon_act moment object place ∷ []) → Concludes may moves terms object uid result_type outcome a b (Err ends.OutOfMemory)
abandoned_concludes may moves terms object uid result_type outcome a b moment place other led =
    let (c, is, failing) = concluded terms object uid result_type outcome (fits terms uid result_type outcome) refl other in (
      refl,
      inr (
        c,
        is,
        record {
          acts = abandon_act moment object place ∷ [];
          led = led;
          cut = (λ shown runs. cut_first object moment place shown (conclusion_acts object uid outcome c) [] runs failing);
        },
      ),
    )

-- There was no memory for the Return, or the worker had none.
pub memory_concludes : (may : Invocation → Outcome → Type 0) (moves : States → Call → States → Type 0) (terms : Terms) (object : ObjId) (uid : Uid) (result_type : Option TypeCode) (outcome : Outcome) (a b : Observed) (moment place : ℕ)
    → Led may moves a b (abandon_act moment object place ∷ []) → Concludes may moves terms object uid result_type outcome a b (Err ends.OutOfMemory)
memory_concludes may moves terms object uid result_type Void a b moment place led = abandoned_concludes may moves terms object uid result_type Void a b moment place (λ same. cc) led
memory_concludes may moves terms object uid result_type (Prim value) a b moment place led = abandoned_concludes may moves terms object uid result_type (Prim value) a b moment place (λ same. cc) led
memory_concludes may moves terms object uid result_type (Tree graph) a b moment place led = abandoned_concludes may moves terms object uid result_type (Tree graph) a b moment place (λ same. cc) led
memory_concludes may moves terms object uid result_type (NewRemote kind) a b moment place led = abandoned_concludes may moves terms object uid result_type (NewRemote kind) a b moment place (λ same. cc) led
memory_concludes may moves terms object uid result_type (OldRemote old kind) a b moment place led = abandoned_concludes may moves terms object uid result_type (OldRemote old kind) a b moment place (λ same. cc) led
memory_concludes may moves terms object uid result_type (Fault message) a b moment place led = abandoned_concludes may moves terms object uid result_type (Fault message) a b moment place (λ same. cc) led
memory_concludes may moves terms object uid result_type OutOfMemory a b moment place led = (refl, inl (refl, (moment, place, led)))

-- What was told of a refused Finish.
pub told_denied : (uid : Uid) (refused : Refused) (result : Result Answer ConnEnd) → refused ≢ refusals.OutOfMemory → IsPrepared (fault_return uid (full refused)) None result → IsDenied uid refused result
told_denied uid refused (Ok answer) other prepared = (other, prepared.0, prepared.1)
told_denied uid refused (Err end) other prepared = prepared
