-- Calls from their heads on.
use Rattle.std.proofs.Common.{◌≡◌, ℕ, false, List, [], ◌∷◌, ◌++◌, slice_get, Option, None, Some, Result, Ok, Err, refl, sym, subst, inl, inr, append-nil}
use Rattle.std.specs.List.{flat_map}
use Rattle.wire_io.specs.Pulled.{PullState, Takes}
use Rattle.class_desc.specs.declared.field.TypeCode.{TypeCode}
use Rattle.method_hash.specs.declared.method.Method.{Method}
use Rattle.object_ids.specs.declared.ids.Uid.{Uid}
use Rattle.history.specs.declared.asks.Ask.TheVariants.{Begin}
use Rattle.history.specs.declared.replies.Reply.TheVariants.{Started}
use Rattle.history.specs.declared.replies.Turn.{Turn}
use Rattle.history.specs.declared.replies.Refused.TheVariants as refusals
use Rattle.space.specs.declared.asked.Asked.{Asked}
use Rattle.ports.specs.Balance.{Balanced}
use Rattle.ser_read.specs.Wants.{Stand}
use Rattle.jrmp_frames.specs.declared.arguments.Arguments.{Arguments}
use Rattle.jrmp_frames.specs.declared.head.CallHead.{CallHead}
use Rattle.jrmp_frames.specs.Calls.{ReadsHead, TakesCall}
use Rattle.call_dispatch.specs.declared.end.ConnEnd.{ConnEnd}
use Rattle.call_dispatch.specs.declared.end.ConnEnd.TheVariants as ends
use Rattle.call_dispatch.specs.declared.outcome.Invocation.{Invocation}
use Rattle.call_dispatch.specs.declared.outcome.Outcome.{Outcome}
use Rattle.call_dispatch.specs.declared.outcome.Outcome.TheVariants.{Fault, OutOfMemory}
use Rattle.call_dispatch.specs.declared.returns.Answer.{Answer}
use Rattle.call_dispatch.specs.Acts.{Act, Call, States, Observed, Led, called, invokes, lost, entries, acts_of, abandon_act}
use Rattle.system_objects.specs.Book.{methods_of}
use Rattle.call_dispatch.specs.Returns.{fits}
use Rattle.system_objects.specs.ReturnBytes.{fault_return, no_method}
use Rattle.call_dispatch.specs.Served.{IsHeadOf, faulted, conclusion_acts, unknown, ran, invocation_of, running_acts, IsMethodOf, HasNoMethod, AtHead, refused, begun, served_acts, served_written, served_closes, IsServed}
use Rattle.system_objects.specs.Terms.{Terms}
use Rattle.call_dispatch.specs.Serving.{RunsOne, Concludes, IsPrepared, RunsOn, Answers}
use Rattle.call_dispatch.proofs.Going.{led_more}
use Rattle.call_dispatch.proofs.Balancing.{balanced_quiet, give_up_balances, begin_runs}
use Rattle.call_dispatch.proofs.Cutting.{cut_whole, cut_first, cut_after}
use Rattle.call_dispatch.proofs.HeadEnds.{head_stands}

-- What was taken of a head ends with it.
pub head_ends : (first now : PullState) (head : CallHead) (stand : Stand) → ReadsHead first now head stand → (bytes : List ℕ) × Takes first now bytes × IsHeadOf head bytes
head_ends first now head stand reads = let (left, ends, is) = head_stands first now head stand reads in (reads.taken, reads.takes, (left, ends))

-- ---- running calls

-- The kind has no such method: the call was given up, and the client told so.
pub unknown_runs : (may : Invocation → Outcome → Type 0) (moves : States → Call → States → Type 0) (terms : Terms) (uid : Uid) (head : CallHead) (kind : ℕ) (first now : PullState) (stand : Stand) (a b : Observed) (drawn drew : ℕ) (moment place : ℕ) (result : Result Answer ConnEnd)
    → HasNoMethod terms.kinds kind head → ReadsHead first now head stand → Led may moves a b (abandon_act moment head.id place ∷ [])
    → IsPrepared (fault_return uid no_method) (Some (ends.NoSuchMethod head.operation head.hash)) result → RunsOn may moves terms uid head kind first now a b drawn drew result
unknown_runs may moves terms uid head kind first now stand a b drawn drew moment place (Ok answer) none reads led prepared =
    let (bytes, takes, whole) = head_ends first now head stand reads in
    (unknown (record { moment = moment; place = place }), bytes, takes, (whole, none), led, prepared.0, prepared.1)
unknown_runs may moves terms uid head kind first now stand a b drawn drew moment place (Err end) none reads led prepared =
    let (bytes, takes, whole) = head_ends first now head stand reads in
    inl (
      prepared,
      (
        unknown (record { moment = moment; place = place }),
        bytes,
        takes,
        (whole, none),
        record {
          acts = abandon_act moment head.id place ∷ [];
          led = led;
          cut = (λ shown runs. cut_whole shown (abandon_act moment head.id place ∷ []) (give_up_balances head.id moment place shown runs));
        },
      ),
    )

no_fault : (terms : Terms) (uid : Uid) (result_type : Option TypeCode) (message : List ℕ) → fits terms uid result_type (Fault message) ≡ false
no_fault terms uid None message = refl
no_fault terms uid (Some code) message = refl

-- The worker was invoked, and then the call was concluded.
pub ran_runs : (may : Invocation → Outcome → Type 0) (moves : States → Call → States → Type 0) (terms : Terms) (uid : Uid) (head : CallHead) (kind place : ℕ) (method : Method) (arguments : Arguments) (outcome : Outcome) (first now : PullState) (a b c : Observed) (drawn drew : ℕ) (result : Result Answer ConnEnd)
    → IsMethodOf terms.kinds kind head place → slice_get (methods_of terms.kinds kind) place ≡ Some method → TakesCall first now head method.params arguments
    → Led may moves a b (called (invokes (invocation_of head.id kind place arguments) outcome) ∷ []) → Concludes may moves terms head.id uid method.result outcome b c result
    → RunsOn may moves terms uid head kind first now a c drawn drew result
ran_runs may moves terms uid head kind place method arguments outcome first now a b c drawn drew (Ok answer) known here takes invoked (con, is, led, bytes, close) = (
  ran (record { place = place; arguments = arguments; outcome = outcome }) con,
  takes.message,
  takes.takes,
  (known, (method, here, takes.call, is)),
  led_more may moves a b c (called (invokes (invocation_of head.id kind place arguments) outcome) ∷ []) (conclusion_acts head.id uid outcome con) invoked led,
  bytes,
  close,
)
ran_runs may moves terms uid head kind place method arguments outcome first now a b c drawn drew (Err end) known here takes invoked (memory, how) = inl (
  memory,
  elim how [
    | inl (none, (moment, at, up)) ↦ (let inv : Invocation = invocation_of head.id kind place arguments in
        let led : Led may moves a b (called (invokes inv OutOfMemory) ∷ []) = rw none at invoked in (
          ran (record { place = place; arguments = arguments; outcome = Fault [] }) (faulted (record { moment = moment; place = at })),
          takes.message,
          takes.takes,
          (known, (method, here, takes.call, (no_fault terms uid method.result [], (λ same. cc)))),
          record {
            acts = called (invokes inv OutOfMemory) ∷ abandon_act moment head.id at ∷ [];
            led = led_more may moves a b c (called (invokes inv OutOfMemory) ∷ []) (abandon_act moment head.id at ∷ []) led up;
            cut = (λ shown runs. cut_first head.id moment at shown (running_acts head uid kind (ran (record { place = place; arguments = arguments; outcome = Fault [] }) (faulted (record { moment = moment; place = at })))) (called (invokes inv OutOfMemory) ∷ []) runs (inr refl));
          },
        ))
    | inr (con, is, short) ↦ (let call : Act = called (invokes (invocation_of head.id kind place arguments) outcome) in (
      ran (record { place = place; arguments = arguments; outcome = outcome }) con,
      takes.message,
      takes.takes,
      (known, (method, here, takes.call, is)),
      record {
        acts = call ∷ short.acts;
        led = led_more may moves a b c (call ∷ []) short.acts invoked short.led;
        cut = (λ shown runs.
            let P : List Asked → Type 0 = λ xs. RunsOne head.id xs in
            cut_after shown (call ∷ []) (conclusion_acts head.id uid outcome con) short.acts (short.cut (shown ++ []) (subst P (sym (append-nil shown)) runs)));
      },
    ))
  ],
)

-- ---- calls

-- A Begin was answered Started, and then the call went on.
pub begun_answers : (may : Invocation → Outcome → Type 0) (moves : States → Call → States → Type 0) (terms : Terms) (uid : Uid) (head : CallHead) (kind moment : ℕ) (turn : Turn) (first now : PullState) (a b c : Observed) (drawn drew : ℕ) (result : Result Answer ConnEnd)
    → turn.reply ≡ Started kind → Led may moves a b (acts_of moment (Begin head.id) (Ok turn)) → RunsOn may moves terms uid head kind first now b c drawn drew result → Answers may moves terms uid head first now a c drawn drew result
begun_answers may moves terms uid head kind moment turn first now a b c drawn drew (Ok answer) started begins (r, bytes, takes, is, led, bytes_are, closes) = (
  begun (record { moment = moment; turn = turn; kind = kind }) r,
  bytes,
  takes,
  (started, is),
  led_more may moves a b c (acts_of moment (Begin head.id) (Ok turn)) (running_acts head uid kind r) begins led,
  bytes_are,
  closes,
)
begun_answers may moves terms uid head kind moment turn first now a b c drawn drew (Err end) started begins how = elim how [
  | inl (memory, (r, bytes, takes, is, short)) ↦ inl (
    memory,
    (
      begun (record { moment = moment; turn = turn; kind = kind }) r,
      bytes,
      takes,
      (started, is),
      (
        acts_of moment (Begin head.id) (Ok turn) ++ short.acts,
        led_more may moves a b c (acts_of moment (Begin head.id) (Ok turn)) short.acts begins short.led,
        cut_after [] (acts_of moment (Begin head.id) (Ok turn)) (running_acts head uid kind r) short.acts
            (short.cut ([] ++ flat_map entries (acts_of moment (Begin head.id) (Ok turn))) (begin_runs head.id moment kind turn [] (λ o. refl) started)),
      ),
    ),
  )
  | inr (undrawn, breaks, (moment2, place, up)) ↦
      inr (moment, turn, kind, moment2, place, started, undrawn, breaks, led_more may moves a b c (acts_of moment (Begin head.id) (Ok turn)) (abandon_act moment2 head.id place ∷ []) begins up)
]

-- The call was answered at once.
pub closing_answers : (may : Invocation → Outcome → Type 0) (moves : States → Call → States → Type 0) (terms : Terms) (uid : Uid) (head : CallHead) (s : AtHead) (bytes : List ℕ) (first now : PullState) (a b : Observed) (drawn drew : ℕ) (result : Result Answer ConnEnd)
    → Takes first now bytes → IsServed terms head bytes uid s → Led may moves a b (served_acts head uid s) → Balanced (flat_map entries (served_acts head uid s))
    → IsPrepared (served_written uid s) (served_closes head s) result → Answers may moves terms uid head first now a b drawn drew result
closing_answers may moves terms uid head s bytes first now a b drawn drew (Ok answer) takes is led even prepared = (s, bytes, takes, is, led, prepared.0, prepared.1)
closing_answers may moves terms uid head s bytes first now a b drawn drew (Err end) takes is led even prepared =
    inl (prepared, (s, bytes, takes, is, (served_acts head uid s, led, cut_whole [] (served_acts head uid s) even)))

-- There was no memory for Begin.
pub lost_answers : (may : Invocation → Outcome → Type 0) (moves : States → Call → States → Type 0) (terms : Terms) (uid : Uid) (head : CallHead) (moment : ℕ) (first now : PullState) (stand : Stand) (a b : Observed) (drawn drew : ℕ)
    → ReadsHead first now head stand → Led may moves a b (acts_of moment (Begin head.id) (Err refusals.OutOfMemory)) → Answers may moves terms uid head first now a b drawn drew (Err ends.OutOfMemory)
lost_answers may moves terms uid head moment first now stand a b drawn drew reads led =
    let (bytes, takes, whole) = head_ends first now head stand reads in
    inl (
      refl,
      (
        refused moment,
        bytes,
        takes,
        whole,
        (
          lost moment ∷ [],
          led,
          record {
            front = [];
            later = acts_of moment (Begin head.id) (Err refusals.HistoryFull);
            fails = lost moment ∷ [];
            given_up = [];
            whole = refl;
            failing = inr refl;
            giving_up = balanced_quiet [] (λ o. refl);
            is = refl;
          },
        ),
      ),
    )
