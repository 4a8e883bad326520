-- A call of the registry or the collector in its dialogue.
use Rattle.std.proofs.Common.{◌≡◌, true, ℕ, ◌+◌, ◌<◌, ◌≤◌, List, [], ◌∷◌, ◌++◌, length, take, Option, None, Some, Result, Ok, Err, refl, ap, sym, subst, ◌∙◌, inl, inr, arith}
use Rattle.wire_io.specs.Wire.{with_front, with_front-with_front, with_front-nothing, with_end-nothing}
use Rattle.wire_io.specs.Pulled.{PullState, Takes}
use Rattle.object_ids.specs.declared.ids.Uid.{Uid}
use Rattle.ser_read.specs.Wants.{Stand, serve_to_close}
use Rattle.ser_read.specs.Heading.{inside_block}
use Rattle.jrmp_frames.specs.declared.code.Code.TheVariants.{Call as CallCode}
use Rattle.jrmp_frames.specs.declared.head.CallHead.{CallHead}
use Rattle.jrmp_frames.specs.Calls.{BreaksIn}
use Rattle.jrmp_frames.specs.Frames.{code_byte}
use Rattle.jrmp_frames.specs.Messages.{head_bytes, wants_of}
use Rattle.call_dispatch.specs.declared.end.ConnEnd.{ConnEnd}
use Rattle.call_dispatch.specs.declared.end.ConnEnd.TheVariants as ends
use Rattle.call_dispatch.specs.declared.outcome.Invocation.{Invocation}
use Rattle.call_dispatch.specs.declared.outcome.Outcome.{Outcome}
use Rattle.call_dispatch.specs.declared.returns.Answer.{Answer}
use Rattle.system_objects.specs.Terms.{Terms}
use Rattle.call_dispatch.specs.Acts.{Act, Call, States, Observed, Led}
use Rattle.call_dispatch.specs.ConnectionState.{ConnectionState, Transcript, bytes_taken}
use Rattle.call_dispatch.specs.Served.{FitsHead}
use Rattle.ser_values.specs.declared.limits.TheConstants.{MESSAGE_BYTES}
use Rattle.call_dispatch.specs.Rows.{Exchange, system, draws_in, transcript_by, IsExchange, IsCut}
use Rattle.call_dispatch.specs.Dialogue.{Opening, Completed, opened, IsClosed, Ends}
use Rattle.call_dispatch.specs.Faults.{Blames, BlamesIn}
use Rattle.call_dispatch.specs.Progress.{StandsWhole, Talked, IsCoded, StepsTo, Writes, end_from}
use Rattle.call_dispatch.specs.Serving.{result_or_close, Sends}
use Rattle.call_dispatch.specs.ServingSystem.{BreaksSystem, AnswersSystem, AnswersAny}
use Rattle.call_dispatch.specs.Systems.{System, unknown, rejected, turned, system_acts, system_draws, system_written, system_closes, IsSystem}
use Rattle.system_ids.specs.SystemIds.{is_system}
use Rattle.system_ids.specs.SystemMethods.{params_of}
use Rattle.call_dispatch.proofs.Blaming.{counts, AreBlameless, memory_blames, broken_blames, sent_blames, ended_blames, call_blames}
use Rattle.call_dispatch.proofs.Breaking.{breaks_at}
use Rattle.call_dispatch.proofs.CallSteps.{so_far, call_goes, moved, breaks_talk, closed_more, some_is, call_done, call_ended, answered_within}
use Rattle.call_dispatch.proofs.Going.{led_nothing}
use Rattle.call_dispatch.proofs.HeadEnds.{head_stands}
use Rattle.call_dispatch.proofs.MessageSteps.{limit_left}
use Rattle.call_dispatch.proofs.Steps.{spot_at, talks_on, talks_took, talks_cut, stands_more}

-- ---- reading ends in it

-- Reading ended in the arguments.
system_breaks : (may : Invocation → Outcome → Type 0) (moves : States → Call → States → Type 0) (terms : Terms) (start first : ConnectionState) (p q : PullState) (held : Option (List ℕ)) (side : Observed) (drawn sent : ℕ) (opening : Opening) (exchanges : List Exchange)
    (head : CallHead) (end : ConnEnd)
    → IsCoded may moves terms start first (spot_at p held side drawn) p.at p.stop sent opening exchanges → is_system head.id ≡ true → FitsHead head → q.at ≤ q.stop → BreaksSystem head p q end
    → Talked may moves terms start (spot_at q held side drawn) end
system_breaks may moves terms start first p q held side drawn sent opening exchanges head end h own fits within (mid, stand, method, fault, reads, known, broken, is) =
    let (left, heading, stands) = head_stands p mid head stand reads in
    let front : List ℕ = reads.taken in
    let R : Stand → Type 0 = λ s. BreaksIn mid q fault (λ last. serve_to_close last (wants_of (params_of method)) s) in
    let (more, taken, here) = breaks_at (λ last. serve_to_close last (wants_of (params_of method)) (inside_block (head_bytes head) left)) mid q fault within (subst R stands broken) in
    let T : ConnEnd → Type 0 = λ e. Talked may moves terms start (spot_at q held side drawn) e in
    subst T (sym is) (breaks_talk (λ last. serve_to_close last (wants_of (params_of method)) (inside_block (head_bytes head) left)) may moves terms start first (spot_at p held side drawn) (spot_at q held side drawn) p.at p.stop sent opening exchanges
    (front ++ more) [] mid.at mid.stop more q.left (end_from fault)
    h (reads.takes.left ∙ ap (with_front front) taken ∙ with_front-with_front front more q.left) refl (led_nothing may moves side) refl here (inr (inr (record {
      head = head;
      own = own;
      numbers = fits;
      front = front;
      left = left;
      heading = heading;
      method = method;
      known = known;
      more = more;
      breaks = moved (λ last. serve_to_close last (wants_of (params_of method)) (inside_block (head_bytes head) left)) mid.at (h.place + 1 + length front) mid.stop (h.place + MESSAGE_BYTES) more q.left (end_from fault)
          (reads.takes.at ∙ ap (λ n. n + length front) h.position) (reads.takes.stop ∙ h.limit) here;
      tail_is = refl;
    }))))

-- ---- it is answered

-- Where the last exchange closes the connection, this is its end.
closed_ends : (terms : Terms) (drawn : ℕ) (w : Completed) (rest : Option (List ℕ)) (head : CallHead) (s : System) (end : ConnEnd) → system_closes head s ≡ Some end → IsClosed w end → Ends terms drawn w (bytes_taken []) rest end
closed_ends terms drawn w rest head unknown end same closed =
    let P : ConnEnd → Type 0 = λ e. IsClosed w e → Ends terms drawn w (bytes_taken []) rest e in
    subst P (some_is (ends.NoSuchMethod head.operation head.hash) end same) (λ c. (c, refl)) closed
closed_ends terms drawn w rest head (rejected rej) end same closed = absurd (cc)
closed_ends terms drawn w rest head (turned took) end same closed = absurd (cc)

-- The exchange may come where so many were drawn since the beginning.
may_come : (may : Invocation → Outcome → Type 0) (moves : States → Call → States → Type 0) (terms : Terms) (start first : ConnectionState) (p q : PullState) (held : Option (List ℕ)) (side : Observed) (drawn sent : ℕ) (opening : Opening) (exchanges : List Exchange) (bytes : List ℕ) (head : CallHead) (uid : Uid) (s : System)
    → IsCoded may moves terms start first (spot_at p held side drawn) p.at p.stop sent opening exchanges → is_system head.id ≡ true → FitsHead head → q.at ≤ q.stop → Takes p q bytes → IsSystem terms drawn head bytes uid s
    → IsExchange terms (start.drawn + draws_in exchanges) (system (record { bytes = bytes; head = head; uid = uid }) s)
may_come may moves terms start first p q held side drawn sent opening exchanges bytes head uid s h own fits within takes legal =
    let P : ℕ → Type 0 = λ n. IsSystem terms n head bytes uid s in
    (own, fits, omega (arith, within, takes.at, takes.stop, h.position, h.limit), subst P (h.drawn ∙ h.stands.goes.drawn) legal)

draws_some : (s : System) → 0 < system_draws s
draws_some unknown = omega arith
draws_some (rejected rej) = omega arith
draws_some (turned took) = omega arith

-- There was no memory for all of its row.
system_cut : (may : Invocation → Outcome → Type 0) (moves : States → Call → States → Type 0) (terms : Terms) (start first : ConnectionState) (p q : PullState) (held : Option (List ℕ)) (side side2 : Observed) (drawn drew sent : ℕ) (opening : Opening) (exchanges : List Exchange)
    (bytes : List ℕ) (head : CallHead) (uid : Uid) (s : System) (acts : List Act) (draws : ℕ) (end : ConnEnd)
    → IsCoded may moves terms start first (spot_at p held side drawn) p.at p.stop sent opening exchanges → is_system head.id ≡ true → FitsHead head → q.at ≤ q.stop → Takes p q bytes → IsSystem terms drawn head bytes uid s
    → Led may moves side side2 acts → IsCut [] (system_acts s) acts → drew ≡ drawn + draws → draws ≤ system_draws s → end ≡ ends.OutOfMemory → Talked may moves terms start (spot_at q held side2 drew) end
system_cut may moves terms start first p q held side side2 drawn drew sent opening exchanges bytes head uid s acts draws end h own fits within takes legal led cut drew_is few memory =
    let tail : Transcript = so_far bytes acts draws [] in
    let one = draws_some s in
    let some : 0 < length (system_acts s) + system_draws s = omega (arith, one) in
    let T : ConnEnd → Type 0 = λ e. Talked may moves terms start (spot_at q held side2 drew) e in
    subst T (sym memory) (talks_on may moves terms start first (spot_at q held side2 drew) h.place sent (opened opening exchanges) tail ends.OutOfMemory h.stands
    (call_goes may moves terms start first (spot_at p held side drawn) (spot_at q held side2 drew) p.at p.stop sent opening exchanges bytes acts draws [] h takes.left (sym (with_end-nothing held)) led drew_is)
    (inr (inl (
      system (record { bytes = bytes; head = head; uid = uid }) s,
      record {
        next = (h.code, h.few, may_come may moves terms start first p q held side drawn sent opening exchanges bytes head uid s h own fits within takes legal);
        message = refl;
        acts = cut;
        draws = few;
        written = refl;
      },
      some,
    ))))

-- It was answered, and its answer written or cut.
system_sent : (may : Invocation → Outcome → Type 0) (moves : States → Call → States → Type 0) (terms : Terms) (start first : ConnectionState) (p q : PullState) (held held2 : Option (List ℕ)) (side side2 : Observed) (drawn drew sent : ℕ) (opening : Opening) (exchanges : List Exchange)
    (bytes : List ℕ) (head : CallHead) (uid : Uid) (s : System) (close : Option ConnEnd) (written : Result ℕ ConnEnd)
    → IsCoded may moves terms start first (spot_at p held side drawn) p.at p.stop sent opening exchanges → is_system head.id ≡ true → FitsHead head → q.at ≤ q.stop → Takes p q bytes → IsSystem terms drawn head bytes uid s
    → Led may moves side side2 (system_acts s) → drew ≡ drawn + system_draws s → close ≡ system_closes head s → Writes held held2 sent (system_written uid s) written
    → StepsTo may moves terms start (spot_at q held2 side2 drew) q.at opening exchanges (result_or_close written close)
system_sent may moves terms start first p q held held2 side side2 drawn drew sent opening exchanges bytes head uid s None (Ok sent2) h own fits within takes legal led drew_is closes writes =
    let e : Exchange = system (record { bytes = bytes; head = head; uid = uid }) s in
    let ats : q.at ≡ h.place + length (code_byte CallCode ∷ bytes) = omega (arith, takes.at, h.position) in (
      e,
      sym closes,
      stands_more may moves terms start first (spot_at q held2 side2 drew) h.place sent q.at sent2 opening exchanges e h.stands h.code (limit_left opening exchanges h.code h.few)
          (may_come may moves terms start first p q held side drawn sent opening exchanges bytes head uid s h own fits within takes legal)
          (call_goes may moves terms start first (spot_at p held side drawn) (spot_at q held2 side2 drew) p.at p.stop sent opening exchanges bytes (system_acts s) (system_draws s) (system_written uid s) h takes.left writes.0 led drew_is)
          ats writes.1,
    )
system_sent may moves terms start first p q held held2 side side2 drawn drew sent opening exchanges bytes head uid s (Some end) (Ok sent2) h own fits within takes legal led drew_is closes writes =
    let e : Exchange = system (record { bytes = bytes; head = head; uid = uid }) s in
    let now : ConnectionState = spot_at q held2 side2 drew in
    let ats : q.at ≡ h.place + length (code_byte CallCode ∷ bytes) = omega (arith, takes.at, h.position) in
    let stood : StandsWhole may moves terms start now q.at sent2 (opened opening (exchanges ++ e ∷ [])) =
    stands_more may moves terms start first now h.place sent q.at sent2 opening exchanges e h.stands h.code (limit_left opening exchanges h.code h.few)
    (may_come may moves terms start first p q held side drawn sent opening exchanges bytes head uid s h own fits within takes legal)
    (call_goes may moves terms start first (spot_at p held side drawn) now p.at p.stop sent opening exchanges bytes (system_acts s) (system_draws s) (system_written uid s) h takes.left writes.0 led drew_is)
    ats writes.1 in
    talks_took may moves terms start now now q.at sent2 (opened opening (exchanges ++ e ∷ [])) [] end stood (sym (with_front-nothing q.left)) refl refl refl
    (closed_ends terms start.drawn (opened opening (exchanges ++ e ∷ [])) q.left head s end (sym closes) (closed_more exchanges e ∙ sym closes))
system_sent may moves terms start first p q held held2 side side2 drawn drew sent opening exchanges bytes head uid s close (Err end) h own fits within takes legal led drew_is closes (part, less, how, wrote) =
    let e : Exchange = system (record { bytes = bytes; head = head; uid = uid }) s in
    let T : ConnEnd → Type 0 = λ x. Talked may moves terms start (spot_at q held2 side2 drew) x in
    subst T (sym how) (talks_cut may moves terms start first (spot_at q held2 side2 drew) h.place sent part (opened opening exchanges) (transcript_by e) h.stands
    (inr (inr (e, (h.code, h.few, may_come may moves terms start first p q held side drawn sent opening exchanges bytes head uid s h own fits within takes legal), refl))) less
    (call_goes may moves terms start first (spot_at p held side drawn) (spot_at q held2 side2 drew) p.at p.stop sent opening exchanges bytes (system_acts s) (system_draws s) (take part (system_written uid s)) h takes.left wrote led drew_is))

-- It was answered as its row says, and its answer sent.
system_done : (may : Invocation → Outcome → Type 0) (moves : States → Call → States → Type 0) (terms : Terms) (start first : ConnectionState) (p q : PullState) (held held2 : Option (List ℕ)) (side side2 : Observed) (drawn drew sent faults faults2 : ℕ) (opening : Opening) (exchanges : List Exchange)
    (head : CallHead) (answer : Answer) (result : Result ℕ ConnEnd)
    → IsCoded may moves terms start first (spot_at p held side drawn) p.at p.stop sent opening exchanges → is_system head.id ≡ true → FitsHead head → q.at ≤ q.stop
    → AnswersSystem may moves terms head p q side side2 drawn drew (Ok answer) → Sends held held2 faults faults2 sent answer result
    → StepsTo may moves terms start (spot_at q held2 side2 drew) q.at opening exchanges result
system_done may moves terms start first p q held held2 side side2 drawn drew sent faults faults2 opening exchanges head answer result h own fits within (bytes, takes, (uid, s, is, led, drew_is, bytes_are, closes)) sends =
    let T : Result ℕ ConnEnd → Type 0 = λ r. StepsTo may moves terms start (spot_at q held2 side2 drew) q.at opening exchanges r in
    let W : List ℕ → Type 0 = λ l. Writes held held2 sent l sends.written in
    subst T (sym sends.is) (system_sent may moves terms start first p q held held2 side side2 drawn drew sent opening exchanges bytes head uid s answer.close sends.written h own fits within takes is led drew_is closes (subst W bytes_are sends.writes))

-- The connection ended in it.
system_ended : (may : Invocation → Outcome → Type 0) (moves : States → Call → States → Type 0) (terms : Terms) (start first : ConnectionState) (p q : PullState) (held : Option (List ℕ)) (side side2 : Observed) (drawn drew sent : ℕ) (opening : Opening) (exchanges : List Exchange)
    (head : CallHead) (end : ConnEnd)
    → IsCoded may moves terms start first (spot_at p held side drawn) p.at p.stop sent opening exchanges → is_system head.id ≡ true → FitsHead head → q.at ≤ q.stop
    → AnswersSystem may moves terms head p q side side2 drawn drew (Err end) → Talked may moves terms start (spot_at q held side2 drew) end
system_ended may moves terms start first p q held side side2 drawn drew sent opening exchanges head end h own fits within (inl (bytes, takes, (memory, (uid, s, is, (acts, led, cut), (draws, drew_is, few))))) =
    system_cut may moves terms start first p q held side side2 drawn drew sent opening exchanges bytes head uid s acts draws end h own fits within takes is led cut drew_is few memory
system_ended may moves terms start first p q held side side2 drawn drew sent opening exchanges head end h own fits within (inr (undrawn, same, broken)) =
    let P : ℕ → Type 0 = λ n. Talked may moves terms start (spot_at q held side2 n) end in
    let Q : Observed → Type 0 = λ s. Talked may moves terms start (spot_at q held s drawn) end in
    subst P (sym undrawn) (subst Q (sym same) (system_breaks may moves terms start first p q held side drawn sent opening exchanges head end h own fits within broken))

-- ---- any Call

-- A Call was answered as its row says, and its answer sent.
pub any_done : (may : Invocation → Outcome → Type 0) (moves : States → Call → States → Type 0) (terms : Terms) (start first : ConnectionState) (p q : PullState) (held held2 : Option (List ℕ)) (side side2 : Observed) (drawn drew sent faults faults2 : ℕ) (opening : Opening) (exchanges : List Exchange)
    (head : CallHead) (answer : Answer) (result : Result ℕ ConnEnd)
    → IsCoded may moves terms start first (spot_at p held side drawn) p.at p.stop sent opening exchanges → FitsHead head → q.at ≤ q.stop
    → AnswersAny may moves terms head p q side side2 drawn drew (Ok answer) → Sends held held2 faults faults2 sent answer result
    → StepsTo may moves terms start (spot_at q held2 side2 drew) q.at opening exchanges result
any_done may moves terms start first p q held held2 side side2 drawn drew sent faults faults2 opening exchanges head answer result h fits within (inl (own, answers)) sends =
    system_done may moves terms start first p q held held2 side side2 drawn drew sent faults faults2 opening exchanges head answer result h own fits within answers sends
any_done may moves terms start first p q held held2 side side2 drawn drew sent faults faults2 opening exchanges head answer result h fits within (inr (other, answers, drew_is, low, high)) sends =
    call_done may moves terms start first p q held held2 side side2 drawn drew sent faults faults2 opening exchanges head answer result h other fits within answers drew_is sends

-- The connection ended in a Call whose head was read.
pub any_ended : (may : Invocation → Outcome → Type 0) (moves : States → Call → States → Type 0) (terms : Terms) (start first : ConnectionState) (p q : PullState) (held : Option (List ℕ)) (side side2 : Observed) (drawn drew sent : ℕ) (opening : Opening) (exchanges : List Exchange)
    (head : CallHead) (end : ConnEnd)
    → IsCoded may moves terms start first (spot_at p held side drawn) p.at p.stop sent opening exchanges → FitsHead head → q.at ≤ q.stop
    → AnswersAny may moves terms head p q side side2 drawn drew (Err end) → Talked may moves terms start (spot_at q held side2 drew) end
any_ended may moves terms start first p q held side side2 drawn drew sent opening exchanges head end h fits within (inl (own, answers)) =
    system_ended may moves terms start first p q held side side2 drawn drew sent opening exchanges head end h own fits within answers
any_ended may moves terms start first p q held side side2 drawn drew sent opening exchanges head end h fits within (inr (other, answers, drew_is, low, high)) =
    call_ended may moves terms start first p q held side side2 drawn drew sent opening exchanges head end h other fits within answers low high

-- What was taken of a Call that was answered stays within its limit.
pub any_within : (may : Invocation → Outcome → Type 0) (moves : States → Call → States → Type 0) (terms : Terms) (head : CallHead) (p q : PullState) (a b : Observed) (drawn drew : ℕ) (answer : Answer)
    → q.at ≤ q.stop → AnswersAny may moves terms head p q a b drawn drew (Ok answer) → q.at ≤ p.stop
any_within may moves terms head p q a b drawn drew answer within (inl (own, (bytes, takes, answers))) = omega (arith, within, takes.stop)
any_within may moves terms head p q a b drawn drew answer within (inr (other, answers, drew_is, low, high)) = answered_within may moves terms _ head p q a b drawn drew answer within answers

-- ---- failures of the outside

-- No exchange closes the connection for a failure of the outside.
closes_blameless : (head : CallHead) (s : System) → AreBlameless (system_closes head s)
closes_blameless head unknown = ((λ same. cc), (λ w. w))
closes_blameless head (rejected rej) = tt
closes_blameless head (turned took) = tt

-- The connection ended in a Call whose head was read behind these counts.
pub any_ended_blames : (may : Invocation → Outcome → Type 0) (moves : States → Call → States → Type 0) (terms : Terms) (head : CallHead) (first now : PullState) (a b : Observed) (drawn drew k : ℕ) (end : ConnEnd)
    → AnswersAny may moves terms head first now a b drawn drew (Err end) → Blames (counts first.faults k) (counts now.faults k) end
any_ended_blames may moves terms head first now a b drawn drew k end (inl (own, inl (bytes, takes, (memory, others)))) = memory_blames first.faults now.faults k end takes.faults memory
any_ended_blames may moves terms head first now a b drawn drew k end (inl (own, inr (undrawn, same, (mid, stand, method, fault, reads, known, broken, is)))) =
    let P : ConnEnd → Type 0 = λ e. Blames (counts first.faults k) (counts now.faults k) e in
    subst P (sym is) (broken_blames (λ last. serve_to_close last (wants_of (params_of method)) stand) first.faults k mid now fault reads.takes.faults broken)
any_ended_blames may moves terms head first now a b drawn drew k end (inr (other, answers, drew_is, low, high)) = ended_blames may moves terms _ head first now a b drawn drew k end answers

-- A Call was answered, and its answer sent.
pub any_blames : (may : Invocation → Outcome → Type 0) (moves : States → Call → States → Type 0) (terms : Terms) (head : CallHead) (first now : PullState) (a b : Observed) (drawn drew k l sent : ℕ) (held held2 : Option (List ℕ)) (answer : Answer) (result : Result ℕ ConnEnd)
    → AnswersAny may moves terms head first now a b drawn drew (Ok answer) → Sends held held2 k l sent answer result → BlamesIn (counts first.faults k) (counts now.faults l) result
any_blames may moves terms head first now a b drawn drew k l sent held held2 answer result (inl (own, (bytes, takes, (uid, s, is, led, drew_is, bytes_are, closes)))) sends =
    let P : Result ℕ ConnEnd → Type 0 = λ r. BlamesIn (counts first.faults k) (counts now.faults l) r in
    subst P (sym sends.is) (sent_blames first.faults now.faults k l sent held held2 answer.bytes sends.written answer.close takes.faults (subst (λ (c : Option ConnEnd). AreBlameless c) (sym closes) (closes_blameless head s)) sends.writes sends.rose sends.kept)
any_blames may moves terms head first now a b drawn drew k l sent held held2 answer result (inr (other, answers, drew_is, low, high)) sends =
    call_blames may moves terms _ head first now a b drawn drew k l sent held held2 answer result answers sends
