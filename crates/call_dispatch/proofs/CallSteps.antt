-- A Call in its dialogue.
use Rattle.std.proofs.Common.{◌≡◌, false, ℕ, zero, suc, ◌+◌, ◌<◌, ◌≤◌, ◌⊎◌, List, [], ◌∷◌, ◌++◌, length, take, Option, None, Some, Result, Ok, Err, refl, ap, sym, subst, ◌∙◌, inl, inr, arith, add-zero}
use Rattle.wire_io.specs.Wire.{Rose, with_front, with_end, with_front-with_front, with_front-nothing, with_end-nothing}
use Rattle.wire_io.specs.Pulled.{PullState, Takes}
use Rattle.object_ids.specs.declared.ids.Uid.{Uid}
use Rattle.object_ids.specs.Draw.{uid_drawn}
use Rattle.history.specs.declared.asks.Ask.TheVariants.{Begin}
use Rattle.history.specs.declared.replies.Reply.TheVariants.{Started}
use Rattle.history.specs.declared.replies.Turn.{Turn}
use Rattle.stream_grammar.specs.Reading.{short}
use Rattle.ser_read.specs.Here.{NeedsAll}
use Rattle.ser_read.specs.Wants.{Stand, WantFault, inside, serve_to_close}
use Rattle.ser_read.specs.Heading.{inside_block}
use Rattle.jrmp_frames.specs.declared.code.Code.TheVariants.{Call as CallCode}
use Rattle.jrmp_frames.specs.declared.fault.FrameFault.{FrameFault}
use Rattle.jrmp_frames.specs.declared.head.CallHead.{CallHead}
use Rattle.jrmp_frames.specs.Calls.{head_at, BreaksIn}
use Rattle.jrmp_frames.specs.Frames.{code_byte}
use Rattle.jrmp_frames.specs.Messages.{head_bytes, wants_of}
use Rattle.call_dispatch.specs.declared.end.ConnEnd.{ConnEnd}
use Rattle.call_dispatch.specs.declared.end.ConnEnd.TheVariants as ends
use Rattle.call_dispatch.specs.declared.outcome.Invocation.{Invocation}
use Rattle.call_dispatch.specs.declared.outcome.Outcome.{Outcome}
use Rattle.call_dispatch.specs.declared.returns.Answer.{Answer}
use Rattle.system_objects.specs.Terms.{Terms}
use Rattle.call_dispatch.specs.Acts.{Act, Call, States, Observed, Led, acts_of, abandon_act}
use Rattle.call_dispatch.specs.ConnectionState.{ConnectionState, Transcript, bytes_taken, LeadsFrom}
use Rattle.call_dispatch.specs.Served.{AtHead, absent, refused, begun, unknown, ran, FitsHead, served_acts, served_written, served_closes, IsServed}
use Rattle.ser_values.specs.declared.limits.TheConstants.{MESSAGE_BYTES}
use Rattle.call_dispatch.specs.Rows.{Exchange, served, row_of, closed_by, draws_in, transcript_by, IsExchange, IsCut}
use Rattle.call_dispatch.specs.Inside.{BreaksAt}
use Rattle.system_ids.specs.SystemIds.{is_system}
use Rattle.call_dispatch.specs.Dialogue.{Opening, Completed, opened, IsClosed, EndsInHead, EndsInArguments, EndsInSystem, EndsInCall, Ends}
use Rattle.call_dispatch.specs.Progress.{StandsWhole, Talked, IsCoded, StepsTo, Writes, end_from}
use Rattle.call_dispatch.specs.Serving.{BreaksOff, Answers, result_or_close, Sends}
use Rattle.call_dispatch.proofs.Going.{led_nothing}
use Rattle.call_dispatch.proofs.HeadEnds.{head_stands}
use Rattle.call_dispatch.proofs.Breaking.{breaks_at}
use Rattle.call_dispatch.proofs.Steps.{spot_at, talks_on, talks_took, talks_cut, stands_more}
use Rattle.call_dispatch.proofs.MessageSteps.{limit_left}

-- what a Call takes, does, draws and writes, so far as these bytes of it were taken behind its code
abbrev pub so_far : List ℕ → List Act → ℕ → List ℕ → Transcript
so_far bytes acts draws written = record { taken = code_byte CallCode ∷ bytes; acts = acts; draws = draws; written = written }

-- It leads on from where the code was to come.
pub call_goes : (may : Invocation → Outcome → Type 0) (moves : States → Call → States → Type 0) (terms : Terms) (start first before now : ConnectionState) (at stop sent : ℕ) (opening : Opening) (exchanges : List Exchange) (bytes : List ℕ) (acts : List Act) (draws : ℕ) (written : List ℕ)
    → IsCoded may moves terms start first before at stop sent opening exchanges
    → before.wires.left ≡ with_front bytes now.wires.left → now.wires.held ≡ with_end before.wires.held written → Led may moves before.side now.side acts → now.drawn ≡ before.drawn + draws
    → LeadsFrom may moves first now (so_far bytes acts draws written)
call_goes may moves terms start first before now at stop sent opening exchanges bytes acts draws written h left wrote led drew = record {
  left = h.left ∙ ap (with_front (code_byte CallCode ∷ [])) left ∙ with_front-with_front (code_byte CallCode ∷ []) bytes now.wires.left;
  held = wrote ∙ ap (λ told. with_end told written) h.held;
  led = (let P : Observed → Type 0 = λ s. Led may moves s now.side acts in subst P h.side led);
  drawn = drew ∙ ap (λ n. n + draws) h.drawn;
}

-- ---- reading ends in the Call

pub moved : {Y : Type 0} (read : ℕ → List ℕ → Result Y WantFault) (a b s t : ℕ) (more : List ℕ) (rest : Option (List ℕ)) (end : ConnEnd) → a ≡ b → s ≡ t → BreaksAt read a s more rest end → BreaksAt read b t more rest end
moved read a b s t more rest end same same2 h =
    let P : ℕ → Type 0 = λ n. BreaksAt read n s more rest end in
    let Q : ℕ → Type 0 = λ n. BreaksAt read b n more rest end in
    subst Q same2 (subst P same h)

-- Where reading ends in a Call so, this end stands.
in_call : {Y : Type 0} (read : ℕ → List ℕ → Result Y WantFault) (at stop : ℕ) (more : List ℕ) (left : Option (List ℕ)) (terms : Terms) (drawn : ℕ) (w : Completed) (tail : Transcript) (rest : Option (List ℕ)) (end : ConnEnd)
    → BreaksAt read at stop more left end → EndsInCall terms w tail rest end → Ends terms drawn w tail rest end
in_call read at stop more left terms drawn w tail rest (ends.BadStream kind p) breaks h = h
in_call read at stop more left terms drawn w tail rest (ends.TooLarge what p) breaks h = h
in_call read at stop more left terms drawn w tail rest (ends.Truncated p) breaks h = inr h
in_call read at stop more left terms drawn w tail rest ends.ReadFault breaks h = inr h
in_call read at stop more left terms drawn w tail rest ends.OutOfMemory breaks h = inr (inr h)
in_call read at stop more left terms drawn w tail rest ends.Ended breaks h = absurd breaks
in_call read at stop more left terms drawn w tail rest (ends.BadHeader p) breaks h = absurd breaks
in_call read at stop more left terms drawn w tail rest (ends.UnknownProtocol byte) breaks h = absurd breaks
in_call read at stop more left terms drawn w tail rest (ends.BadMessage byte p) breaks h = absurd breaks
in_call read at stop more left terms drawn w tail rest (ends.NoSuchObject id) breaks h = absurd breaks
in_call read at stop more left terms drawn w tail rest (ends.NoSuchMethod operation hash) breaks h = absurd breaks
in_call read at stop more left terms drawn w tail rest ends.SpaceFull breaks h = absurd breaks
in_call read at stop more left terms drawn w tail rest ends.MessageLimit breaks h = absurd breaks
in_call read at stop more left terms drawn w tail rest (ends.WriteFault sent) breaks h = absurd breaks

-- Reading ended in the Call, with this end.
pub breaks_talk : {Y : Type 0} (read : ℕ → List ℕ → Result Y WantFault) (may : Invocation → Outcome → Type 0) (moves : States → Call → States → Type 0) (terms : Terms) (start first before now : ConnectionState) (at stop sent : ℕ) (opening : Opening) (exchanges : List Exchange)
    (bytes : List ℕ) (acts : List Act) (base bound : ℕ) (more : List ℕ) (left2 : Option (List ℕ)) (end : ConnEnd) → (h : IsCoded may moves terms start first before at stop sent opening exchanges)
    → before.wires.left ≡ with_front bytes now.wires.left → now.wires.held ≡ before.wires.held → Led may moves before.side now.side acts → now.drawn ≡ before.drawn → BreaksAt read base bound more left2 end
    → EndsInHead h.place (so_far bytes acts 0 []) now.wires.left end ⊎ (EndsInArguments terms.kinds h.place (so_far bytes acts 0 []) now.wires.left end ⊎ EndsInSystem h.place (so_far bytes acts 0 []) now.wires.left end)
    → Talked may moves terms start now end
breaks_talk read may moves terms start first before now at stop sent opening exchanges bytes acts base bound more left2 end h left held led drawn breaks how =
    let tail : Transcript = so_far bytes acts 0 [] in
    let P : ℕ → Type 0 = λ n. EndsInHead n tail now.wires.left end ⊎ (EndsInArguments terms.kinds n tail now.wires.left end ⊎ EndsInSystem n tail now.wires.left end) in
    talks_on may moves terms start first now h.place sent (opened opening exchanges) tail end h.stands
    (call_goes may moves terms start first before now at stop sent opening exchanges bytes acts 0 [] h left (held ∙ sym (with_end-nothing before.wires.held)) led (drawn ∙ sym (add-zero before.drawn)))
    (in_call read base bound more left2 terms start.drawn (opened opening exchanges) tail now.wires.left end breaks (h.code, h.few, subst P h.stands.position how))

-- Reading ended in the head.
pub head_breaks : (may : Invocation → Outcome → Type 0) (moves : States → Call → States → Type 0) (terms : Terms) (start first : ConnectionState) (p q : PullState) (held : Option (List ℕ)) (side : Observed) (drawn sent : ℕ) (opening : Opening) (exchanges : List Exchange) (fault : FrameFault)
    → IsCoded may moves terms start first (spot_at p held side drawn) p.at p.stop sent opening exchanges → q.at ≤ q.stop → BreaksIn p q fault head_at
    → Talked may moves terms start (spot_at q held side drawn) (end_from fault)
head_breaks may moves terms start first p q held side drawn sent opening exchanges fault h within broken =
    let (more, left, here) = breaks_at head_at p q fault within broken in
    breaks_talk head_at may moves terms start first (spot_at p held side drawn) (spot_at q held side drawn) p.at p.stop sent opening exchanges more [] p.at p.stop more q.left (end_from fault)
    h left refl (led_nothing may moves side) refl here (inl (more, refl, moved head_at p.at (h.place + 1) p.stop (h.place + MESSAGE_BYTES) more q.left (end_from fault) h.position h.limit here))

nothing_left_out : {Y : Type 0} (at : ℕ) (read : ℕ → List ℕ → Result Y WantFault) → NeedsAll (inside short) at [] read
nothing_left_out at read [] next others is = absurd (cc)
nothing_left_out at read (byte ∷ front) next others is = absurd (cc)

-- Nothing of the Call was read behind its code.
pub head_unread : (may : Invocation → Outcome → Type 0) (moves : States → Call → States → Type 0) (terms : Terms) (start first : ConnectionState) (p : PullState) (held : Option (List ℕ)) (side : Observed) (drawn sent : ℕ) (opening : Opening) (exchanges : List Exchange)
    → IsCoded may moves terms start first (spot_at p held side drawn) p.at p.stop sent opening exchanges → p.at ≤ p.stop
    → Talked may moves terms start (spot_at p held side drawn) ends.OutOfMemory
head_unread may moves terms start first p held side drawn sent opening exchanges h within =
    let here : BreaksAt head_at p.at p.stop [] p.left ends.OutOfMemory = (nothing_left_out p.at head_at, omega (arith, within)) in
    breaks_talk head_at may moves terms start first (spot_at p held side drawn) (spot_at p held side drawn) p.at p.stop sent opening exchanges [] [] p.at p.stop [] p.left ends.OutOfMemory
    h (sym (with_front-nothing p.left)) refl (led_nothing may moves side) refl here (inl ([], refl, moved head_at p.at (h.place + 1) p.stop (h.place + MESSAGE_BYTES) [] p.left ends.OutOfMemory h.position h.limit here))

-- Reading ended in the arguments.
pub arguments_break : (may : Invocation → Outcome → Type 0) (moves : States → Call → States → Type 0) (terms : Terms) (start first : ConnectionState) (p q : PullState) (held : Option (List ℕ)) (side side2 : Observed) (drawn drew sent : ℕ) (opening : Opening) (exchanges : List Exchange)
    (head : CallHead) (moment : ℕ) (turn : Turn) (kind moment2 ended : ℕ) (end : ConnEnd)
    → IsCoded may moves terms start first (spot_at p held side drawn) p.at p.stop sent opening exchanges → is_system head.id ≡ false → FitsHead head → q.at ≤ q.stop → turn.reply ≡ Started kind → drew ≡ drawn → BreaksOff terms.kinds head kind p q end
    → Led may moves side side2 (acts_of moment (Begin head.id) (Ok turn) ++ abandon_act moment2 head.id ended ∷ [])
    → Talked may moves terms start (spot_at q held side2 drew) end
arguments_break may moves terms start first p q held side side2 drawn drew sent opening exchanges head moment turn kind moment2 ended end h other fits within started undrawn (mid, stand, spot, method, fault, reads, known, method_is, broken, is) led =
    let (left, heading, stands) = head_stands p mid head stand reads in
    let front : List ℕ = reads.taken in
    let R : Stand → Type 0 = λ s. BreaksIn mid q fault (λ last. serve_to_close last (wants_of method.params) s) in
    let (more, taken, here) = breaks_at (λ last. serve_to_close last (wants_of method.params) (inside_block (head_bytes head) left)) mid q fault within (subst R stands broken) in
    let T : ConnEnd → Type 0 = λ e. Talked may moves terms start (spot_at q held side2 drew) e in
    subst T (sym is) (breaks_talk (λ last. serve_to_close last (wants_of method.params) (inside_block (head_bytes head) left)) may moves terms start first (spot_at p held side drawn) (spot_at q held side2 drew) p.at p.stop sent opening exchanges
    (front ++ more) (acts_of moment (Begin head.id) (Ok turn) ++ abandon_act moment2 head.id ended ∷ []) mid.at mid.stop more q.left (end_from fault)
    h (reads.takes.left ∙ ap (with_front front) taken ∙ with_front-with_front front more q.left) refl led undrawn here (inr (inl (record {
      head = head;
      other = other;
      numbers = fits;
      front = front;
      left = left;
      heading = heading;
      moment = moment;
      turn = turn;
      kind = kind;
      started = started;
      place = spot;
      known = known;
      method = method;
      method_is = method_is;
      more = more;
      breaks = moved (λ last. serve_to_close last (wants_of method.params) (inside_block (head_bytes head) left)) mid.at (h.place + 1 + length front) mid.stop (h.place + MESSAGE_BYTES) more q.left (end_from fault)
          (reads.takes.at ∙ ap (λ n. n + length front) h.position) (reads.takes.stop ∙ h.limit) here;
      end_moment = moment2;
      end_place = ended;
      tail_is = refl;
    }))))

-- ---- the Call is served

pub closed_more : (exchanges : List Exchange) (e : Exchange) → closed_by (exchanges ++ e ∷ []) ≡ (row_of e).closes
closed_more [] e = refl
closed_more (x ∷ []) e = refl
closed_more (x ∷ y ∷ more) e = closed_more (y ∷ more) e

pub some_is : (a b : ConnEnd) → Some a ≡ Some b → a ≡ b
some_is a b same = cc

-- Where the last exchange closes the connection, this is its end.
closed_ends : (terms : Terms) (drawn : ℕ) (w : Completed) (rest : Option (List ℕ)) (head : CallHead) (s : AtHead) (end : ConnEnd) → served_closes head s ≡ Some end → IsClosed w end → Ends terms drawn w (bytes_taken []) rest end
closed_ends terms drawn w rest head (absent gone) end same closed =
    let P : ConnEnd → Type 0 = λ e. IsClosed w e → Ends terms drawn w (bytes_taken []) rest e in
    subst P (some_is (ends.NoSuchObject head.id) end same) (λ c. (c, refl)) closed
closed_ends terms drawn w rest head (refused moment) end same closed =
    let P : ConnEnd → Type 0 = λ e. IsClosed w e → Ends terms drawn w (bytes_taken []) rest e in
    subst P (some_is ends.SpaceFull end same) (λ c. (c, refl)) closed
closed_ends terms drawn w rest head (begun start (unknown up2)) end same closed =
    let P : ConnEnd → Type 0 = λ e. IsClosed w e → Ends terms drawn w (bytes_taken []) rest e in
    subst P (some_is (ends.NoSuchMethod head.operation head.hash) end same) (λ c. (c, refl)) closed
closed_ends terms drawn w rest head (begun start (ran inv conclusion)) end same closed = absurd (cc)

-- The exchange may come where so many were drawn since the beginning.
may_come : (may : Invocation → Outcome → Type 0) (moves : States → Call → States → Type 0) (terms : Terms) (start first : ConnectionState) (p q : PullState) (held : Option (List ℕ)) (side : Observed) (drawn sent : ℕ) (opening : Opening) (exchanges : List Exchange) (bytes : List ℕ) (head : CallHead) (uid : Uid) (s : AtHead)
    → IsCoded may moves terms start first (spot_at p held side drawn) p.at p.stop sent opening exchanges → is_system head.id ≡ false → FitsHead head → q.at ≤ q.stop → uid ≡ uid_drawn terms.unique terms.time drawn → Takes p q bytes → IsServed terms head bytes uid s
    → IsExchange terms (start.drawn + draws_in exchanges) (served (record { bytes = bytes; head = head; uid = uid }) s)
may_come may moves terms start first p q held side drawn sent opening exchanges bytes head uid s h other fits within is takes legal =
    (other, is ∙ ap (uid_drawn terms.unique terms.time) (h.drawn ∙ h.stands.goes.drawn), fits, omega (arith, within, takes.at, takes.stop, h.position, h.limit), legal)

few_more : (a b : ℕ) → a ≤ b → b ≤ a + 1 → (d : ℕ) × (b ≡ a + d) × (d ≤ 1)
few_more zero b low high = (b, omega arith, omega (arith, high))
few_more (suc a) zero low high = absurd (omega (arith, low))
few_more (suc a) (suc b) low high =
    let (d, is, most) = few_more a b (omega (arith, low)) (omega (arith, high)) in (d, omega (arith, is), most)

-- There was no memory for all of the Call's row.
pub call_cut : (may : Invocation → Outcome → Type 0) (moves : States → Call → States → Type 0) (terms : Terms) (start first : ConnectionState) (p q : PullState) (held : Option (List ℕ)) (side side2 : Observed) (drawn drew sent : ℕ) (opening : Opening) (exchanges : List Exchange)
    (bytes : List ℕ) (head : CallHead) (uid : Uid) (s : AtHead) (acts : List Act) (end : ConnEnd)
    → IsCoded may moves terms start first (spot_at p held side drawn) p.at p.stop sent opening exchanges → is_system head.id ≡ false → FitsHead head → q.at ≤ q.stop → uid ≡ uid_drawn terms.unique terms.time drawn → Takes p q bytes → IsServed terms head bytes uid s
    → Led may moves side side2 acts → IsCut [] (served_acts head uid s) acts → drawn ≤ drew → drew ≤ drawn + 1 → end ≡ ends.OutOfMemory → Talked may moves terms start (spot_at q held side2 drew) end
call_cut may moves terms start first p q held side side2 drawn drew sent opening exchanges bytes head uid s acts end h other fits within is takes legal led cut low high memory =
    let (d, drawn_is, few) = few_more drawn drew low high in
    let tail : Transcript = so_far bytes acts d [] in
    let some : 0 < length (served_acts head uid s) + 1 = omega arith in
    let T : ConnEnd → Type 0 = λ e. Talked may moves terms start (spot_at q held side2 drew) e in
    subst T (sym memory) (talks_on may moves terms start first (spot_at q held side2 drew) h.place sent (opened opening exchanges) tail ends.OutOfMemory h.stands
    (call_goes may moves terms start first (spot_at p held side drawn) (spot_at q held side2 drew) p.at p.stop sent opening exchanges bytes acts d [] h takes.left (sym (with_end-nothing held)) led drawn_is)
    (inr (inl (
      served (record { bytes = bytes; head = head; uid = uid }) s,
      record {
        next = (h.code, h.few, may_come may moves terms start first p q held side drawn sent opening exchanges bytes head uid s h other fits within is takes legal);
        message = refl;
        acts = cut;
        draws = few;
        written = refl;
      },
      some,
    ))))

-- A Call was answered, and its answer written or cut.
call_sent : (may : Invocation → Outcome → Type 0) (moves : States → Call → States → Type 0) (terms : Terms) (start first : ConnectionState) (p q : PullState) (held held2 : Option (List ℕ)) (side side2 : Observed) (drawn drew sent : ℕ) (opening : Opening) (exchanges : List Exchange)
    (bytes : List ℕ) (head : CallHead) (uid : Uid) (s : AtHead) (close : Option ConnEnd) (written : Result ℕ ConnEnd)
    → IsCoded may moves terms start first (spot_at p held side drawn) p.at p.stop sent opening exchanges → is_system head.id ≡ false → FitsHead head → q.at ≤ q.stop → uid ≡ uid_drawn terms.unique terms.time drawn → Takes p q bytes → IsServed terms head bytes uid s
    → Led may moves side side2 (served_acts head uid s) → drew ≡ drawn + 1 → close ≡ served_closes head s → Writes held held2 sent (served_written uid s) written
    → StepsTo may moves terms start (spot_at q held2 side2 drew) q.at opening exchanges (result_or_close written close)
call_sent may moves terms start first p q held held2 side side2 drawn drew sent opening exchanges bytes head uid s None (Ok sent2) h other fits within is takes legal led drew_is closes writes =
    let e : Exchange = served (record { bytes = bytes; head = head; uid = uid }) s in
    let ats : q.at ≡ h.place + length (code_byte CallCode ∷ bytes) = omega (arith, takes.at, h.position) in (
      e,
      sym closes,
      stands_more may moves terms start first (spot_at q held2 side2 drew) h.place sent q.at sent2 opening exchanges e h.stands h.code (limit_left opening exchanges h.code h.few)
          (may_come may moves terms start first p q held side drawn sent opening exchanges bytes head uid s h other fits within is takes legal)
          (call_goes may moves terms start first (spot_at p held side drawn) (spot_at q held2 side2 drew) p.at p.stop sent opening exchanges bytes (served_acts head uid s) 1 (served_written uid s) h takes.left writes.0 led drew_is)
          ats writes.1,
    )
call_sent may moves terms start first p q held held2 side side2 drawn drew sent opening exchanges bytes head uid s (Some end) (Ok sent2) h other fits within is takes legal led drew_is closes writes =
    let e : Exchange = served (record { bytes = bytes; head = head; uid = uid }) s in
    let now : ConnectionState = spot_at q held2 side2 drew in
    let ats : q.at ≡ h.place + length (code_byte CallCode ∷ bytes) = omega (arith, takes.at, h.position) in
    let stood : StandsWhole may moves terms start now q.at sent2 (opened opening (exchanges ++ e ∷ [])) =
    stands_more may moves terms start first now h.place sent q.at sent2 opening exchanges e h.stands h.code (limit_left opening exchanges h.code h.few)
    (may_come may moves terms start first p q held side drawn sent opening exchanges bytes head uid s h other fits within is takes legal)
    (call_goes may moves terms start first (spot_at p held side drawn) now p.at p.stop sent opening exchanges bytes (served_acts head uid s) 1 (served_written uid s) h takes.left writes.0 led drew_is)
    ats writes.1 in
    talks_took may moves terms start now now q.at sent2 (opened opening (exchanges ++ e ∷ [])) [] end stood (sym (with_front-nothing q.left)) refl refl refl
    (closed_ends terms start.drawn (opened opening (exchanges ++ e ∷ [])) q.left head s end (sym closes) (closed_more exchanges e ∙ sym closes))
call_sent may moves terms start first p q held held2 side side2 drawn drew sent opening exchanges bytes head uid s close (Err end) h other fits within is takes legal led drew_is closes (part, less, how, wrote) =
    let e : Exchange = served (record { bytes = bytes; head = head; uid = uid }) s in
    let T : ConnEnd → Type 0 = λ x. Talked may moves terms start (spot_at q held2 side2 drew) x in
    subst T (sym how) (talks_cut may moves terms start first (spot_at q held2 side2 drew) h.place sent part (opened opening exchanges) (transcript_by e) h.stands
    (inr (inr (e, (h.code, h.few, may_come may moves terms start first p q held side drawn sent opening exchanges bytes head uid s h other fits within is takes legal), refl))) less
    (call_goes may moves terms start first (spot_at p held side drawn) (spot_at q held2 side2 drew) p.at p.stop sent opening exchanges bytes (served_acts head uid s) 1 (take part (served_written uid s)) h takes.left wrote led drew_is))

-- A Call was answered, and its answer sent.
pub call_answered : (may : Invocation → Outcome → Type 0) (moves : States → Call → States → Type 0) (terms : Terms) (start first : ConnectionState) (p q : PullState) (held held2 : Option (List ℕ)) (side side2 : Observed) (drawn drew sent faults faults2 : ℕ) (opening : Opening) (exchanges : List Exchange)
    (bytes : List ℕ) (head : CallHead) (uid : Uid) (s : AtHead) (answer : Answer) (result : Result ℕ ConnEnd)
    → IsCoded may moves terms start first (spot_at p held side drawn) p.at p.stop sent opening exchanges → is_system head.id ≡ false → FitsHead head → q.at ≤ q.stop → uid ≡ uid_drawn terms.unique terms.time drawn → Takes p q bytes → IsServed terms head bytes uid s
    → Led may moves side side2 (served_acts head uid s) → drew ≡ drawn + 1 → answer.bytes ≡ served_written uid s → answer.close ≡ served_closes head s → Sends held held2 faults faults2 sent answer result
    → StepsTo may moves terms start (spot_at q held2 side2 drew) q.at opening exchanges result
call_answered may moves terms start first p q held held2 side side2 drawn drew sent faults faults2 opening exchanges bytes head uid s answer result h other fits within is takes legal led drew_is bytes_are closes sends =
    let T : Result ℕ ConnEnd → Type 0 = λ r. StepsTo may moves terms start (spot_at q held2 side2 drew) q.at opening exchanges r in
    let W : List ℕ → Type 0 = λ l. Writes held held2 sent l sends.written in
    subst T (sym sends.is) (call_sent may moves terms start first p q held held2 side side2 drawn drew sent opening exchanges bytes head uid s answer.close sends.written h other fits within is takes legal led drew_is closes (subst W bytes_are sends.writes))

-- A Call was answered as its row says, and its answer sent.
pub call_done : (may : Invocation → Outcome → Type 0) (moves : States → Call → States → Type 0) (terms : Terms) (start first : ConnectionState) (p q : PullState) (held held2 : Option (List ℕ)) (side side2 : Observed) (drawn drew sent faults faults2 : ℕ) (opening : Opening) (exchanges : List Exchange)
    (head : CallHead) (answer : Answer) (result : Result ℕ ConnEnd)
    → IsCoded may moves terms start first (spot_at p held side drawn) p.at p.stop sent opening exchanges → is_system head.id ≡ false → FitsHead head → q.at ≤ q.stop
    → Answers may moves terms (uid_drawn terms.unique terms.time drawn) head p q side side2 drawn drew (Ok answer) → drew ≡ drawn + 1 → Sends held held2 faults faults2 sent answer result
    → StepsTo may moves terms start (spot_at q held2 side2 drew) q.at opening exchanges result
call_done may moves terms start first p q held held2 side side2 drawn drew sent faults faults2 opening exchanges head answer result h other fits within (s, bytes, takes, is, led, bytes_are, closes) drew_is sends =
    call_answered may moves terms start first p q held held2 side side2 drawn drew sent faults faults2 opening exchanges bytes head (uid_drawn terms.unique terms.time drawn) s answer result
    h other fits within refl takes is led drew_is bytes_are closes sends

-- The connection ended in a Call whose head was read.
pub call_ended : (may : Invocation → Outcome → Type 0) (moves : States → Call → States → Type 0) (terms : Terms) (start first : ConnectionState) (p q : PullState) (held : Option (List ℕ)) (side side2 : Observed) (drawn drew sent : ℕ) (opening : Opening) (exchanges : List Exchange)
    (head : CallHead) (end : ConnEnd)
    → IsCoded may moves terms start first (spot_at p held side drawn) p.at p.stop sent opening exchanges → is_system head.id ≡ false → FitsHead head → q.at ≤ q.stop
    → Answers may moves terms (uid_drawn terms.unique terms.time drawn) head p q side side2 drawn drew (Err end) → drawn ≤ drew → drew ≤ drawn + 1
    → Talked may moves terms start (spot_at q held side2 drew) end
call_ended may moves terms start first p q held side side2 drawn drew sent opening exchanges head end h other fits within how low high = elim how [
  | inl (memory, (s, bytes, takes, is, (acts, led, cut))) ↦
      call_cut may moves terms start first p q held side side2 drawn drew sent opening exchanges bytes head (uid_drawn terms.unique terms.time drawn) s acts end h other fits within refl takes is led cut low high memory
  | inr (moment, turn, kind, moment2, place, started, undrawn, breaks, led) ↦
      arguments_break may moves terms start first p q held side side2 drawn drew sent opening exchanges head moment turn kind moment2 place end h other fits within started undrawn breaks led
]

-- What was taken of a Call that was answered stays within its limit.
pub answered_within : (may : Invocation → Outcome → Type 0) (moves : States → Call → States → Type 0) (terms : Terms) (uid : Uid) (head : CallHead) (p q : PullState) (a b : Observed) (drawn drew : ℕ) (answer : Answer)
    → q.at ≤ q.stop → Answers may moves terms uid head p q a b drawn drew (Ok answer) → q.at ≤ p.stop
answered_within may moves terms uid head p q a b drawn drew answer within (s, bytes, takes, is, led, bytes_are, closes) = omega (arith, within, takes.stop)

-- ---- sending

-- An answer was cut.
pub sends_cut : (before after : Option (List ℕ)) (faults faults2 sent : ℕ) (answer : Answer) (end : ConnEnd) → Writes before after sent answer.bytes (Err end) → Rose faults faults2 → faults ≤ faults2 → Sends before after faults faults2 sent answer (Err end)
sends_cut before after faults faults2 sent answer end writes rose kept = record { written = Err end; writes = writes; rose = rose; kept = kept; is = refl }

-- An answer was written, and the connection ends with it or goes on.
pub sends_whole : (before after : Option (List ℕ)) (faults faults2 sent sent2 : ℕ) (answer : Answer) (close : Option ConnEnd) → Writes before after sent answer.bytes (Ok sent2) → faults ≤ faults2 → answer.close ≡ close → Sends before after faults faults2 sent answer (result_or_close (Ok sent2) close)
sends_whole before after faults faults2 sent sent2 answer close writes kept closes = record { written = Ok sent2; writes = writes; rose = tt; kept = kept; is = ap (result_or_close (Ok sent2)) (sym closes) }
