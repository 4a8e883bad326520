-- What a session's calls do on its link, as steps of a talk.
use Rattle.std.proofs.Common.{arith, ◌≡◌, ℕ, ◌+◌, ◌-◌, ◌<◌, ◌≤◌, true, List, [], ◌∷◌, ◌++◌, length, length-append, take, Option, Some, None, Result, Ok, Err, refl, ap, sym, subst, ◌∙◌, inl, inr}
use Rattle.std.specs.Prelude.{option_map}
use Rattle.std.specs.Prelude.{pos}
use Rattle.std.proofs.lemmas.List.{take-append-le}
use Rattle.std.proofs.lemmas.Bool.Decides.{leb_tells}
use Rattle.std.proofs.Math.Seq.{take-append-add}
use Rattle.wire_io.specs.Wire.{ReadHalf, WriteHalf, with_front, with_end, with_front-with_front, with_front-nothing, with_end-with_end, with_end-nothing, NothingLeft, Rose}
use Rattle.wire_io.specs.Pulled.{PullState, Takes, Stops}
use Rattle.wire_io.specs.declared.pull.PullEnd.{PullEnd}
use Rattle.wire_io.specs.declared.pull.PullEnd.TheVariants as pulls
use Rattle.object_ids.specs.declared.ids.Uid.{Uid}
use Rattle.object_ids.specs.Bytes.{bytes_of_uid}
use Rattle.class_desc.specs.declared.field.TypeCode.{TypeCode}
use Rattle.class_desc.specs.declared.slot.Item.{Item}
use Rattle.class_desc.specs.declared.slot.Item.TheVariants as items
use Rattle.ser_values.specs.declared.node.Node.{Node}
use Rattle.ser_read.specs.declared.fault.StreamFault.{StreamFault}
use Rattle.ser_read.specs.declared.fault.StreamFault.TheVariants as faults
use Rattle.ser_read.specs.declared.fault.StreamKind.{StreamKind}
use Rattle.ser_read.specs.declared.fault.Large.TheVariants as larges
use Rattle.ser_read.specs.Here.{fault_of, env_at, BreaksBy}
use Rattle.stream_grammar.specs.Reading.{Fault}
use Rattle.ser_read.proofs.Pulling.{takes_told}
use Rattle.jrmp_frames.specs.declared.message.Body.{Body}
use Rattle.jrmp_frames.specs.declared.message.Body.TheVariants as bodies
use Rattle.jrmp_frames.specs.declared.header.Protocol.TheVariants.{Stream}
use Rattle.jrmp_frames.specs.Frames.{IsEndpoint, IsInEndpoint, endpoint, header}
use Rattle.jrmp_frames.specs.Returns.{Carries, ReturnOf, return_at}
use Rattle.ser_read.specs.Wants.{inside, WantIsBad}
use Rattle.java_shapes.specs.Throwable.{fault_text_at}
use Rattle.jrmp_frames.specs.Gives.{StopsIn}
use Rattle.rmi_client.specs.Ends.{end_of, IsOutside}
use Rattle.rmi_client.specs.Replies.{reading, reply_stop, to_come, NoCode, exception_end, StopsReturn, TakesAck, HearsAck, TakesAnswer, HearsAnswer, reference_of, viewed}
use Rattle.rmi_client.specs.Requests.{HearsSeen, Sees}
use Rattle.rmi_client.specs.Sessions.{LinkState, link_at, Exchanges, IsCut, ReadsNothing}
use Rattle.rmi_client.specs.Sessions as session
use Rattle.rmi_client.specs.declared.end.ReplyKind.TheVariants as replies
use Rattle.rmi_client.specs.declared.end.ReplyKind.TheVariants.{WrongShape}
use Rattle.rmi_client.specs.declared.end.ClientEnd.{ClientEnd}
use Rattle.rmi_client.specs.declared.end.ClientEnd.TheVariants as ends
use Rattle.rmi_client.specs.declared.reply.Answer.{Answer}
use Rattle.client_talk.specs.Contents.{content_of, content_in, reference_held, single, tree}
use Rattle.client_talk.specs.Scripts.{Script, tells, got, stopped}
use Rattle.client_talk.specs.Talk.{Seen, Linked, IsSettledBy, ShowsBy, Talks}
use Rattle.client_talk.specs.Steps.{Stands, with_seen, IsAt, Asks, Answers, Breaks, Tells, Fails}
use Rattle.client_talk.specs.Rmi.{Message, Header, OwnHost, Acknowledge, Reply, Welcome, rmi, cause_of_end, IsMessageBytes, want_of, view_at, view_of, IsReplyBytes, HearsEnd, past_limit, StopsReading, sent_before, StopsSession, heard_view, heard_return, heard_call, heard_ack, heard_header, heard_at}
use Rattle.client_talk.specs.Commands.{greets}
use Rattle.client_talk.proofs.Talking.{now_at}
use Rattle.client_talk.proofs.Stepping.{asked_on, told_on, steps_again}
use Rattle.client_talk.specs.Sessions.{seen_of, answered, in_command}
use Rattle.client_talk.specs.declared.end.CommandEnd.TheVariants.{Session}

-- ---- what was taken where reading came to an end

-- Where that is the end of the input, nothing is left.
abbrev IsDry : ClientEnd → Option (List ℕ) → Type 0
IsDry (ends.Truncated at) left = NothingLeft left
IsDry _ left = Unit {0}

record Took (old new : PullState) (end : ClientEnd) : Type 0 where
  pub taken : List ℕ
  pub left : old.left ≡ with_front taken new.left
  pub counted : old.at + length taken ≡ new.at + past_limit end
  pub shut : new.shut ≡ old.shut
  pub dry : IsDry end new.left

took_more : (old mid new : PullState) (bytes : List ℕ) (end : ClientEnd) → Takes old mid bytes → Took mid new end → Took old new end
took_more old mid new bytes end takes t = record {
  taken = bytes ++ t.taken;
  left = takes.left ∙ ap (with_front bytes) t.left ∙ with_front-with_front bytes t.taken new.left;
  counted = omega (arith, takes.at, t.counted, length-append bytes t.taken);
  shut = t.shut ∙ takes.shut;
  dry = t.dry;
}

stops_took : (old new : PullState) (why : PullEnd) → Stops old new why → Took old new (end_of (fault_of why))
stops_took old new (pulls.End at) stops = record { taken = []; left = stops.1.left; counted = omega (arith, stops.1.at); shut = stops.1.shut; dry = stops.2 }
stops_took old new (pulls.Limit at) stops = record { taken = stops.1.dropped ∷ []; left = stops.1.left; counted = omega (arith, stops.1.at); shut = stops.1.shut; dry = tt }
stops_took old new pulls.ReadFault stops = record { taken = []; left = stops.0.left; counted = omega (arith, stops.0.at); shut = stops.0.shut; dry = tt }
stops_took old new pulls.OutOfMemory stops = record { taken = []; left = stops.left; counted = omega (arith, stops.at); shut = stops.shut; dry = tt }

-- exactly these bytes
took_by : (old new : PullState) (end : ClientEnd) (bytes : List ℕ) → Takes old new bytes → past_limit end ≡ 0 → IsDry end new.left → Took old new end
took_by old new end bytes takes none dry = record { taken = bytes; left = takes.left; counted = omega (arith, takes.at, none); shut = takes.shut; dry = dry }

no_code_took : (old new : PullState) (end : ClientEnd) → NoCode old new end → Took old new end
no_code_took old new end h = subst (Took old new) (sym h.is) (stops_took old new h.why h.stops)

breaks_took : {Y F : Type 0} (said : Fault → F) (of_kind : Result Y F → StreamKind → ℕ → Type 0) (old new : PullState) (fault : StreamFault) (read : ℕ → List ℕ → Result Y F)
    → BreaksBy said of_kind old new fault read → Took old new (end_of fault)
breaks_took said of_kind old new (faults.Bad kind at) read h = took_by old new (ends.BadReply (replies.Stream kind) at) h.taken h.takes refl tt
breaks_took said of_kind old new (faults.TooLarge larges.Nodes at) read h = took_by old new (ends.TooLarge larges.Nodes at) h.taken h.takes refl tt
breaks_took said of_kind old new (faults.TooLarge larges.Depth at) read h = took_by old new (ends.TooLarge larges.Depth at) h.taken h.takes refl tt
breaks_took said of_kind old new (faults.TooLarge larges.Bytes at) read (mid, short, passes) =
    took_more old mid new short.taken (ends.TooLarge larges.Bytes at) short.takes
    (record { taken = passes.dropped ∷ []; left = passes.left; counted = omega (arith, passes.at); shut = passes.shut; dry = tt })
breaks_took said of_kind old new (faults.Truncated at) read (short, nothing) = took_by old new (ends.Truncated at) short.taken short.takes refl nothing
breaks_took said of_kind old new faults.ReadFault read (short, rose) = took_by old new ends.ReadFault short.taken short.takes refl tt
breaks_took said of_kind old new faults.OutOfMemory read h = took_by old new ends.OutOfMemory h.taken h.takes refl tt

took_exception : (old new : PullState) (bytes : List ℕ) (text : Option (List ℕ)) → Takes old new bytes → Took old new (exception_end new.at text)
took_exception old new bytes (Some text) takes = took_by old new (ends.RemoteFault text) bytes takes refl tt
took_exception old new bytes None takes = took_by old new (ends.BadReply WrongShape new.at) bytes takes refl tt

answer_took : (old new : PullState) (want : Option TypeCode) (end : ClientEnd) → HearsAnswer old new want (Err end) → Took old new end
answer_took old new want end h = go h.takes
  where
    behind : (mid : PullState) → StopsReturn mid new want end → Took mid new end
    behind mid (inl (fault, breaks, is)) = subst (Took mid new) (sym is) (breaks_took inside WantIsBad mid new fault (return_at want) breaks.is)
    behind mid (inr (inl (byte, at, (one, two, here, reads), is))) =
        subst (Took mid new) (sym is) (took_by mid new (ends.BadReply replies.BadReturnKind at) reads.taken reads.takes refl tt)
    behind mid (inr (inr (inl (uid, body, t, is)))) =
        subst (Took mid new) (sym is) (took_exception mid new t.message (viewed fault_text_at (reference_of body)) t.takes)
    behind mid (inr (inr (inr (normal, uid, body, t, is)))) = subst (Took mid new) (sym is) (took_by mid new ends.OutOfMemory t.message t.takes refl tt)

    go : TakesAnswer old new want (Err end) → Took old new end
    go (inl none) = no_code_took old new end none
    go (inr (inl (byte, one, not))) = subst (Took old new) (sym not.1) (took_by old new (ends.BadReply replies.NotReturn old.at) (byte ∷ []) not.0 refl tt)
    go (inr (inr (mid, t, s))) = took_more old mid new (0x51 ∷ []) end t (behind mid s)

-- ---- a whole Return

record Whole (old new : PullState) (want : Option TypeCode) (answer : Answer) : Type 0 where
  pub taken : List ℕ
  pub takes : Takes old new taken
  pub is : ReturnOf want true answer.uid answer.body taken

whole_of : (old new : PullState) (want : Option TypeCode) (answer : Answer) → HearsAnswer old new want (Ok answer) → Whole old new want answer
whole_of old new want answer h =
    let (mid, t, r) = h.takes in
    record {
      taken = 0x51 ∷ r.message;
      takes = record {
        left = t.left ∙ ap (with_front (0x51 ∷ [])) r.takes.left ∙ with_front-with_front (0x51 ∷ []) r.message new.left;
        at = omega (arith, t.at, r.takes.at);
        stop = r.takes.stop ∙ t.stop;
        faults = omega (arith, t.faults, r.takes.faults);
        shut = r.takes.shut ∙ t.shut;
      };
      is = r.is;
    }

carried_content : (want : Option TypeCode) (answers : List Item) (nodes : List Node) (body : Body) → Carries want answers nodes body → content_in want nodes answers ≡ content_of body
carried_content None [] nodes bodies.Void h = refl
carried_content (Some code) (items.Bytes b ∷ []) nodes (bodies.Prim value) h = ap single (sym h)
carried_content (Some code) (items.Ref s ∷ []) nodes (bodies.Tree graph) h =
    ap (λ ns. tree ns (items.Ref s ∷ [])) (sym h.0) ∙ ap (tree graph.nodes) (sym h.1)
carried_content _ _ _ _ h = absurd h

-- what the bytes to come answer, where a Return was read
return_heard : (message : Message) (half half2 : ReadHalf) (at at2 : ℕ) (answer : Answer) (bytes : List ℕ)
    → (h : HearsAnswer (reading half at at) (reading half2 at at2) (want_of message) (Ok answer)) → half.left ≡ Some bytes
    → heard_call message at (Some bytes)
    ≡ heard_view (at + length (whole_of _ _ _ _ h).taken) (length (whole_of _ _ _ _ h).taken) (view_of message answer)
return_heard message half half2 at at2 answer bytes h left =
    let told : (env_at half.left at (reply_stop at)).told ≡ true = subst (λ o. (env_at o at (reply_stop at)).told ≡ true) (sym left) refl in
    let (y, read, (is, rest)) = h.gives told in
    let w = whole_of _ _ _ _ h in
    let count : length (to_come (reading half at at)) - length y.1 ≡ length w.taken =
    omega (
      arith,
      ap (λ (xs : List ℕ). length xs) (takes_told (reading half at at) (reading half2 at at2) w.taken w.takes h.within told),
      length-append w.taken (to_come (reading half2 at at2)),
      ap (λ (xs : List ℕ). length xs) rest,
    ) in
    ap (heard_call message at) (sym left)
    ∙ ap (heard_return message at (length (to_come (reading half at at)))) read
    ∙ ap (λ n. heard_view (at + n) n (view_at message y.0.uid (content_in (want_of message) y.0.nodes y.0.answers))) count
    ∙ ap (λ uid. heard_view (at + length w.taken) (length w.taken) (view_at message uid (content_in (want_of message) y.0.nodes y.0.answers))) is.0
    ∙ ap (λ content. heard_view (at + length w.taken) (length w.taken) (view_at message (bytes_of_uid answer.uid) content)) (carried_content (want_of message) y.0.answers y.0.nodes answer.body is.1)

pub held_same : (body : Body) → reference_held (content_of body) ≡ reference_of body
held_same bodies.Void = refl
held_same (bodies.Prim value) = refl
held_same (bodies.Tree graph) = refl

-- ---- the messages whose replies are Returns

abbrev IsCall : Message → Type 0
IsCall Header = ⊥
IsCall _ = Unit {0}

reply_by : (message : Message) (at : ℕ) (bytes : List ℕ) (uid : Uid) (body : Body) (reply : Reply) → IsCall message → ReturnOf (want_of message) true uid body bytes
    → view_at message (bytes_of_uid uid) (content_of body) ≡ Some reply → IsReplyBytes message at bytes reply
reply_by Header at bytes uid body reply call is view = absurd call
reply_by _ at bytes uid body reply call is view = (uid, body, is, view)

heard_by : (message : Message) (at : ℕ) (bytes : List ℕ) → IsCall message → heard_at message at bytes ≡ heard_call message at (Some bytes)
heard_by Header at bytes call = absurd call
heard_by _ at bytes call = refl

ends_by : (message : Message) (old new : PullState) (end : ClientEnd) → IsCall message → HearsSeen (view_of message) (want_of message) old new (Err end) → HearsEnd message old new end
ends_by Header old new end call h = absurd call
ends_by _ old new end call h = h

-- Reading answers neither that writing failed nor that the session is over.
abbrev IsRead : ClientEnd → Type 0
IsRead ends.Over = ⊥
IsRead (ends.WriteFault n) = ⊥
IsRead _ = Unit {0}

stops_by : (message : Message) (at : ℕ) (sent taken : List ℕ) (rest : Option (List ℕ)) (end : ClientEnd) → IsRead end → IsMessageBytes message sent → StopsReading message at taken rest end
    → StopsSession message at sent taken rest end
stops_by message at sent taken rest ends.Over reads is stops = absurd reads
stops_by message at sent taken rest (ends.WriteFault n) reads is stops = absurd reads
stops_by message at sent taken rest ends.OutOfMemory reads is stops = inr (is, stops)
stops_by message at sent taken rest _ reads is stops = (is, stops)

risen : (before after : ℕ) → Rose before after → 0 < after
risen before after rose = grind (arith, rose.0, rose.1)

shown_by : (end : ClientEnd) (seen : Seen) → IsRead end → IsDry end seen.read.left → (end ≡ ends.ReadFault → 0 < seen.read.faults) → ShowsBy (cause_of_end end) seen
shown_by ends.Over seen reads dry faulty = absurd reads
shown_by (ends.WriteFault n) seen reads dry faulty = absurd reads
shown_by (ends.Truncated at) seen reads dry faulty = dry
shown_by ends.ReadFault seen reads dry faulty = faulty refl
shown_by _ seen reads dry faulty = tt

settled_inside : (end : ClientEnd) → IsSettledBy (cause_of_end end) → IsOutside end → ⊥
settled_inside ends.OutOfMemory settled outside = settled
settled_inside ends.ReadFault settled outside = settled
settled_inside _ settled outside = outside

-- ---- a call

reads_sees : {V : Type 0} (at : ℕ) (shown : Option V) (end : ClientEnd) → Sees at shown (Err end) → IsRead end
reads_sees at shown end (inl (none, is)) = subst IsRead (sym is) tt
reads_sees at shown end (inr is) = subst IsRead (sym is) tt

-- what a call of another view answers
pub record Viewed {V : Type 0} (message : Message) (view : Answer → Option V) (into : V → Reply) : Type 0 where
  pub same : (answer : Answer) → view_of message answer ≡ option_map into (view answer)

sees_end : {V : Type 0} (message : Message) (view : Answer → Option V) (into : V → Reply) → Viewed message view into → (at : ℕ) (answer : Answer) (end : ClientEnd)
    → Sees at (view answer) (Err end) → Sees {V = Reply} at (view_of message answer) (Err end)
sees_end message view into viewed at answer end (inl (none, is)) = inl (viewed.same answer ∙ ap (option_map into) none, is)
sees_end message view into viewed at answer end (inr is) = inr is

answered_call : {V : Type 0} (message : Message) (view : Answer → Option V) (into : V → Reply) → IsCall message → Viewed message view into → (old new : LinkState) (value : V)
    → Exchanges (IsMessageBytes message) (HearsSeen view (want_of message)) old new (Ok value) → Answers rmi (seen_of old) (seen_of new) message (into value)
answered_call message view into call viewed old new value (bytes, is, sends, inr (end, hears, same)) = absurd cc
answered_call message view into call viewed old new value (bytes, is, sends, inl (answer, hears, shown)) =
    let w = whole_of _ _ _ _ hears in
    let seen : view_of message answer ≡ Some (into value) = viewed.same answer ∙ ap (option_map into) shown in
    record {
      sent = bytes;
      taken = w.taken;
      moves = record { left = w.takes.left; held = sends.held; read_shut = w.takes.shut; write_shut = sends.shut };
      position = w.takes.at;
      is_message = is;
      is_reply = reply_by message old.at w.taken answer.uid answer.body (into value) call w.is seen;
      gives = λ coming left. heard_by message old.at coming call ∙ return_heard message old.read new.read old.at new.at answer coming hears left
          ∙ ap (heard_view (old.at + length w.taken) (length w.taken)) seen;
    }

none_past : {V : Type 0} (at : ℕ) (shown : Option V) (end : ClientEnd) → Sees at shown (Err end) → past_limit end ≡ 0
none_past at shown end (inl (none, is)) = ap past_limit is
none_past at shown end (inr is) = ap past_limit is

-- the reading of a call's reply that came to an end
record Ended (message : Message) (old new : LinkState) (end : ClientEnd) : Type 0 where
  pub taken : List ℕ
  pub left : old.read.left ≡ with_front taken new.read.left
  pub counted : old.at + length taken ≡ new.at + past_limit end
  pub shut : new.read.shut ≡ old.read.shut
  pub reads : IsRead end
  pub dry : IsDry end new.read.left
  pub faulty : end ≡ ends.ReadFault → 0 < new.read.faults
  pub gives : IsSettledBy (cause_of_end end) → (bytes : List ℕ) → old.read.left ≡ Some bytes → heard_call message old.at (Some bytes) ≡ stopped (Session end)

is_heard : (old new : PullState) (want : Option TypeCode) (end : ClientEnd) → HearsAnswer old new want (Err end) → IsRead end
is_heard old new want end h = go h.takes
  where
    faulted : (fault : StreamFault) → IsRead (end_of fault)
    faulted (faults.Bad kind at) = tt
    faulted (faults.TooLarge what at) = tt
    faulted (faults.Truncated at) = tt
    faulted faults.ReadFault = tt
    faulted faults.OutOfMemory = tt

    thrown : (at : ℕ) (text : Option (List ℕ)) → IsRead (exception_end at text)
    thrown at (Some text) = tt
    thrown at None = tt

    behind : (mid : PullState) → StopsReturn mid new want end → IsRead end
    behind mid (inl (fault, breaks, is)) = subst IsRead (sym is) (faulted fault)
    behind mid (inr (inl (byte, at, breaks, is))) = subst IsRead (sym is) tt
    behind mid (inr (inr (inl (uid, body, t, is)))) = subst IsRead (sym is) (thrown new.at (viewed fault_text_at (reference_of body)))
    behind mid (inr (inr (inr (normal, uid, body, t, is)))) = subst IsRead (sym is) tt

    go : TakesAnswer old new want (Err end) → IsRead end
    go (inl none) = subst IsRead (sym none.is) (faulted (fault_of none.why))
    go (inr (inl (byte, one, not))) = subst IsRead (sym not.1) tt
    go (inr (inr (mid, t, s))) = behind mid s

-- Reading came to an end of its own.
ended_unread : (message : Message) (old new : LinkState) (end : ClientEnd) → HearsAnswer (reading old.read old.at old.at) (reading new.read old.at new.at) (want_of message) (Err end) → Ended message old new end
ended_unread message old new end h =
    let took = answer_took _ _ _ _ h in
    record {
      taken = took.taken;
      left = took.left;
      counted = took.counted;
      shut = took.shut;
      reads = is_heard _ _ _ _ h;
      dry = took.dry;
      faulty = λ same. risen old.read.faults new.read.faults (h.blames.1 (ap Err same));
      gives = λ settled bytes left. elim (h.gives (subst (λ o. (env_at o old.at (reply_stop old.at)).told ≡ true) (sym left) refl)) [
        | inl outside ↦ absurd (settled_inside end settled outside)
        | inr read ↦ ap (heard_call message old.at) (sym left) ∙ ap (heard_return message old.at (length (to_come (reading old.read old.at old.at)))) read
      ];
    }

-- A Return was read that has not the wanted shape, or there was no memory for its view.
ended_unseen : (message : Message) (old new : LinkState) (answer : Answer) (end : ClientEnd) → HearsAnswer (reading old.read old.at old.at) (reading new.read old.at new.at) (want_of message) (Ok answer)
    → Sees {V = Reply} new.at (view_of message answer) (Err end) → Ended message old new end
ended_unseen message old new answer end h sees =
    let w = whole_of _ _ _ _ h in
    record {
      taken = w.taken;
      left = w.takes.left;
      counted = omega (arith, w.takes.at, none_past new.at (view_of message answer) end sees);
      shut = w.takes.shut;
      reads = reads_sees new.at _ end sees;
      dry = elim sees [ inl e ↦ subst (λ x. IsDry x new.read.left) (sym e.1) tt | inr e ↦ subst (λ x. IsDry x new.read.left) (sym e) tt ];
      faulty = λ same. elim sees [ inl e ↦ absurd (not_fault end e.1 same) | inr e ↦ absurd (not_memory end e same) ];
      gives = λ settled bytes left. elim sees [
        | inl e ↦ return_heard message old.read new.read old.at new.at answer bytes h left ∙ ap (heard_view (old.at + length w.taken) (length w.taken)) e.0
            ∙ ap (λ n. stopped (Session (ends.BadReply WrongShape n))) (sym w.takes.at) ∙ ap (λ x. stopped (Session x)) (sym e.1)
        | inr e ↦ absurd (subst (λ x. IsSettledBy (cause_of_end x)) e settled)
      ];
    }
  where
    not_fault : (x : ClientEnd) → x ≡ ends.BadReply WrongShape new.at → x ≡ ends.ReadFault → ⊥
    not_fault x one other = cc

    not_memory : (x : ClientEnd) → x ≡ ends.OutOfMemory → x ≡ ends.ReadFault → ⊥
    not_memory x one other = cc

ended_of : (message : Message) (old new : LinkState) (end : ClientEnd) → HearsSeen (view_of message) (want_of message) (reading old.read old.at old.at) (reading new.read old.at new.at) (Err end)
    → Ended message old new end
ended_of message old new end (inl (answer, hears, sees)) = ended_unseen message old new answer end hears sees
ended_of message old new end (inr (other, hears, same)) =
    subst (Ended message old new) (sym (same_end end other same)) (ended_unread message old new other hears)
  where
    same_end : (x y : ClientEnd) → ◌≡◌ {A = Result Reply ClientEnd} (Err x) (Err y) → x ≡ y
    same_end x y same = cc

seen_end : {V : Type 0} (message : Message) (view : Answer → Option V) (into : V → Reply) → Viewed message view into → (old new : PullState) (end : ClientEnd)
    → HearsSeen view (want_of message) old new (Err end) → HearsSeen (view_of message) (want_of message) old new (Err end)
seen_end message view into viewed old new end (inl (answer, hears, sees)) = inl (answer, hears, sees_end message view into viewed new.at answer end sees)
seen_end {V} message view into viewed old new end (inr (other, hears, same)) = inr (other, hears, ap Err (same_end end other same))
  where
    same_end : (x y : ClientEnd) → ◌≡◌ {A = Result V ClientEnd} (Err x) (Err y) → x ≡ y
    same_end x y same = cc

broken_call : {V : Type 0} (message : Message) (view : Answer → Option V) (into : V → Reply) → IsCall message → Viewed message view into → (old new : LinkState) (end : ClientEnd)
    → Exchanges (IsMessageBytes message) (HearsSeen view (want_of message)) old new (Err end) → Breaks rmi (seen_of old) (seen_of new) message (Session end)
broken_call message view into call viewed old new end (bytes, is, sends, hears) =
    let seen = seen_end message view into viewed _ _ end hears in
    let e = ended_of message old new end seen in
    record {
      sent = bytes;
      taken = e.taken;
      moves = record { left = e.left; held = sends.held; read_shut = e.shut; write_shut = sends.shut };
      stops = stops_by message old.at bytes e.taken new.read.left end e.reads is
          (record { old = old.read; new = new.read; later = new.at; left = e.left; behind = refl; counted = e.counted; hears = ends_by message _ _ end call seen });
      shows = shown_by end (seen_of new) e.reads e.dry e.faulty;
      gives = λ settled coming left. heard_by message old.at coming call ∙ e.gives settled coming left;
    }

-- Writing failed.
cut_call : (message : Message) (old new : LinkState) (n : ℕ) → sent_before message ≡ 0 → IsCut (IsMessageBytes message) old new n → Breaks rmi (seen_of old) (seen_of new) message (Session (ends.WriteFault n))
cut_call message old new n none (bytes, is, front, nothing) = record {
  sent = take n bytes;
  taken = [];
  moves = record {
    left = ap (λ (h : ReadHalf). h.left) (sym nothing.0) ∙ sym (with_front-nothing new.read.left);
    held = front.sends.held;
    read_shut = ap (λ (h : ReadHalf). h.shut) nothing.0;
    write_shut = front.sends.shut;
  };
  stops = record { bytes = bytes; written = n; is_message = is; few = front.few; sent_are = refl; counted = omega (arith, none); none_taken = refl };
  shows = risen old.write.faults new.write.faults front.rose;
  gives = λ settled. absurd settled;
}

-- There was no memory, and nothing was done.
lacking : (message : Message) (old new : LinkState) → new ≡ old → Breaks rmi (seen_of old) (seen_of new) message (Session ends.OutOfMemory)
lacking message old new same = record {
  sent = [];
  taken = [];
  moves = record {
    left = ap (λ (l : LinkState). l.read.left) (sym same) ∙ sym (with_front-nothing new.read.left);
    held = ap (λ (l : LinkState). l.write.held) same ∙ sym (with_end-nothing old.write.held);
    read_shut = ap (λ (l : LinkState). l.read.shut) same;
    write_shut = ap (λ (l : LinkState). l.write.shut) same;
  };
  stops = inl (refl, refl);
  shows = tt;
  gives = λ settled. absurd settled;
}

pub asked_by : {V : Type 0} (message : Message) (view : Answer → Option V) (into : V → Reply) → IsCall message → sent_before message ≡ 0 → Viewed message view into → (old new : LinkState) (result : Result V ClientEnd)
    → session.Asks (IsMessageBytes message) (HearsSeen view (want_of message)) old new result → Asks rmi (seen_of old) (seen_of new) message (answered into result)
asked_by message view into call none viewed old new (Ok value) h = answered_call message view into call viewed old new value h
asked_by message view into call none viewed old new (Err ends.Over) h = absurd h
asked_by message view into call none viewed old new (Err (ends.WriteFault n)) h = cut_call message old new n none h
asked_by message view into call none viewed old new (Err ends.OutOfMemory) (inl same) = lacking message old new same
asked_by message view into call none viewed old new (Err ends.OutOfMemory) (inr h) = broken_call message view into call viewed old new ends.OutOfMemory h
asked_by message view into call none viewed old new (Err ends.Nack) h = broken_call message view into call viewed old new ends.Nack h
asked_by message view into call none viewed old new (Err (ends.BadReply kind at)) h = broken_call message view into call viewed old new (ends.BadReply kind at) h
asked_by message view into call none viewed old new (Err (ends.TooLarge what at)) h = broken_call message view into call viewed old new (ends.TooLarge what at) h
asked_by message view into call none viewed old new (Err (ends.Truncated at)) h = broken_call message view into call viewed old new (ends.Truncated at) h
asked_by message view into call none viewed old new (Err (ends.RemoteFault text)) h = broken_call message view into call viewed old new (ends.RemoteFault text) h
asked_by message view into call none viewed old new (Err ends.ReadFault) h = broken_call message view into call viewed old new ends.ReadFault h

-- ---- an acknowledgement

pub acked_by : (uid : Uid) (old new : LinkState) (result : Result (Unit {0}) ClientEnd)
    → session.Tells (session.IsDgcAck uid) old new result → Tells rmi (seen_of old) (seen_of new) (Acknowledge (bytes_of_uid uid)) (in_command result)
acked_by uid old new (Ok done) (bytes, is, sends, nothing) = record {
  sent = bytes;
  moves = record {
    left = ap (λ (h : ReadHalf). h.left) (sym nothing.0) ∙ sym (with_front-nothing new.read.left);
    held = sends.held;
    read_shut = ap (λ (h : ReadHalf). h.shut) nothing.0;
    write_shut = sends.shut;
  };
  position = nothing.1;
  is_message = is;
}
acked_by uid old new (Err (ends.WriteFault n)) (bytes, is, front, nothing) = record {
  sent = take n bytes;
  moves = record {
    left = ap (λ (h : ReadHalf). h.left) (sym nothing.0) ∙ sym (with_front-nothing new.read.left);
    held = front.sends.held;
    read_shut = ap (λ (h : ReadHalf). h.shut) nothing.0;
    write_shut = front.sends.shut;
  };
  outside = tt;
  stops = record { bytes = bytes; written = n; is_message = is; few = front.few; sent_are = refl; counted = omega arith; none_taken = refl };
  shows = risen old.write.faults new.write.faults front.rose;
}
acked_by uid old new (Err _) h = absurd h

-- ---- the beginning of a session

endpoint_short : (bytes : List ℕ) → IsEndpoint bytes → length bytes ≤ 65541
endpoint_short [] is = absurd is
endpoint_short (high ∷ []) is = absurd is
endpoint_short (high ∷ low ∷ more) (small, small2, is) = omega (arith, small, small2, is)

stop_is : reply_stop 0 ≡ 16777216
stop_is = refl

-- the header was acknowledged
welcomed : (read read2 : ReadHalf) (write write2 : WriteHalf) (at2 : ℕ) → write2.held ≡ with_end write.held (header Stream) → write2.shut ≡ write.shut
    → HearsAck {A = Unit {0}} (reading read 0 0) (reading read2 0 at2) (Ok tt)
    → Answers rmi (seen_of (link_at read write 0)) (seen_of (link_at read2 write2 at2)) Header Welcome
welcomed read read2 write write2 at2 held still h =
    let (mid, t, (bytes, is, r)) = h.takes in
    let takes : Takes (reading read 0 0) (reading read2 0 at2) (0x4E ∷ bytes) = record {
      left = t.left ∙ ap (with_front (0x4E ∷ [])) r.left ∙ with_front-with_front (0x4E ∷ []) bytes read2.left;
      at = omega (arith, t.at, r.at);
      stop = r.stop ∙ t.stop;
      faults = omega (arith, t.faults, r.faults);
      shut = r.shut ∙ t.shut;
    } in
    let within : at2 ≤ reply_stop 0 = omega (arith, t.at, r.at, endpoint_short bytes is, stop_is) in
    record {
      sent = header Stream;
      taken = 0x4E ∷ bytes;
      moves = record { left = takes.left; held = held; read_shut = takes.shut; write_shut = still };
      position = takes.at;
      is_message = refl;
      is_reply = (bytes, refl, is, refl);
      gives = λ coming left.
          let told : (env_at read.left 0 (reply_stop 0)).told ≡ true = subst (λ o. (env_at o 0 (reply_stop 0)).told ≡ true) (sym left) refl in
          let (rest, heard, same) = h.gives told in
          let count : length (to_come (reading read 0 0)) - length rest ≡ length (0x4E ∷ bytes) =
          omega (
            arith,
            ap (λ (xs : List ℕ). length xs) (takes_told (reading read 0 0) (reading read2 0 at2) (0x4E ∷ bytes) takes within told),
            length-append (0x4E ∷ bytes) (to_come (reading read2 0 at2)),
            ap (λ (xs : List ℕ). length xs) same,
          ) in
          ap (heard_header 0) (sym left) ∙ ap (heard_ack (length (to_come (reading read 0 0)))) heard ∙ ap (got Welcome) count;
    }

ack_took : (old new : PullState) (end : ClientEnd) → HearsAck {A = Unit {0}} old new (Err end) → Took old new end
ack_took old new end h = go h.takes
  where
    stopped_in : (mid : PullState) (fault : StreamFault) → StopsIn IsInEndpoint mid new fault → Took mid new (end_of fault)
    stopped_in mid (faults.Truncated at) s = took_more mid s.mid new s.part (ends.Truncated at) s.takes (stops_took s.mid new (pulls.End at) s.stops)
    stopped_in mid (faults.TooLarge larges.Bytes at) s = took_more mid s.mid new s.part (ends.TooLarge larges.Bytes at) s.takes (stops_took s.mid new (pulls.Limit at) s.stops)
    stopped_in mid faults.ReadFault s = took_more mid s.mid new s.part ends.ReadFault s.takes (stops_took s.mid new pulls.ReadFault s.stops)
    stopped_in mid _ s = absurd s

    go : TakesAck {A = Unit {0}} old new (Err end) → Took old new end
    go (inl none) = no_code_took old new end none
    go (inr (inl (byte, one, two, not))) = subst (Took old new) (sym not.1) (took_by old new (ends.BadReply replies.NotReturn old.at) (byte ∷ []) not.0 refl tt)
    go (inr (inr (inl (t, is)))) = subst (Took old new) (sym is) (took_by old new ends.Nack (0x4F ∷ []) t refl tt)
    go (inr (inr (inr (mid, t, (fault, stops, is))))) = took_more old mid new (0x4E ∷ []) end t (subst (Took mid new) (sym is) (stopped_in mid fault stops))

-- the header was not acknowledged
unwelcome : (read read2 : ReadHalf) (write write2 : WriteHalf) (at2 : ℕ) (end : ClientEnd) → IsRead end → write2.held ≡ with_end write.held (header Stream) → write2.shut ≡ write.shut
    → HearsAck {A = Unit {0}} (reading read 0 0) (reading read2 0 at2) (Err end)
    → Breaks rmi (seen_of (link_at read write 0)) (seen_of (link_at read2 write2 at2)) Header (Session end)
unwelcome read read2 write write2 at2 end reads held still h =
    let took = ack_took _ _ end h in
    record {
      sent = header Stream;
      taken = took.taken;
      moves = record { left = took.left; held = held; read_shut = took.shut; write_shut = still };
      stops = stops_by Header 0 (header Stream) took.taken read2.left end reads refl
          (record { old = read; new = read2; later = at2; left = took.left; behind = refl; counted = took.counted; hears = h });
      shows = shown_by end (seen_of (link_at read2 write2 at2)) reads took.dry (λ same. risen read.faults read2.faults (h.blames.1 (ap Err same)));
      gives = λ settled bytes left. elim (h.gives (subst (λ o. (env_at o 0 (reply_stop 0)).told ≡ true) (sym left) refl)) [
        | inl outside ↦ absurd (settled_inside end settled outside)
        | inr heard ↦ ap (heard_header 0) (sym left) ∙ ap (heard_ack (length (to_come (reading read 0 0)))) heard
      ];
    }

-- what is written once the header is
abbrev with_header : WriteHalf → WriteHalf
with_header write = record write { held = with_end write.held (header Stream) }

abbrev greeted : LinkState → WriteHalf → Seen
greeted new write = seen_of (link_at new.read (with_header write) new.at)

greeted_on : {V : Type 0} (s : Script rmi V) (k : ℕ) (links : List Linked) (given given2 : Option (List ℕ)) (host : List ℕ) (next : Script rmi V) (read read2 : ReadHalf) (write : WriteHalf) (at2 : ℕ)
    → IsAt k links (seen_of (link_at read write 0)) → Stands s links given given2 (greets k host next)
    → HearsAck {A = Unit {0}} (reading read 0 0) (reading read2 0 at2) (Ok tt)
    → Stands s (with_seen k (seen_of (link_at read2 (with_header write) at2)) links) given given2 (tells k (OwnHost host) next)
greeted_on s k links given given2 host next read read2 write at2 here stands h =
    asked_on s k links given given2 (seen_of (link_at read write 0)) (seen_of (link_at read2 (with_header write) at2)) Header (λ w. tells k (OwnHost host) next) (Ok Welcome) stands here
    (welcomed read read2 write (with_header write) at2 refl refl h)

-- A session opened.
pub begun_on : {V : Type 0} (s : Script rmi V) (k : ℕ) (links : List Linked) (given given2 : Option (List ℕ)) (host : List ℕ) (next : Script rmi V) (read : ReadHalf) (write : WriteHalf) (new : LinkState)
    → IsAt k links (seen_of (link_at read write 0)) → Stands s links given given2 (greets k host next)
    → session.Begins {A = Unit {0}} host (link_at read write 0) new (Ok tt) → Stands s (with_seen k (seen_of new) links) given given2 next
begun_on s k links given given2 host next read write new here stands (sends, hears) =
    steps_again {A = Unit {0}} s k links (greeted new write) (seen_of new) given given2 (λ u. next) (Ok tt)
    (told_on {A = Unit {0}} s k (with_seen k (greeted new write) links) given given2 (greeted new write) (seen_of new) (OwnHost host) next (Ok tt)
    (greeted_on s k links given given2 host next read new.read write new.at here stands hears) (now_at k _ (greeted new write) links here)
    (record {
      sent = endpoint host (pos 0);
      moves = record {
        left = sym (with_front-nothing new.read.left);
        held = sends.held ∙ sym (with_end-with_end write.held (header Stream) (endpoint host (pos 0)));
        read_shut = refl;
        write_shut = sends.shut;
      };
      position = refl;
      is_message = refl;
    }))

-- Writing the endpoint failed.
host_cut : (host : List ℕ) (write : WriteHalf) (new : LinkState) (m : ℕ) → session.SendsFront write new.write (7 + m) (header Stream ++ endpoint host (pos 0))
    → Fails rmi (greeted new write) (seen_of new) (OwnHost host) (Session (ends.WriteFault (7 + m)))
host_cut host write new m front = record {
  sent = take m (endpoint host (pos 0));
  moves = record {
    left = sym (with_front-nothing new.read.left);
    held = front.sends.held ∙ ap (with_end write.held) (take-append-add (header Stream) (endpoint host (pos 0)) m)
        ∙ sym (with_end-with_end write.held (header Stream) (take m (endpoint host (pos 0))));
    read_shut = refl;
    write_shut = front.sends.shut;
  };
  outside = tt;
  stops = record {
    bytes = endpoint host (pos 0);
    written = m;
    is_message = refl;
    few = omega (arith, front.few, length-append (header Stream) (endpoint host (pos 0)), header_length);
    sent_are = refl;
    counted = refl;
    none_taken = refl;
  };
  shows = risen write.faults new.write.faults front.rose;
}
  where
    header_length : length (header Stream) ≡ 7
    header_length = refl

-- Writing the header failed.
header_cut : (host : List ℕ) (read : ReadHalf) (write : WriteHalf) (new : LinkState) (n : ℕ) → n < 7 → session.SendsFront write new.write n (header Stream ++ endpoint host (pos 0))
    → ReadsNothing (link_at read write 0) new → Breaks rmi (seen_of (link_at read write 0)) (seen_of new) Header (Session (ends.WriteFault n))
header_cut host read write new n few front nothing = record {
  sent = take n (header Stream);
  taken = [];
  moves = record {
    left = ap (λ (h : ReadHalf). h.left) (sym nothing.0) ∙ sym (with_front-nothing new.read.left);
    held = front.sends.held ∙ ap (with_end write.held) (take-append-le n (header Stream) (endpoint host (pos 0)) (omega (arith, few, header_length)));
    read_shut = ap (λ (h : ReadHalf). h.shut) nothing.0;
    write_shut = front.sends.shut;
  };
  stops = record { bytes = header Stream; written = n; is_message = refl; few = few; sent_are = refl; counted = omega arith; none_taken = refl };
  shows = risen write.faults new.write.faults front.rose;
  gives = λ settled. absurd settled;
}
  where
    header_length : length (header Stream) ≡ 7
    header_length = refl

-- No session opened.
pub unbegun_on : {V : Type 0} (s : Script rmi V) (k : ℕ) (links : List Linked) (given given2 : Option (List ℕ)) (host : List ℕ) (next : Script rmi V) (read : ReadHalf) (write : WriteHalf) (new : LinkState) (end : ClientEnd)
    → IsAt k links (seen_of (link_at read write 0)) → Stands s links given given2 (greets k host next)
    → session.Begins {A = Unit {0}} host (link_at read write 0) new (Err end) → Talks s (with_seen k (seen_of new) links) given given2 (Err (Session end))
unbegun_on s k links given given2 host next read write new end here stands h = go end h
  where
    broken : (end : ClientEnd) → Breaks rmi (seen_of (link_at read write 0)) (seen_of new) Header (Session end) → Talks s (with_seen k (seen_of new) links) given given2 (Err (Session end))
    broken end breaks = asked_on s k links given given2 (seen_of (link_at read write 0)) (seen_of new) Header (λ w. tells k (OwnHost host) next) (Err (Session end)) stands here breaks

    unread : (end : ClientEnd) → IsRead end → Exchanges {A = Unit {0}} session.IsHeader HearsAck (link_at read write 0) new (Err end) → Talks s (with_seen k (seen_of new) links) given given2 (Err (Session end))
    unread end reads (bytes, is, sends, hears) =
        broken end (unwelcome read new.read write new.write new.at end reads (sends.held ∙ ap (with_end write.held) is) sends.shut hears)

    cut_behind : (n m : ℕ) → n ≡ 7 + m → session.SendsFront write new.write n (header Stream ++ endpoint host (pos 0)) → session.HearsAcked (link_at read write 0) new
        → Talks s (with_seen k (seen_of new) links) given given2 (Err (Session (ends.WriteFault n)))
    cut_behind n m is front hears =
        subst (λ x. Talks s (with_seen k (seen_of new) links) given given2 (Err (Session (ends.WriteFault x)))) (sym is)
        (steps_again {A = Unit {0}} s k links (greeted new write) (seen_of new) given given2 (λ u. next) (Err (Session (ends.WriteFault (7 + m))))
        (told_on {A = Unit {0}} s k (with_seen k (greeted new write) links) given given2 (greeted new write) (seen_of new) (OwnHost host) next (Err (Session (ends.WriteFault (7 + m))))
        (greeted_on s k links given given2 host next read new.read write new.at here stands hears) (now_at k _ (greeted new write) links here)
        (host_cut host write new m (subst (λ x. session.SendsFront write new.write x (header Stream ++ endpoint host (pos 0))) is front))))

    go : (end : ClientEnd) → session.Begins {A = Unit {0}} host (link_at read write 0) new (Err end) → Talks s (with_seen k (seen_of new) links) given given2 (Err (Session end))
    go ends.Over h = absurd h
    go ends.OutOfMemory same = broken ends.OutOfMemory (lacking Header (link_at read write 0) new same)
    go (ends.WriteFault n) (front, before, behind) = elim (leb_tells 7 n) [
      | inl q ↦ cut_behind n (n - 7) (omega (arith, q.1)) front (behind q.1)
      | inr q ↦ broken (ends.WriteFault n) (header_cut host read write new n q.1 front (before q.1))
    ]
    go ends.Nack h = unread ends.Nack tt h
    go (ends.BadReply kind at) h = unread (ends.BadReply kind at) tt h
    go (ends.TooLarge what at) h = unread (ends.TooLarge what at) tt h
    go (ends.Truncated at) h = unread (ends.Truncated at) tt h
    go (ends.RemoteFault text) h = unread (ends.RemoteFault text) tt h
    go ends.ReadFault h = unread ends.ReadFault tt h
