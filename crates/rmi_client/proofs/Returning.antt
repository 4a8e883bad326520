-- What Returns come to.
use Rattle.std.proofs.Common.{◌≡◌, ◌≢◌, ℕ, ◌+◌, ◌-◌, ◌≤◌, Bool, true, false, List, [], ◌∷◌, length, length-append, Option, Some, None, Result, Ok, Err, refl, sym, ap, subst, ◌∙◌, inl, inr, arith}
use Rattle.std.specs.Prelude.{◌⊎◌}
use Rattle.std.proofs.lemmas.Bool.{ne_eqb}
use Rattle.wire_io.specs.Pulled.{PullState, Takes}
use Rattle.object_ids.specs.declared.ids.Uid.{Uid}
use Rattle.object_ids.specs.Bytes.{bytes_of_uid}
use Rattle.class_desc.specs.declared.field.TypeCode.{TypeCode}
use Rattle.class_desc.specs.declared.field.TypeCode.TheVariants as codes
use Rattle.class_desc.specs.declared.slot.Item.{Item}
use Rattle.class_desc.specs.declared.slot.Item.TheVariants as items
use Rattle.ser_values.specs.declared.node.Node.{Node}
use Rattle.java_shapes.specs.Throwable.{fault_text_at}
use Rattle.ser_read.specs.declared.fault.StreamFault.{StreamFault}
use Rattle.ser_read.specs.declared.fault.StreamFault.TheVariants as faults
use Rattle.ser_read.specs.declared.fault.Large.TheVariants as larges
use Rattle.ser_read.specs.Here.{Reads, BreaksBy, env_at}
use Rattle.ser_read.specs.Wants.{inside, WantIsBad, WantBreaks}
use Rattle.ser_read.proofs.Pulling.{takes_told}
use Rattle.ser_read.proofs.Steps.{end_is}
use Rattle.ser_read.proofs.Breaking.{want_breaks_told, want_breaks_caused}
use Rattle.jrmp_frames.specs.declared.message.Body.{Body}
use Rattle.jrmp_frames.specs.declared.message.Body.TheVariants.{Void, Prim, Tree}
use Rattle.jrmp_frames.specs.declared.fault.FrameFault.TheVariants.{BadKind}
use Rattle.jrmp_frames.specs.Returns.{Carries, return_at, TakesReturn, ReadsReturn, BreaksReturn}
use Rattle.rmi_client.specs.Ends.{end_of, IsOutside, Agrees, BlamesRead}
use Rattle.rmi_client.specs.Replies.{IsTold, to_come, past_fault, NoCode, reference_in, reference_of, viewed, exception_end, IsExceptionEnd, AnswerRead, said_at, answer_at, TakesBehind, HearsReturn, IsAnswerRead, TakesAnswer, HearsAnswer}
use Rattle.rmi_client.specs.declared.end.ReplyKind.TheVariants as replies
use Rattle.rmi_client.specs.declared.end.ClientEnd.{ClientEnd}
use Rattle.rmi_client.specs.declared.end.ClientEnd.TheVariants as ends
use Rattle.rmi_client.specs.declared.reply.Answer.{Answer}
use Rattle.rmi_client.proofs.Ending.{EndsBy, fault_ends, ComesToEnd, no_code_ends, no_code_blames, no_code_stop, fault_blames, blames_none, blames_ok, later_blames}
use Rattle.rmi_client.proofs.Replying.{follows}

-- ---- behind the code

-- What is read where the bytes are told.
reads_told : {Y F : Type 0} {m : F} {p q : PullState} {read : ℕ → List ℕ → Result Y F} {out : List ℕ → Y} (r : Reads m p q read out) → q.at ≤ q.stop → IsTold p → (end : ℕ) → end ≡ p.at + length (to_come p)
    → (read end (to_come p) ≡ Ok (out (to_come q))) × (end ≡ q.at + length (to_come q))
reads_told {Y} {F} {m} {p} {q} {read} {out} r le told end here =
    let all = takes_told p q r.taken r.takes le told in
    let there : end ≡ q.at + length (to_come q) = omega (arith, here, ap (λ (bs : List ℕ). length bs) all, length-append r.taken (to_come q), r.takes.at) in
    (ap (λ n. read n (to_come p)) there ∙ ap (λ bs. read (q.at + length (to_come q)) bs) all ∙ r.is (to_come q), there)

-- The reference that an exception or a result is, as its wants gave it.
pub carried_reference : (code : TypeCode) (answers : List Item) (nodes : List Node) (body : Body) → Carries (Some code) answers nodes body → reference_in nodes answers ≡ reference_of body
carried_reference code [] nodes body h = absurd h
carried_reference code (items.Bytes b ∷ y ∷ more) nodes Void h = absurd h
carried_reference code (items.Bytes b ∷ y ∷ more) nodes (Prim v) h = absurd h
carried_reference code (items.Bytes b ∷ y ∷ more) nodes (Tree g) h = absurd h
carried_reference code (items.Ref s ∷ y ∷ more) nodes Void h = absurd h
carried_reference code (items.Ref s ∷ y ∷ more) nodes (Prim v) h = absurd h
carried_reference code (items.Ref s ∷ y ∷ more) nodes (Tree g) h = absurd h
carried_reference code (items.Bytes b ∷ []) nodes Void h = absurd h
carried_reference code (items.Bytes b ∷ []) nodes (Prim v) h = refl
carried_reference code (items.Bytes b ∷ []) nodes (Tree g) h = absurd h
carried_reference code (items.Ref s ∷ []) nodes Void h = absurd h
carried_reference code (items.Ref s ∷ []) nodes (Prim v) h = absurd h
carried_reference code (items.Ref s ∷ []) nodes (Tree g) h = sym (ap (λ l. reference_in g.nodes l) h.1 ∙ ap (λ n. reference_in n (items.Ref s ∷ [])) h.0)

pub return_normal : (mid new : PullState) (want : Option TypeCode) (answer : Answer) → ReadsReturn mid new (return_at want) want true answer.uid answer.body → TakesReturn mid new want true answer.uid answer.body → new.at ≤ new.stop
    → HearsReturn mid new want (Ok answer)
return_normal mid new want answer r t le = record {
  takes = t;
  stop = r.reads.takes.stop;
  gives = λ told end here. ((record { uid = bytes_of_uid answer.uid; answers = r.answers; nodes = r.nodes }, to_come new), ap (said_at end (past_fault mid)) (reads_told r.reads le told end here).0, ((refl, r.carries), refl));
  blames = blames_ok mid new r.reads.taken answer r.reads.takes;
}

pub return_exception : (mid new : PullState) (want : Option TypeCode) (uid : Uid) (body : Body) (end : ClientEnd) → ReadsReturn mid new (return_at want) want false uid body → TakesReturn mid new want false uid body → new.at ≤ new.stop
    → IsExceptionEnd new.at (viewed fault_text_at (reference_of body)) end → HearsReturn mid new want (Err end)
return_exception mid new want uid body end r t le (inr is) = record {
  takes = inr (inr (inr (false, uid, body, t, is)));
  stop = r.reads.takes.stop;
  gives = λ told last here. inl (subst IsOutside (sym is) tt);
  blames = subst (λ e. BlamesRead {A = Answer} mid.faults new.faults (Err e)) (sym is) (blames_none mid new r.reads.taken _ r.reads.takes (λ same. cc));
}
return_exception mid new want uid body end r t le (inl is) = record {
  takes = inr (inr (inl (uid, body, t, is)));
  stop = r.reads.takes.stop;
  gives = λ told last here.
      let g = reads_told r.reads le told last here in
      let there : last - length (to_come new) ≡ new.at = omega (arith, g.1) in
      inr (ap (said_at last (past_fault mid)) g.0 ∙ ap (λ n. Err (exception_end n (viewed fault_text_at (reference_in r.nodes r.answers)))) there
      ∙ ap (λ o. Err (exception_end new.at (viewed fault_text_at o))) (carried_reference codes.Object r.answers r.nodes body r.carries) ∙ ap Err (sym is));
  blames = subst (λ e. BlamesRead {A = Answer} mid.faults new.faults (Err e)) (sym is) (blames_none mid new r.reads.taken _ r.reads.takes (exception_settled new.at (viewed fault_text_at (reference_of body))));
}
  where
    exception_settled : (at : ℕ) (text : Option (List ℕ)) → exception_end at text ≢ ends.ReadFault
    exception_settled at (Some text) = λ same. cc
    exception_settled at None = λ same. cc

pub return_no_kind : (mid new : PullState) (want : Option TypeCode) (byte at : ℕ) → BreaksReturn mid new (BadKind byte at) (return_at want) → new.at ≤ new.stop → HearsReturn mid new want (Err (ends.BadReply replies.BadReturnKind at))
return_no_kind mid new want byte at h le = record {
  takes = inr (inl (byte, at, h, refl));
  stop = h.3.takes.stop;
  gives = λ told last here. inr (ap (said_at last (past_fault mid)) (reads_told h.3 le told last here).0);
  blames = blames_none mid new h.3.taken _ h.3.takes (λ same. cc);
}

breaks_stop : (mid new : PullState) (want : Option TypeCode) (fault : StreamFault) → BreaksBy inside WantIsBad mid new fault (return_at want) → new.stop ≡ mid.stop
breaks_stop mid new want (faults.Bad kind at) h = h.takes.stop
breaks_stop mid new want (faults.TooLarge larges.Nodes at) h = h.takes.stop
breaks_stop mid new want (faults.TooLarge larges.Depth at) h = h.takes.stop
breaks_stop mid new want (faults.TooLarge larges.Bytes at) h = h.2.stop ∙ h.1.takes.stop
breaks_stop mid new want (faults.Truncated at) h = h.0.takes.stop
breaks_stop mid new want faults.ReadFault h = h.0.takes.stop
breaks_stop mid new want faults.OutOfMemory h = h.takes.stop

pub return_breaks : (mid new : PullState) (want : Option TypeCode) (fault : StreamFault) → WantBreaks mid new fault (return_at want) → new.at ≤ new.stop → HearsReturn mid new want (Err (end_of fault))
return_breaks mid new want fault h le = record {
  takes = inl (fault, h, refl);
  stop = breaks_stop mid new want fault h.is;
  gives = λ told last here.
      let same : last ≡ (env_at mid.left mid.at mid.stop).end = here ∙ sym (end_is mid.left mid.at mid.stop told) in
      given last same (fault_ends (past_fault mid) fault _ (want_breaks_told h le told));
  blames = fault_blames mid.faults new.faults fault (want_breaks_caused Answer h);
}
  where
    given : (last : ℕ) → last ≡ (env_at mid.left mid.at mid.stop).end → IsOutside (end_of fault) ⊎ EndsBy (past_fault mid) fault (return_at want (env_at mid.left mid.at mid.stop).end (to_come mid))
        → IsOutside (end_of fault) ⊎ (said_at last (past_fault mid) (return_at want last (to_come mid)) ≡ Err (end_of fault))
    given last same (inl o) = inl o
    given last same (inr e) = inr (ap (λ n. said_at last (past_fault mid) (return_at want n (to_come mid))) same ∙ ap (said_at last (past_fault mid)) e.is ∙ ap Err e.end)

-- ---- from the code on

answer_behind : (old mid new : PullState) (want : Option TypeCode) (result : Result Answer ClientEnd) (read : Result (AnswerRead × List ℕ) ClientEnd) (again : Result (AnswerRead × List ℕ) ClientEnd)
    → again ≡ read → Agrees (λ answer read. IsAnswerRead want answer read.0 × (read.1 ≡ to_come new)) result read → Agrees (λ answer read. IsAnswerRead want answer read.0 × (read.1 ≡ to_come new)) result again
answer_behind old mid new want result read again same h = subst (λ r. Agrees (λ answer read. IsAnswerRead want answer read.0 × (read.1 ≡ to_come new)) result r) (sym same) h

pub answer_heard : (old mid new : PullState) (want : Option TypeCode) (result : Result Answer ClientEnd) → Takes old mid (0x51 ∷ []) → mid.at ≤ mid.stop → new.at ≤ new.stop → HearsReturn mid new want result → HearsAnswer old new want result
answer_heard old mid new want result t le le2 h = record {
  takes = takes result h.takes;
  stop = h.stop ∙ t.stop;
  within = le2;
  gives = λ told.
      let f = follows old mid (0x51 ∷ []) t le told in
      let long : old.at + length (0x51 ∷ to_come mid) ≡ mid.at + length (to_come mid) = omega (arith, t.at) in
      answer_behind old mid new want result _ _
      (ap (answer_at want old.at (past_fault old)) f.come ∙ ap (λ m. said_at (old.at + length (0x51 ∷ to_come mid)) m (return_at want (old.at + length (0x51 ∷ to_come mid)) (to_come mid))) (sym f.past))
      (h.gives f.told (old.at + length (0x51 ∷ to_come mid)) long);
  blames = later_blames old mid new (0x51 ∷ []) result t h.blames;
}
  where
    takes : (result : Result Answer ClientEnd) → TakesBehind mid new want result → TakesAnswer old new want result
    takes (Ok answer) h = (mid, t, h)
    takes (Err end) h = inr (inr (mid, t, h))

answer_unlike : (want : Option TypeCode) (byte at : ℕ) (more : StreamFault) (bs : List ℕ) → byte ≢ 0x51 → answer_at want at more (byte ∷ bs) ≡ Err (ends.BadReply replies.NotReturn at)
answer_unlike want byte at more bs unlike = rw (ne_eqb byte 0x51 unlike) refl

pub answer_other : (old new : PullState) (want : Option TypeCode) (byte : ℕ) → byte ≢ 0x51 → Takes old new (byte ∷ []) → new.at ≤ new.stop → HearsAnswer old new want (Err (ends.BadReply replies.NotReturn old.at))
answer_other old new want byte unlike t le = record {
  takes = inr (inl (byte, unlike, (t, refl)));
  stop = t.stop;
  within = le;
  gives = λ told. inr (ap (answer_at want old.at (past_fault old)) (follows old new (byte ∷ []) t le told).come ∙ answer_unlike want byte old.at (past_fault old) (to_come new) unlike);
  blames = blames_none old new (byte ∷ []) _ t (λ same. cc);
}

pub answer_none : (old new : PullState) (want : Option TypeCode) (end : ClientEnd) → new.at ≤ new.stop → NoCode old new end → HearsAnswer old new want (Err end)
answer_none old new want end le h = record { takes = inl h; stop = no_code_stop old new end h; within = le; gives = λ told. given (no_code_ends old new end h told); blames = no_code_blames old new end h }
  where
    given : IsOutside end ⊎ ComesToEnd old end → IsOutside end ⊎ (answer_at want old.at (past_fault old) (to_come old) ≡ Err end)
    given (inl o) = inl o
    given (inr e) = inr (ap (answer_at want old.at (past_fault old)) e.none ∙ ap Err (sym e.is))

pub normal_heard : (mid new : PullState) (want : Option TypeCode) (normal : Bool) (answer : Answer) → normal ≡ true → ReadsReturn mid new (return_at want) want normal answer.uid answer.body
    → TakesReturn mid new want normal answer.uid answer.body → new.at ≤ new.stop → HearsReturn mid new want (Ok answer)
normal_heard mid new want true answer e r t le = return_normal mid new want answer r t le
normal_heard mid new want false answer e r t le = absurd cc

pub exception_heard : (mid new : PullState) (want : Option TypeCode) (normal : Bool) (uid : Uid) (body : Body) (end : ClientEnd) → normal ≡ false → ReadsReturn mid new (return_at want) want normal uid body
    → TakesReturn mid new want normal uid body → new.at ≤ new.stop → IsExceptionEnd new.at (viewed fault_text_at (reference_of body)) end → HearsReturn mid new want (Err end)
exception_heard mid new want false uid body end e r t le is = return_exception mid new want uid body end r t le is
exception_heard mid new want true uid body end e r t le is = absurd cc
