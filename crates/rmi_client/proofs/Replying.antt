-- What replies of one byte and acknowledgements come to.
use Rattle.std.proofs.Common.{◌≡◌, ◌≢◌, ℕ, ◌+◌, ◌*◌, ◌≤◌, true, false, List, [], ◌∷◌, ◌++◌, length, length-append, drop, Result, Ok, Err, refl, sym, ap, subst, ◌∙◌, inl, inr, arith, append-nil}
use Rattle.std.specs.Prelude.{◌⊎◌, nat_lt}
use Rattle.std.proofs.lemmas.Bool.{ne_eqb, lt-ltb, le-ltb}
use Rattle.std.proofs.Math.Seq.{drop-append_seam}
use Rattle.wire_io.specs.Pulled.{PullState, Takes, Stops}
use Rattle.wire_io.specs.declared.pull.PullEnd.{PullEnd}
use Rattle.wire_io.specs.declared.pull.PullEnd.TheVariants as pulls
use Rattle.ser_read.specs.declared.fault.StreamFault.{StreamFault}
use Rattle.ser_read.specs.declared.fault.StreamFault.TheVariants as faults
use Rattle.ser_read.specs.declared.fault.Large.TheVariants as larges
use Rattle.ser_read.specs.Here.{fault_of, Env}
use Rattle.ser_read.proofs.Pulling.{takes_told, takes_env}
use Rattle.jrmp_frames.specs.Frames.{IsEndpoint, IsInEndpoint}
use Rattle.jrmp_frames.specs.Gives.{StopsIn, StopsInside}
use Rattle.rmi_client.specs.Ends.{end_of, IsOutside, BlamesRead}
use Rattle.rmi_client.specs.Replies.{IsTold, to_come, past_fault, NoCode, TakesEndpoint, endpoint_at, ack_at, HearsAck, ping_at, HearsPing}
use Rattle.rmi_client.specs.declared.end.ReplyKind.TheVariants as replies
use Rattle.rmi_client.specs.declared.end.ClientEnd.{ClientEnd}
use Rattle.rmi_client.specs.declared.end.ClientEnd.TheVariants as ends
use Rattle.rmi_client.proofs.Ending.{ComesToEnd, no_code_ends, no_code_blames, no_code_stop, blames_none, blames_ok, later_blames}

-- ---- the first byte

-- What comes behind the bytes that were taken.
pub record Follows (old mid : PullState) (bytes : List ℕ) : Type 0 where
  pub told : IsTold mid
  pub past : past_fault mid ≡ past_fault old
  pub come : to_come old ≡ bytes ++ to_come mid

pub follows : (old mid : PullState) (bytes : List ℕ) → Takes old mid bytes → mid.at ≤ mid.stop → IsTold old → Follows old mid bytes
follows old mid bytes t le told =
    let same = takes_env old mid bytes t le in
    record { told = rw same told; past = ap (λ (v : Env). v.after) same; come = takes_told old mid bytes t le told }

-- ---- the answer to a Ping

pub ping_heard : {A : Type 0} (old new : PullState) (a : A) → Takes old new (0x53 ∷ []) → new.at ≤ new.stop → HearsPing old new (Ok a)
ping_heard old new a t le = record {
  takes = t;
  stop = t.stop;
  gives = λ told. (to_come new, ap (ping_at old.at (past_fault old)) (follows old new (0x53 ∷ []) t le told).come, refl);
  blames = blames_ok old new (0x53 ∷ []) a t;
}

ping_unlike : (byte at : ℕ) (more : StreamFault) (bs : List ℕ) → byte ≢ 0x53 → ping_at at more (byte ∷ bs) ≡ Err (ends.BadReply replies.NotReturn at)
ping_unlike byte at more bs unlike = rw (ne_eqb byte 0x53 unlike) refl

pub ping_other : {A : Type 0} (old new : PullState) (byte : ℕ) → byte ≢ 0x53 → Takes old new (byte ∷ []) → new.at ≤ new.stop → HearsPing {A = A} old new (Err (ends.BadReply replies.NotReturn old.at))
ping_other old new byte unlike t le = record {
  takes = inr (byte, unlike, (t, refl));
  stop = t.stop;
  gives = λ told. inr (ap (ping_at old.at (past_fault old)) (follows old new (byte ∷ []) t le told).come ∙ ping_unlike byte old.at (past_fault old) (to_come new) unlike);
  blames = blames_none old new (byte ∷ []) _ t (λ same. cc);
}

pub ping_none : {A : Type 0} (old new : PullState) (end : ClientEnd) → NoCode old new end → HearsPing {A = A} old new (Err end)
ping_none old new end h = record { takes = inl h; stop = no_code_stop old new end h; gives = λ told. given (no_code_ends old new end h told); blames = no_code_blames old new end h }
  where
    given : IsOutside end ⊎ ComesToEnd old end → IsOutside end ⊎ (ping_at old.at (past_fault old) (to_come old) ≡ Err end)
    given (inl o) = inl o
    given (inr e) = inr (ap (ping_at old.at (past_fault old)) e.none ∙ ap Err (sym e.is))

-- ---- the acknowledgement

endpoint_whole : (more : StreamFault) (bytes rest : List ℕ) → IsEndpoint bytes → endpoint_at more (bytes ++ rest) ≡ Ok rest
endpoint_whole more [] rest h = absurd h
endpoint_whole more (high ∷ []) rest h = absurd h
endpoint_whole more (high ∷ low ∷ bs) rest h =
    let long : nat_lt (length (bs ++ rest)) (256 * high + low + 4) ≡ false = le-ltb _ _ (omega (arith, h.2, length-append bs rest)) in
    rw long (ap Ok (ap (λ n. drop n (bs ++ rest)) (sym h.2) ∙ drop-append_seam bs rest))

endpoint_part : (more : StreamFault) (part : List ℕ) → IsInEndpoint part → endpoint_at more part ≡ Err (end_of more)
endpoint_part more [] h = refl
endpoint_part more (high ∷ []) h = refl
endpoint_part more (high ∷ low ∷ bs) (rest, some, whole) =
    let brief : nat_lt (length bs) (256 * high + low + 4) ≡ true = lt-ltb _ _ (omega (arith, some, whole.2, length-append bs rest)) in
    rw brief refl

abbrev EndpointGives : PullState → ClientEnd → Type 0
EndpointGives mid end = IsTold mid → IsOutside end ⊎ (endpoint_at (past_fault mid) (to_come mid) ≡ Err end)

still_within : (mid new : PullState) (why : PullEnd) → Stops mid new why → new.at ≤ new.stop → mid.at ≤ mid.stop
still_within mid new (pulls.End at) stops le = omega (arith, le, stops.1.at, stops.1.stop)
still_within mid new (pulls.Limit at) stops le = omega (arith, le, stops.1.at, stops.1.stop)
still_within mid new pulls.ReadFault stops le = omega (arith, le, stops.0.at, stops.0.stop)
still_within mid new pulls.OutOfMemory stops le = omega (arith, le, stops.at, stops.stop)

endpoint_inside : (mid new : PullState) (e : PullEnd) → new.at ≤ new.stop → StopsInside IsInEndpoint mid new e → EndpointGives mid (end_of (fault_of e))
endpoint_inside mid new e le h told =
    let f = follows mid h.mid h.part h.takes (still_within h.mid new e h.stops le) told in
    ended f (no_code_ends h.mid new _ (record { why = e; memory = h.memory; stops = h.stops; is = refl }) f.told)
  where
    ended : Follows mid h.mid h.part → IsOutside (end_of (fault_of e)) ⊎ ComesToEnd h.mid (end_of (fault_of e)) → IsOutside (end_of (fault_of e)) ⊎ (endpoint_at (past_fault mid) (to_come mid) ≡ Err (end_of (fault_of e)))
    ended f (inl o) = inl o
    ended f (inr c) = inr (ap (endpoint_at (past_fault mid)) (f.come ∙ ap (λ bs. h.part ++ bs) c.none ∙ append-nil h.part) ∙ endpoint_part (past_fault mid) h.part h.inside ∙ ap (λ m. Err (end_of m)) (sym f.past) ∙ ap Err (sym c.is))

endpoint_blames : {A : Type 0} (mid new : PullState) (e : PullEnd) → StopsInside IsInEndpoint mid new e → BlamesRead {A = A} mid.faults new.faults (Err (end_of (fault_of e)))
endpoint_blames mid new e h = later_blames mid h.mid new h.part _ h.takes (no_code_blames h.mid new _ (record { why = e; memory = h.memory; stops = h.stops; is = refl }))

endpoint_gives : (mid new : PullState) (fault : StreamFault) → new.at ≤ new.stop → StopsIn IsInEndpoint mid new fault → EndpointGives mid (end_of fault)
endpoint_gives mid new (faults.Truncated at) le h = endpoint_inside mid new (pulls.End at) le h
endpoint_gives mid new (faults.TooLarge larges.Bytes at) le h = endpoint_inside mid new (pulls.Limit at) le h
endpoint_gives mid new faults.ReadFault le h = endpoint_inside mid new pulls.ReadFault le h
endpoint_gives mid new (faults.TooLarge larges.Nodes at) le h = absurd h
endpoint_gives mid new (faults.TooLarge larges.Depth at) le h = absurd h
endpoint_gives mid new (faults.Bad kind at) le h = absurd h
endpoint_gives mid new faults.OutOfMemory le h = absurd h

endpoint_blamed : {A : Type 0} (mid new : PullState) (fault : StreamFault) → StopsIn IsInEndpoint mid new fault → BlamesRead {A = A} mid.faults new.faults (Err (end_of fault))
endpoint_blamed mid new (faults.Truncated at) h = endpoint_blames mid new (pulls.End at) h
endpoint_blamed mid new (faults.TooLarge larges.Bytes at) h = endpoint_blames mid new (pulls.Limit at) h
endpoint_blamed mid new faults.ReadFault h = endpoint_blames mid new pulls.ReadFault h
endpoint_blamed mid new (faults.TooLarge larges.Nodes at) h = absurd h
endpoint_blamed mid new (faults.TooLarge larges.Depth at) h = absurd h
endpoint_blamed mid new (faults.Bad kind at) h = absurd h
endpoint_blamed mid new faults.OutOfMemory h = absurd h

inside_stop : (mid new : PullState) (e : PullEnd) → StopsInside IsInEndpoint mid new e → new.stop ≡ mid.stop
inside_stop mid new e h = no_code_stop h.mid new _ (record { why = e; memory = h.memory; stops = h.stops; is = refl }) ∙ h.takes.stop

endpoint_stop : (mid new : PullState) (fault : StreamFault) → StopsIn IsInEndpoint mid new fault → new.stop ≡ mid.stop
endpoint_stop mid new (faults.Truncated at) h = inside_stop mid new (pulls.End at) h
endpoint_stop mid new (faults.TooLarge larges.Bytes at) h = inside_stop mid new (pulls.Limit at) h
endpoint_stop mid new faults.ReadFault h = inside_stop mid new pulls.ReadFault h
endpoint_stop mid new (faults.TooLarge larges.Nodes at) h = absurd h
endpoint_stop mid new (faults.TooLarge larges.Depth at) h = absurd h
endpoint_stop mid new (faults.Bad kind at) h = absurd h
endpoint_stop mid new faults.OutOfMemory h = absurd h

-- The code was taken, and then the endpoint, or that stopped.
pub ack_heard : {A : Type 0} (old mid new : PullState) (result : Result A ClientEnd) → Takes old mid (0x4E ∷ []) → mid.at ≤ mid.stop → new.at ≤ new.stop → TakesEndpoint mid new result → HearsAck old new result
ack_heard {A} old mid new (Ok a) t le le2 (bytes, whole, more) = record {
  takes = (mid, t, (bytes, whole, more));
  stop = more.stop ∙ t.stop;
  gives = λ told. let f = follows old mid (0x4E ∷ []) t le told in (to_come new, ap (ack_at old.at (past_fault old)) f.come ∙ ap (endpoint_at (past_fault old)) (follows mid new bytes more le2 f.told).come ∙ endpoint_whole (past_fault old) bytes (to_come new) whole, refl);
  blames = later_blames old mid new (0x4E ∷ []) (Ok a) t (blames_ok mid new bytes a more);
}
ack_heard {A} old mid new (Err end) t le le2 (fault, stops, is) = record {
  takes = inr (inr (inr (mid, t, (fault, stops, is))));
  stop = endpoint_stop mid new fault stops ∙ t.stop;
  gives = λ told. given (follows old mid (0x4E ∷ []) t le told);
  blames = later_blames old mid new (0x4E ∷ []) (Err end) t (subst (λ e. BlamesRead {A = A} mid.faults new.faults (Err e)) (sym is) (endpoint_blamed mid new fault stops));
}
  where
    given : Follows old mid (0x4E ∷ []) → IsOutside end ⊎ (ack_at old.at (past_fault old) (to_come old) ≡ Err end)
    given f = behind f (subst (λ e. EndpointGives mid e) (sym is) (endpoint_gives mid new fault le2 stops) f.told)
      where
        behind : Follows old mid (0x4E ∷ []) → IsOutside end ⊎ (endpoint_at (past_fault mid) (to_come mid) ≡ Err end) → IsOutside end ⊎ (ack_at old.at (past_fault old) (to_come old) ≡ Err end)
        behind f (inl o) = inl o
        behind f (inr g) = inr (ap (ack_at old.at (past_fault old)) f.come ∙ ap (λ m. endpoint_at m (to_come mid)) (sym f.past) ∙ g)

pub ack_refused : {A : Type 0} (old new : PullState) → Takes old new (0x4F ∷ []) → new.at ≤ new.stop → HearsAck {A = A} old new (Err ends.Nack)
ack_refused old new t le = record {
  takes = inr (inr (inl (t, refl)));
  stop = t.stop;
  gives = λ told. inr (ap (ack_at old.at (past_fault old)) (follows old new (0x4F ∷ []) t le told).come);
  blames = blames_none old new (0x4F ∷ []) _ t (λ same. cc);
}

ack_unlike : (byte at : ℕ) (more : StreamFault) (bs : List ℕ) → byte ≢ 0x4E → byte ≢ 0x4F → ack_at at more (byte ∷ bs) ≡ Err (ends.BadReply replies.NotReturn at)
ack_unlike byte at more bs one two = rw (ne_eqb byte 0x4E one, ne_eqb byte 0x4F two) refl

pub ack_other : {A : Type 0} (old new : PullState) (byte : ℕ) → byte ≢ 0x4E → byte ≢ 0x4F → Takes old new (byte ∷ []) → new.at ≤ new.stop → HearsAck {A = A} old new (Err (ends.BadReply replies.NotReturn old.at))
ack_other old new byte one two t le = record {
  takes = inr (inl (byte, one, two, (t, refl)));
  stop = t.stop;
  gives = λ told. inr (ap (ack_at old.at (past_fault old)) (follows old new (byte ∷ []) t le told).come ∙ ack_unlike byte old.at (past_fault old) (to_come new) one two);
  blames = blames_none old new (byte ∷ []) _ t (λ same. cc);
}

pub ack_none : {A : Type 0} (old new : PullState) (end : ClientEnd) → NoCode old new end → HearsAck {A = A} old new (Err end)
ack_none old new end h = record { takes = inl h; stop = no_code_stop old new end h; gives = λ told. given (no_code_ends old new end h told); blames = no_code_blames old new end h }
  where
    given : IsOutside end ⊎ ComesToEnd old end → IsOutside end ⊎ (ack_at old.at (past_fault old) (to_come old) ≡ Err end)
    given (inl o) = inl o
    given (inr e) = inr (ap (ack_at old.at (past_fault old)) e.none ∙ ap Err (sym e.is))
