-- An acknowledgement in its dialogue.
use Rattle.std.proofs.Common.{ℕ, ◌+◌, ◌<◌, ◌≤◌, max, inl, inr, List, [], ◌∷◌, ◌++◌, length, Option, Result, Ok, Err, IfOk, refl, ap, sym, subst, ◌∙◌, arith, add-zero}
use Rattle.wire_io.specs.Wire.{Rose, with_end-nothing}
use Rattle.wire_io.specs.Pulled.{PullState, Takes}
use Rattle.wire_io.specs.declared.pull.PullEnd.TheVariants as pulled
use Rattle.wire_io.proofs.Pulling.{takes_more}
use Rattle.object_ids.specs.declared.ids.Uid.{Uid}
use Rattle.object_ids.specs.Bytes.{FitsUid, bytes_of_uid}
use Rattle.ser_values.specs.declared.limits.TheConstants.{MESSAGE_BYTES}
use Rattle.history.specs.declared.asks.Ask.TheVariants.{Ack}
use Rattle.history.specs.declared.replies.Refused.TheVariants.{HistoryFull}
use Rattle.ser_read.specs.declared.fault.StreamFault.{StreamFault}
use Rattle.ser_read.specs.declared.fault.StreamFault.TheVariants as faults
use Rattle.ser_read.specs.declared.fault.Large.TheVariants.{Bytes, Nodes, Depth}
use Rattle.jrmp_frames.specs.declared.code.Code.TheVariants.{DgcAck}
use Rattle.jrmp_frames.specs.declared.fault.FrameFault.{FrameFault}
use Rattle.jrmp_frames.specs.declared.fault.FrameFault.TheVariants as frames
use Rattle.jrmp_frames.specs.Frames.{code_byte, dgc_ack, IsInAck}
use Rattle.jrmp_frames.specs.Gives.{StopsIn, GivesUid}
use Rattle.jrmp_frames.proofs.Reading.{stops_after}
use Rattle.call_dispatch.specs.declared.end.ConnEnd.{ConnEnd}
use Rattle.call_dispatch.specs.declared.end.ConnEnd.TheVariants as ends
use Rattle.call_dispatch.specs.declared.outcome.Invocation.{Invocation}
use Rattle.call_dispatch.specs.declared.outcome.Outcome.{Outcome}
use Rattle.system_objects.specs.Terms.{Terms}
use Rattle.call_dispatch.specs.Acts.{Call, States, Observed, lost, acts_of}
use Rattle.call_dispatch.specs.ConnectionState.{ConnectionState, Transcript}
use Rattle.call_dispatch.specs.Rows.{Exchange, acknowledged}
use Rattle.call_dispatch.specs.Faults.{Blames, BlamesIn}
use Rattle.call_dispatch.specs.Dialogue.{Opening, Completed, opened, IsAtCode}
use Rattle.call_dispatch.specs.Progress.{StandsWhole, Talked, StepsTo, end_from}
use Rattle.call_dispatch.specs.Serving.{Notes, Acknowledges}
use Rattle.call_dispatch.proofs.Balancing.{balanced_quiet}
use Rattle.call_dispatch.proofs.Blaming.{counts, blameless}
use Rattle.call_dispatch.proofs.MessageSteps.{limit_left}
use Rattle.call_dispatch.proofs.Steps.{spot_at, talks_on, talks_in, stands_more}
use Rattle.call_dispatch.specs.declared.messages.TheConstants.{MAX_MESSAGES, MAX_BYTES}
use Rattle.system_objects.specs.declared.returns.TheConstants.{RETURN_BYTES}

-- The input stopped behind some bytes.
stops_behind : (P Q : List ℕ → Type 0) (old mid new : PullState) (fault : StreamFault) (front : List ℕ) → Takes old mid front → StopsIn P mid new fault → ((part : List ℕ) → P part → Q (front ++ part)) → StopsIn Q old new fault
stops_behind P Q old mid new (faults.Truncated at) front takes stops whole = stops_after P Q old mid new (pulled.End at) front takes stops whole
stops_behind P Q old mid new (faults.TooLarge Bytes at) front takes stops whole = stops_after P Q old mid new (pulled.Limit at) front takes stops whole
stops_behind P Q old mid new faults.ReadFault front takes stops whole = stops_after P Q old mid new pulled.ReadFault front takes stops whole
stops_behind P Q old mid new (faults.TooLarge Nodes at) front takes stops whole = absurd stops
stops_behind P Q old mid new (faults.TooLarge Depth at) front takes stops whole = absurd stops
stops_behind P Q old mid new (faults.Bad kind at) front takes stops whole = absurd stops
stops_behind P Q old mid new faults.OutOfMemory front takes stops whole = absurd stops

-- An acknowledgement was taken and noted, or passed over; or the connection ended in it.
pub ack_steps : (may : Invocation → Outcome → Type 0) (moves : States → Call → States → Type 0) (terms : Terms) (start : ConnectionState) (first mid now : PullState) (held : Option (List ℕ)) (side side2 : Observed) (drawn sent : ℕ) (opening : Opening) (exchanges : List Exchange) (result : Result ℕ ConnEnd)
    → StandsWhole may moves terms start (spot_at first held side drawn) first.at sent (opened opening exchanges) → IsAtCode (opened opening exchanges) → length exchanges < MAX_MESSAGES → first.at + 15 ≤ first.stop
    → Takes first mid (code_byte DgcAck ∷ []) → Acknowledges may moves mid now side side2 sent result → StepsTo may moves terms start (spot_at now held side2 drawn) now.at opening exchanges result
ack_steps may moves terms start first mid now held side side2 drawn sent opening exchanges (Ok sent2) stands code few room coded (same, (uid, moment, answer, fits, noted, takes, led)) =
    let e : Exchange = acknowledged (record { uid = uid; moment = moment; answer = answer }) in
    let all : Takes first now (dgc_ack uid) = takes_more first mid now (code_byte DgcAck ∷ []) (bytes_of_uid uid) coded takes in (
      e,
      refl,
      stands_more may moves terms start (spot_at first held side drawn) (spot_at now held side2 drawn) first.at sent now.at sent2 opening exchanges e stands code (limit_left opening exchanges code few) (fits, noted)
          (record { left = all.left; held = sym (with_end-nothing held); led = led; drawn = sym (add-zero drawn) }) all.at (same ∙ sym (add-zero sent)),
    )
ack_steps may moves terms start first mid now held side side2 drawn sent opening exchanges (Err end) stands code few room coded (inl (memory, (uid, moment, fits, takes, led))) =
    let e : Exchange = acknowledged (record { uid = uid; moment = moment; answer = Err HistoryFull }) in
    let all : Takes first now (dgc_ack uid) = takes_more first mid now (code_byte DgcAck ∷ []) (bytes_of_uid uid) coded takes in
    let tail : Transcript = record { taken = dgc_ack uid; acts = lost moment ∷ []; draws = 0; written = [] } in
    let T : ConnEnd → Type 0 = λ x. Talked may moves terms start (spot_at now held side2 drawn) x in
    subst T (sym memory) (talks_on may moves terms start (spot_at first held side drawn) (spot_at now held side2 drawn) first.at sent (opened opening exchanges) tail ends.OutOfMemory stands
    (record { left = all.left; held = sym (with_end-nothing held); led = led; drawn = sym (add-zero drawn) })
    (inr (inl (
      e,
      record {
        next = (code, few, (fits, tt));
        message = refl;
        acts = record {
          front = [];
          later = acts_of moment (Ack uid) (Err HistoryFull);
          fails = lost moment ∷ [];
          given_up = [];
          whole = refl;
          failing = inr refl;
          giving_up = balanced_quiet [] (λ o. refl);
          is = refl;
        };
        draws = omega arith;
        written = refl;
      },
      omega arith,
    ))))
ack_steps may moves terms start first mid now held side side2 drawn sent opening exchanges (Err end) stands code few room coded (inr (fault, is, stops, same)) =
    let w : Completed = opened opening exchanges in
    let behind : StopsIn IsInAck first now fault = stops_behind (λ part. length part < 14) IsInAck first mid now fault (code_byte DgcAck ∷ []) coded stops (λ part short. (part, refl, short)) in
    let T : ConnEnd → Type 0 = λ x. Talked may moves terms start (spot_at now held side2 drawn) x in
    let U : Observed → Type 0 = λ s. Talked may moves terms start (spot_at now held s drawn) (end_from (frames.Stream fault)) in
    subst T (sym is) (subst U (sym same) (talks_in may moves terms start first now held side drawn sent w IsInAck fault stands behind
    (λ part inside. omega (arith, room, ap length inside.1, inside.2)) (λ part inside. (λ at truncated. (code, few, inside), inl (code, few, inside)))))

-- An identifier was taken, and then noted.
pub noted : (may : Invocation → Outcome → Type 0) (moves : States → Call → States → Type 0) (first now : PullState) (a b : Observed) (uid : Uid) (sent : ℕ) (result : Result ℕ ConnEnd)
    → FitsUid uid → Takes first now (bytes_of_uid uid) → Notes may moves uid a b sent result → Acknowledges may moves first now a b sent result
noted may moves first now a b uid sent (Ok sent2) fits takes (same, (moment, answer, is, led)) = (same, (uid, moment, answer, fits, is, takes, led))
noted may moves first now a b uid sent (Err end) fits takes (memory, (moment, led)) = inl (memory, (uid, moment, fits, takes, led))

-- The input stopped in an identifier.
pub stopped : (may : Invocation → Outcome → Type 0) (moves : States → Call → States → Type 0) (first now : PullState) (a : Observed) (sent : ℕ) (fault : FrameFault)
    → GivesUid first now (Err fault) → Acknowledges may moves first now a a sent (Err (end_from fault))
stopped may moves first now a sent (frames.Stream fault) h = inr (fault, refl, h, refl)
stopped may moves first now a sent (frames.BadHeader at) h = absurd h
stopped may moves first now a sent (frames.UnknownProtocol byte) h = absurd h
stopped may moves first now a sent (frames.BadMessage byte at) h = absurd h
stopped may moves first now a sent (frames.BadKind byte at) h = absurd h

-- How many bytes an acknowledgement takes, and that none is written.
pub ack_most : (may : Invocation → Outcome → Type 0) (moves : States → Call → States → Type 0) (first now : PullState) (a b : Observed) (sent : ℕ) (result : Result ℕ ConnEnd)
    → Acknowledges may moves first now a b sent result → IfOk result (λ after. (after ≤ sent) × (now.at ≤ first.at + 14))
ack_most may moves first now a b sent (Ok sent2) (same, (uid, moment, answer, fits, noted, takes, led)) = (omega (arith, same), omega (arith, takes.at))
ack_most may moves first now a b sent (Err end) how = tt

pub most_of_ack : (result : Result ℕ ConnEnd) (sent first mid now : ℕ) → mid ≤ first + 1 → IfOk result (λ after. (after ≤ sent) × (now ≤ mid + 14)) → IfOk result (λ after. (after ≤ max (sent + 1) (MAX_BYTES + RETURN_BYTES)) × (now ≤ max (first + 15) (MAX_BYTES + MESSAGE_BYTES)))
most_of_ack (Ok after) sent first mid now coded h = (omega (arith, h.0), omega (arith, h.1, coded))
most_of_ack (Err end) sent first mid now coded h = tt

-- ---- failures of the outside

stop_blames : (P : List ℕ → Type 0) (k : ℕ) (p q : PullState) (fault : StreamFault) → StopsIn P p q fault → Blames (counts p.faults k) (counts q.faults k) (end_from (frames.Stream fault))
stop_blames P k p q (faults.Truncated at) h = blameless p.faults q.faults k (ends.Truncated at) (omega (arith, h.takes.faults, h.stops.1.faults)) ((λ same. cc), (λ w. w))
stop_blames P k p q (faults.TooLarge Bytes at) h = blameless p.faults q.faults k (ends.TooLarge Bytes at) (omega (arith, h.takes.faults, h.stops.1.faults)) ((λ same. cc), (λ w. w))
stop_blames P k p q faults.ReadFault h =
    let same_sink : k ≤ k = omega arith in
    let rose : Rose p.faults q.faults = (omega (arith, h.takes.faults, h.stops.1.0), omega (arith, h.takes.faults, h.stops.1.1)) in
    record { read_fault = (λ same. rose); write_fault = (λ w. absurd w); source = rose.0; sink = same_sink }
stop_blames P k p q (faults.TooLarge Nodes at) h = absurd h
stop_blames P k p q (faults.TooLarge Depth at) h = absurd h
stop_blames P k p q (faults.Bad kind at) h = absurd h
stop_blames P k p q faults.OutOfMemory h = absurd h

pub ack_blames : (may : Invocation → Outcome → Type 0) (moves : States → Call → States → Type 0) (first now : PullState) (a b : Observed) (sent k : ℕ) (result : Result ℕ ConnEnd)
    → Acknowledges may moves first now a b sent result → BlamesIn (counts first.faults k) (counts now.faults k) result
ack_blames may moves first now a b sent k (Ok sent2) (same, (uid, moment, answer, fits, noted, takes, led)) =
    let same_sink : k ≤ k = omega arith in record { source = takes.faults; sink = same_sink }
ack_blames may moves first now a b sent k (Err end) (inl (memory, (uid, moment, fits, takes, led))) =
    let P : ConnEnd → Type 0 = λ e. Blames (counts first.faults k) (counts now.faults k) e in
    subst P (sym memory) (blameless first.faults now.faults k ends.OutOfMemory takes.faults ((λ same. cc), (λ w. w)))
ack_blames may moves first now a b sent k (Err end) (inr (fault, is, stops, same)) =
    let P : ConnEnd → Type 0 = λ e. Blames (counts first.faults k) (counts now.faults k) e in
    subst P (sym is) (stop_blames (λ part. length part < 14) k first now fault stops)
