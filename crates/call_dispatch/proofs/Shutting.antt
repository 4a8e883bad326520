-- Reading the messages of a connection shuts no half.
use Rattle.std.proofs.Common.{◌≡◌, ◌<◌, ℕ, List, length, Result, Ok, Err, ◌∙◌, inl, inr}
use Rattle.wire_io.specs.Pulled.{PullState}
use Rattle.ser_read.specs.declared.fault.StreamFault.{StreamFault}
use Rattle.ser_read.specs.declared.fault.StreamFault.TheVariants as faults
use Rattle.ser_read.specs.declared.fault.Large.TheVariants.{Bytes, Nodes, Depth}
use Rattle.ser_read.specs.Wants.{WantFault, serve_to_close}
use Rattle.jrmp_frames.specs.declared.fault.FrameFault.{FrameFault}
use Rattle.jrmp_frames.specs.declared.fault.FrameFault.TheVariants.{BadHeader, UnknownProtocol, BadMessage, BadKind, Stream}
use Rattle.jrmp_frames.specs.declared.head.CallHead.{CallHead}
use Rattle.jrmp_frames.specs.Gives.{StopsIn}
use Rattle.jrmp_frames.specs.Messages.{wants_of}
use Rattle.jrmp_frames.specs.Calls.{BreaksIn}
use Rattle.object_ids.specs.declared.ids.Uid.{Uid}
use Rattle.system_ids.specs.SystemMethods.{params_of}
use Rattle.system_objects.specs.Terms.{Terms}
use Rattle.call_dispatch.specs.declared.end.ConnEnd.{ConnEnd}
use Rattle.call_dispatch.specs.declared.outcome.Invocation.{Invocation}
use Rattle.call_dispatch.specs.declared.outcome.Outcome.{Outcome}
use Rattle.call_dispatch.specs.declared.returns.Answer.{Answer}
use Rattle.call_dispatch.specs.Acts.{Call, States, Observed}
use Rattle.call_dispatch.specs.Serving.{Answers, Acknowledges}
use Rattle.call_dispatch.specs.ServingSystem.{AnswersAny}

-- The input stopped in a part.
stops_shut : (P : List ℕ → Type 0) (p q : PullState) (fault : StreamFault) → StopsIn P p q fault → q.shut ≡ p.shut
stops_shut P p q (faults.Truncated at) h = h.stops.1.shut ∙ h.takes.shut
stops_shut P p q (faults.TooLarge Bytes at) h = h.stops.1.shut ∙ h.takes.shut
stops_shut P p q faults.ReadFault h = h.stops.0.shut ∙ h.takes.shut
stops_shut P p q (faults.TooLarge Nodes at) h = absurd h
stops_shut P p q (faults.TooLarge Depth at) h = absurd h
stops_shut P p q (faults.Bad kind at) h = absurd h
stops_shut P p q faults.OutOfMemory h = absurd h

-- Reading broke off.
pub broken_shut : {Y : Type 0} (read : ℕ → List ℕ → Result Y WantFault) (p q : PullState) (fault : FrameFault) → BreaksIn p q fault read → q.shut ≡ p.shut
broken_shut read p q (BadHeader at) h = absurd h
broken_shut read p q (UnknownProtocol byte) h = absurd h
broken_shut read p q (BadMessage byte at) h = absurd h
broken_shut read p q (BadKind byte at) h = absurd h
broken_shut read p q (Stream (faults.Bad kind at)) h = h.is.takes.shut
broken_shut read p q (Stream (faults.TooLarge Nodes at)) h = h.is.takes.shut
broken_shut read p q (Stream (faults.TooLarge Depth at)) h = h.is.takes.shut
broken_shut read p q (Stream (faults.TooLarge Bytes at)) h = let (mid, short, passes) = h.is in passes.shut ∙ short.takes.shut
broken_shut read p q (Stream (faults.Truncated at)) h = h.is.0.takes.shut
broken_shut read p q (Stream faults.ReadFault) h = h.is.0.takes.shut
broken_shut read p q (Stream faults.OutOfMemory) h = h.is.takes.shut

-- An acknowledgement was served.
pub ack_shut : (may : Invocation → Outcome → Type 0) (moves : States → Call → States → Type 0) (first now : PullState) (a b : Observed) (sent : ℕ) (result : Result ℕ ConnEnd)
    → Acknowledges may moves first now a b sent result → now.shut ≡ first.shut
ack_shut may moves first now a b sent (Ok sent2) (same, (uid, moment, answer, fits, noted, takes, led)) = takes.shut
ack_shut may moves first now a b sent (Err end) (inl (memory, (uid, moment, fits, takes, led))) = takes.shut
ack_shut may moves first now a b sent (Err end) (inr (fault, is, stops, same)) = stops_shut (λ part. length part < 14) first now fault stops

-- A Call was answered whose head was read behind `first`.
pub answered_shut : (may : Invocation → Outcome → Type 0) (moves : States → Call → States → Type 0) (terms : Terms) (head : CallHead) (first now : PullState) (a b : Observed) (drawn drew : ℕ) (answer : Answer)
    → AnswersAny may moves terms head first now a b drawn drew (Ok answer) → now.shut ≡ first.shut
answered_shut may moves terms head first now a b drawn drew answer (inl (own, (bytes, takes, answers))) = takes.shut
answered_shut may moves terms head first now a b drawn drew answer (inr (other, (s, bytes, takes, is, led, bytes_are, closes), drew_is, low, high)) = takes.shut

-- The connection ended in a Call of an object whose head was read behind `first`.
call_ended_shut : (may : Invocation → Outcome → Type 0) (moves : States → Call → States → Type 0) (terms : Terms) (uid : Uid) (head : CallHead) (first now : PullState) (a b : Observed) (drawn drew : ℕ) (end : ConnEnd)
    → Answers may moves terms uid head first now a b drawn drew (Err end) → now.shut ≡ first.shut
call_ended_shut may moves terms uid head first now a b drawn drew end (inl (memory, (s, bytes, takes, is, (acts, led, cut)))) = takes.shut
call_ended_shut may moves terms uid head first now a b drawn drew end
    (inr (moment, turn, kind, moment2, place, started, undrawn, (mid, stand, spot, method, fault, reads, known, method_is, broken, is), led)) =
    broken_shut (λ last. serve_to_close last (wants_of method.params) stand) mid now fault broken ∙ reads.takes.shut

-- The connection ended in a Call whose head was read behind `first`.
pub ended_shut : (may : Invocation → Outcome → Type 0) (moves : States → Call → States → Type 0) (terms : Terms) (head : CallHead) (first now : PullState) (a b : Observed) (drawn drew : ℕ) (end : ConnEnd)
    → AnswersAny may moves terms head first now a b drawn drew (Err end) → now.shut ≡ first.shut
ended_shut may moves terms head first now a b drawn drew end (inl (own, inl (bytes, takes, answers))) = takes.shut
ended_shut may moves terms head first now a b drawn drew end (inl (own, inr (undrawn, same, (mid, stand, method, fault, reads, known, broken, is)))) =
    broken_shut (λ last. serve_to_close last (wants_of (params_of method)) stand) mid now fault broken ∙ reads.takes.shut
ended_shut may moves terms head first now a b drawn drew end (inr (other, answers, drew_is, low, high)) = call_ended_shut may moves terms _ head first now a b drawn drew end answers
