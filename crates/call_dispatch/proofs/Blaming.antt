-- Which failures of the outside a Call's steps tell.
use Rattle.std.proofs.Common.{◌≡◌, ◌≢◌, ℕ, ◌+◌, ◌≤◌, List, Option, None, Some, Result, Ok, Err, OnErr, sym, subst, inl, inr, arith}
use Rattle.wire_io.specs.Wire.{Rose}
use Rattle.wire_io.specs.Pulled.{PullState}
use Rattle.object_ids.specs.declared.ids.Uid.{Uid}
use Rattle.ser_read.specs.declared.fault.StreamFault.TheVariants as faults
use Rattle.ser_read.specs.declared.fault.Large.TheVariants.{Bytes, Nodes, Depth}
use Rattle.ser_read.specs.Wants.{WantFault, serve_to_close}
use Rattle.jrmp_frames.specs.declared.fault.FrameFault.{FrameFault}
use Rattle.jrmp_frames.specs.declared.fault.FrameFault.TheVariants.{BadHeader, UnknownProtocol, BadMessage, BadKind, Stream}
use Rattle.jrmp_frames.specs.declared.head.CallHead.{CallHead}
use Rattle.jrmp_frames.specs.Messages.{wants_of}
use Rattle.jrmp_frames.specs.Calls.{BreaksIn}
use Rattle.call_dispatch.specs.declared.end.ConnEnd.{ConnEnd}
use Rattle.call_dispatch.specs.declared.end.ConnEnd.TheVariants as ends
use Rattle.call_dispatch.specs.declared.outcome.Invocation.{Invocation}
use Rattle.call_dispatch.specs.declared.outcome.Outcome.{Outcome}
use Rattle.call_dispatch.specs.declared.returns.Answer.{Answer}
use Rattle.call_dispatch.specs.Acts.{Call, States, Observed}
use Rattle.call_dispatch.specs.End.{IsWriteFault}
use Rattle.call_dispatch.specs.Faults.{FaultCounts, Blames, BlamesIn}
use Rattle.call_dispatch.specs.Served.{AtHead, absent, refused, begun, unknown, ran, served_closes}
use Rattle.call_dispatch.specs.Progress.{Writes, end_from}
use Rattle.system_objects.specs.Terms.{Terms}
use Rattle.call_dispatch.specs.Serving.{Answers, result_or_close, Sends}

-- the counts of a source and a sink
abbrev pub counts : ℕ → ℕ → FaultCounts
counts source sink = record { source = source; sink = sink }

-- The end tells no failure of the outside.
abbrev pub IsBlameless : ConnEnd → Type 0
IsBlameless end = (end ≢ ends.ReadFault) × (IsWriteFault end → ⊥)

pub blameless : (a b k : ℕ) (end : ConnEnd) → a ≤ b → IsBlameless end → Blames (counts a k) (counts b k) end
blameless a b k end le none =
    let same_sink : k ≤ k = omega arith in record { read_fault = (λ same. absurd (none.0 same)); write_fault = (λ w. absurd (none.1 w)); source = le; sink = same_sink }

-- Reading broke off.
pub broken_blames : {Y : Type 0} (read : ℕ → List ℕ → Result Y WantFault) (f k : ℕ) (p q : PullState) (fault : FrameFault) → f ≤ p.faults → BreaksIn p q fault read → Blames (counts f k) (counts q.faults k) (end_from fault)
broken_blames read f k p q (BadHeader at) le h = absurd h
broken_blames read f k p q (UnknownProtocol byte) le h = absurd h
broken_blames read f k p q (BadMessage byte at) le h = absurd h
broken_blames read f k p q (BadKind byte at) le h = absurd h
broken_blames read f k p q (Stream (faults.Bad kind at)) le h = blameless f q.faults k (ends.BadStream kind at) (omega (arith, le, h.is.takes.faults)) ((λ same. cc), (λ w. w))
broken_blames read f k p q (Stream (faults.TooLarge Nodes at)) le h = blameless f q.faults k (ends.TooLarge Nodes at) (omega (arith, le, h.is.takes.faults)) ((λ same. cc), (λ w. w))
broken_blames read f k p q (Stream (faults.TooLarge Depth at)) le h = blameless f q.faults k (ends.TooLarge Depth at) (omega (arith, le, h.is.takes.faults)) ((λ same. cc), (λ w. w))
broken_blames read f k p q (Stream (faults.TooLarge Bytes at)) le h =
    let (mid, short, passes) = h.is in
    blameless f q.faults k (ends.TooLarge Bytes at) (omega (arith, le, short.takes.faults, passes.faults)) ((λ same. cc), (λ w. w))
broken_blames read f k p q (Stream (faults.Truncated at)) le h = blameless f q.faults k (ends.Truncated at) (omega (arith, le, h.is.0.takes.faults)) ((λ same. cc), (λ w. w))
broken_blames read f k p q (Stream faults.ReadFault) le h =
    let same_sink : k ≤ k = omega arith in
    let rose : Rose f q.faults = (omega (arith, le, h.is.1.0), omega (arith, le, h.is.1.1)) in
    record { read_fault = (λ same. rose); write_fault = (λ w. absurd w); source = rose.0; sink = same_sink }
broken_blames read f k p q (Stream faults.OutOfMemory) le h = blameless f q.faults k ends.OutOfMemory (omega (arith, le, h.is.takes.faults)) ((λ same. cc), (λ w. w))

-- The same from where reading began.
pub head_blames : {Y : Type 0} (read : ℕ → List ℕ → Result Y WantFault) (k : ℕ) (p q : PullState) (fault : FrameFault) → BreaksIn p q fault read → Blames (counts p.faults k) (counts q.faults k) (end_from fault)
head_blames read k p q fault broken = let same : p.faults ≤ p.faults = omega arith in broken_blames read p.faults k p q fault same broken

pub memory_blames : (f f2 k : ℕ) (end : ConnEnd) → f ≤ f2 → end ≡ ends.OutOfMemory → Blames (counts f k) (counts f2 k) end
memory_blames f f2 k end le memory =
    let P : ConnEnd → Type 0 = λ e. Blames (counts f k) (counts f2 k) e in
    subst P (sym memory) (blameless f f2 k ends.OutOfMemory le ((λ same. cc), (λ w. w)))

-- The connection ended in a Call whose head was read behind these counts.
pub ended_blames : (may : Invocation → Outcome → Type 0) (moves : States → Call → States → Type 0) (terms : Terms) (uid : Uid) (head : CallHead) (first now : PullState) (a b : Observed) (drawn drew k : ℕ) (end : ConnEnd)
    → Answers may moves terms uid head first now a b drawn drew (Err end) → Blames (counts first.faults k) (counts now.faults k) end
ended_blames may moves terms uid head first now a b drawn drew k end how = elim how [
  | inl (memory, (s, bytes, takes, is, (acts, led, cut))) ↦ memory_blames first.faults now.faults k end takes.faults memory
  | inr (moment, turn, kind, moment2, place, started, undrawn, (mid, stand, spot, method, fault, reads, known, method_is, broken, is), led) ↦
      (let P : ConnEnd → Type 0 = λ e. Blames (counts first.faults k) (counts now.faults k) e in
      subst P (sym is) (broken_blames (λ last. serve_to_close last (wants_of method.params) stand) first.faults k mid now fault reads.takes.faults broken))
]

abbrev pub AreBlameless : Option ConnEnd → Type 0
AreBlameless (Some end) = IsBlameless end
AreBlameless None = Unit {0}

-- No exchange closes the connection for a failure of the outside.
closes_blameless : (head : CallHead) (s : AtHead) → AreBlameless (served_closes head s)
closes_blameless head (absent gone) = ((λ same. cc), (λ w. w))
closes_blameless head (refused moment) = ((λ same. cc), (λ w. w))
closes_blameless head (begun start (unknown up2)) = ((λ same. cc), (λ w. w))
closes_blameless head (begun start (ran inv conclusion)) = tt

write_is : (sent : ℕ) (end : ConnEnd) → end ≡ ends.WriteFault sent → end ≢ ends.ReadFault
write_is sent end how same = cc

pub sent_blames : (f g k l sent : ℕ) (held held2 : Option (List ℕ)) (bytes : List ℕ) (written : Result ℕ ConnEnd) (close : Option ConnEnd) → f ≤ g → AreBlameless close
    → Writes held held2 sent bytes written → OnErr written (Rose k l) → k ≤ l → BlamesIn (counts f k) (counts g l) (result_or_close written close)
sent_blames f g k l sent held held2 bytes (Ok sent2) None le none writes rose kept = record { source = le; sink = kept }
sent_blames f g k l sent held held2 bytes (Ok sent2) (Some end) le none writes rose kept =
    record { read_fault = (λ same. absurd (none.0 same)); write_fault = (λ w. absurd (none.1 w)); source = le; sink = kept }
sent_blames f g k l sent held held2 bytes (Err end) close le none (part, less, how, wrote) rose kept =
    record { read_fault = (λ same. absurd (write_is (sent + part) end how same)); write_fault = (λ w. rose); source = le; sink = kept }

-- A Call's answer was sent.
pub sends_blame : (f g k l sent : ℕ) (held held2 : Option (List ℕ)) (head : CallHead) (s : AtHead) (answer : Answer) (result : Result ℕ ConnEnd) → f ≤ g → answer.close ≡ served_closes head s
    → Sends held held2 k l sent answer result → BlamesIn (counts f k) (counts g l) result
sends_blame f g k l sent held held2 head s answer result le closes sends =
    let P : Result ℕ ConnEnd → Type 0 = λ r. BlamesIn (counts f k) (counts g l) r in
    subst P (sym sends.is) (sent_blames f g k l sent held held2 answer.bytes sends.written answer.close le (subst (λ (c : Option ConnEnd). AreBlameless c) (sym closes) (closes_blameless head s)) sends.writes sends.rose sends.kept)

-- A Call was answered, and its answer sent.
pub call_blames : (may : Invocation → Outcome → Type 0) (moves : States → Call → States → Type 0) (terms : Terms) (uid : Uid) (head : CallHead) (first now : PullState) (a b : Observed) (drawn drew k l sent : ℕ) (held held2 : Option (List ℕ)) (answer : Answer) (result : Result ℕ ConnEnd)
    → Answers may moves terms uid head first now a b drawn drew (Ok answer) → Sends held held2 k l sent answer result → BlamesIn (counts first.faults k) (counts now.faults l) result
call_blames may moves terms uid head first now a b drawn drew k l sent held held2 answer result (s, bytes, takes, is, led, bytes_are, closes) sends =
    sends_blame first.faults now.faults k l sent held held2 head s answer result takes.faults closes sends

-- The same from before, where the source's count didn't fall.
pub blames_from : {T : Type 0} (f g k : ℕ) (after : FaultCounts) (result : Result T ConnEnd) → f ≤ g → BlamesIn (counts g k) after result → BlamesIn (counts f k) after result
blames_from f g k after (Ok x) le h = record { source = omega (arith, le, h.source); sink = h.sink }
blames_from f g k after (Err end) le h = record {
  read_fault = (λ same. let rose = h.read_fault same in (omega (arith, le, rose.0), omega (arith, le, rose.1)));
  write_fault = h.write_fault;
  source = omega (arith, le, h.source);
  sink = h.sink;
}
