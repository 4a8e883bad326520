-- A link's report, by the link as it was accepted.
use Rattle.wire_io.specs.Links.{Accepted}
use Rattle.wire_io.specs.Wire.{ReadHalf, WriteHalf, Rose, ShutsRead, ShutsWrite, first_shut}
use Rattle.std.proofs.Common.{◌≡◌, ◌<◌, ℕ, List, subst, sym, ap, ◌∙◌, arith}
use Rattle.std.specs.Prelude.{Option}
use Rattle.call_dispatch.specs.Acts.{WorkerState, Call, States}
use Rattle.call_dispatch.specs.ConnectionState.{ConnectionState}
use Rattle.call_dispatch.specs.End.{IsWriteFault}
use Rattle.call_dispatch.specs.declared.end.ConnEnd.{ConnEnd}
use Rattle.call_dispatch.specs.declared.end.ConnEnd.TheVariants.{ReadFault}
use Rattle.call_dispatch.proofs.Completing.{talked_completes}
use Rattle.space.specs.declared.asked.Asked.{Asked}
use Rattle.system_objects.specs.Terms.{Terms}
use Rattle.system_objects.specs.declared.book.Kind.{Kind}
use Rattle.call_dispatch.specs.declared.outcome.Invocation.{Invocation}
use Rattle.call_dispatch.specs.declared.outcome.Outcome.{Outcome}
use Rattle.conn_server.specs.Made.{IsMadeFor, shown_admitted}
use Rattle.conn_server.specs.Plans.{link_terms}
use Rattle.conn_server.specs.Reports.{AreLeftHalves, CompletesLink, IsLinkOf}
use Rattle.conn_server.specs.Talks.{LeavesHalves, Talks, TalksOver, first_spot, last_spot}
use Rattle.conn_server.specs.declared.link_task.AdmittedLink.{AdmittedLink}
use Rattle.conn_server.specs.declared.link_task.LinkReport.{LinkReport}
use Rattle.conn_server.specs.declared.plan.ServePlan.{ServePlan}

-- The halves of a link that was served to this end and shut then.
pub leaves : (r r2 r3 : ReadHalf) (w w2 w3 : WriteHalf) (end : ConnEnd) → (end ≡ ReadFault → Rose r.faults r2.faults) → (IsWriteFault end → Rose w.faults w2.faults) → r2.shut ≡ r.shut → w2.shut ≡ w.shut → ShutsRead r2 r3 → ShutsWrite w2 w3 → LeavesHalves r r3 w w3 end
leaves r r2 r3 w w2 w3 end read write kept kept2 shuts shuts2 = record {
  read_fault = λ is. subst (λ (n : ℕ). Rose r.faults n) (sym shuts.1) (read is);
  write_fault = λ is. subst (λ (n : ℕ). Rose w.faults n) (sym shuts2.1) (write is);
  read_shut = shuts.2 ∙ ap (λ s. first_shut s r2.left) kept ∙ ap (first_shut r.shut) (sym shuts.0);
  write_shut = shuts2.2 ∙ ap (λ s. first_shut s w2.held) kept2 ∙ ap (first_shut w.shut) (sym shuts2.0);
}

-- A count that rose from 0 is above it.
risen : (n m : ℕ) → n ≡ 0 → Rose n m → 0 < m
risen n m none rose = let most = rose.1 in omega (arith, none, most)

-- A count of 0 doesn't stand above it.
not_above : (n : ℕ) → n ≡ 0 → 0 < n → ⊥
not_above n none more = omega (arith, none, more)

-- A link none of whose halves failed has answered a whole input to its end.
completes : {I O T H : Type 0} (read_half : I → ReadHalf) (write_half : O → WriteHalf) (given : T → Option (List ℕ)) (shown : H → WorkerState)
    (may : Invocation → Outcome → Type 0) (moves : States → Call → States → Type 0) (terms : Terms) (start : ConnectionState) (report : LinkReport I O T H)
    → (talks : Talks read_half write_half given shown may moves terms start report) → AreLeftHalves (read_half report.source) (write_half report.sink) report.end
    → CompletesLink may moves terms start (last_spot read_half write_half given shown report talks.drawn) (read_half report.source).faults (write_half report.sink).faults report.end
completes read_half write_half given shown may moves terms start report talks left none none2 =
    talked_completes may moves terms start (last_spot read_half write_half given shown report talks.drawn) report.end (talks.served.transcript, talks.served.talks)
    (record {
      source = λ is. not_above (read_half report.source).faults none (left.read_fault is);
      sink = λ is. not_above (write_half report.sink).faults none2 (left.write_fault is);
    })

pub link_of : {I O T H : Type 0} (read_half : I → ReadHalf) (write_half : O → WriteHalf) (given : T → Option (List ℕ)) (shown : H → WorkerState)
    (may : Invocation → Outcome → Type 0) (moves : States → Call → States → Type 0) (kinds : List Kind) (plan : ServePlan) (k : ℕ) (admitted : AdmittedLink I O T H) (report : LinkReport I O T H)
    → IsMadeFor read_half write_half given shown moves plan k admitted → TalksOver read_half write_half given shown may moves kinds admitted report → report.by ≡ k
    → IsLinkOf read_half write_half given shown may moves kinds plan k (shown_admitted read_half write_half given admitted) report
link_of read_half write_half given shown may moves kinds plan k admitted report m talks by =
    let p : Accepted × Asked = shown_admitted read_half write_half given admitted in
    let own : Talks read_half write_half given shown may moves (link_terms kinds plan k p.0.host p.0.port)
    (first_spot p.0.left p.0.held (given admitted.clock) (shown admitted.hand).seen (shown admitted.hand).state k) report =
    subst (λ (x : Terms × Option (List ℕ) × Option (List ℕ) × ℕ). Talks read_half write_half given shown may moves x.0 (first_spot x.1 x.2 (given admitted.clock) (shown admitted.hand).seen (shown admitted.hand).state x.3) report)
    (λ i. (m.terms kinds i, m.left_is i, m.held_is i, m.hand i)) talks.0 in
    let left : AreLeftHalves (read_half report.source) (write_half report.sink) report.end =
    record {
      read_fault = λ is. risen _ _ m.halves.0 (talks.1.read_fault is);
      write_fault = λ is. risen _ _ m.halves.2 (talks.1.write_fault is);
      read_shut = talks.1.read_shut ∙ ap (λ s. first_shut s (read_half report.source).left) m.halves.1;
      write_shut = talks.1.write_shut ∙ ap (λ s. first_shut s (write_half report.sink).held) m.halves.3;
    } in
    record {
      by = by;
      given_then = given admitted.clock;
      seen_then = (shown admitted.hand).seen;
      state_then = (shown admitted.hand).state;
      peer_host = talks.2.peer_host ∙ m.peer_host;
      peer_port = talks.2.peer_port ∙ m.peer_port;
      calls = talks.2.calls;
      talks = own;
      halves = left;
      complete = completes read_half write_half given shown may moves (link_terms kinds plan k p.0.host p.0.port)
          (first_spot p.0.left p.0.held (given admitted.clock) (shown admitted.hand).seen (shown admitted.hand).state k) report own left;
      tick_asked = m.tick_asked;
      tick_end = m.tick_end;
      ticked = m.ticked;
      hand = talks.0.served.talks.goes.led.number ∙ m.hand;
      told = m.told;
    }
