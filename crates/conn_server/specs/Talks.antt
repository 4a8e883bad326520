-- What a served link's connection is, over its own bytes.
use Rattle.wire_io.specs.Wire.{ReadHalf, WriteHalf, Rose, first_shut}
use Rattle.std.specs.Prelude.{◌≡◌, ◌<◌, ◌^◌, ℕ, List, [], Option}
use Rattle.ports.specs.Balance.{Balanced, calls_in}
use Rattle.call_dispatch.specs.Acts.{WorkerState, Call, States}
use Rattle.call_dispatch.specs.Invoked.{InvokesEachOnce}
use Rattle.call_dispatch.specs.Progress.{IsServedFrom}
use Rattle.call_dispatch.specs.ConnectionState.{ConnectionState}
use Rattle.call_dispatch.specs.End.{IsWriteFault}
use Rattle.call_dispatch.specs.declared.end.ConnEnd.{ConnEnd}
use Rattle.call_dispatch.specs.declared.end.ConnEnd.TheVariants.{ReadFault}
use Rattle.system_objects.specs.Terms.{Terms, terms_of}
use Rattle.system_objects.specs.declared.book.Kind.{Kind}
use Rattle.call_dispatch.specs.declared.outcome.Invocation.{Invocation}
use Rattle.call_dispatch.specs.declared.outcome.Outcome.{Outcome}
use Rattle.conn_server.specs.declared.link_task.AdmittedLink.{AdmittedLink}
use Rattle.conn_server.specs.declared.link_task.LinkReport.{LinkReport}

-- The place at which a connection begins: nothing was asked, invoked or drawn for it yet. Its source has this left, its sink holds that, its
-- clock has given these moments, and its hand tells this and has this number.
abbrev pub first_spot : Option (List ℕ) → Option (List ℕ) → Option (List ℕ) → Option (List Call) → Option States → ℕ → ConnectionState
first_spot left held given seen state number = record {
  wires = record { left = left; held = held };
  side = record { asked = []; given = given; invoked = 0; seen = seen; state = state; number = number };
  drawn = 0;
}

-- The place that a report shows, where so many identifiers were drawn.
abbrev pub last_spot : {I O T H : Type 0} → (I → ReadHalf) → (O → WriteHalf) → (T → Option (List ℕ)) → (H → WorkerState)
    → LinkReport I O T H → ℕ → ConnectionState
last_spot read_half write_half given shown report drawn = record {
  wires = record { left = (read_half report.source).left; held = (write_half report.sink).held };
  side = record { asked = report.asked; given = given report.clock; invoked = (shown report.hand).calls; seen = (shown report.hand).seen; state = (shown report.hand).state; number = (shown report.hand).number };
  drawn = drawn;
}

-- A connection on these terms led from a place to what its report shows: what was taken, done, drawn and written since is a dialogue with
-- this end, and the only one of its input and of what the outside answered, unless something outside failed; each Call was invoked at most
-- once, with the graph that it spells; and none runs any more.
pub record Talks {I O T H : Type 0} (read_half : I → ReadHalf) (write_half : O → WriteHalf) (given : T → Option (List ℕ)) (shown : H → WorkerState)
    (may : Invocation → Outcome → Type 0) (moves : States → Call → States → Type 0) (terms : Terms) (start : ConnectionState) (report : LinkReport I O T H) : Type 0 where
  pub drawn : ℕ
  pub served : IsServedFrom may moves terms start (last_spot read_half write_half given shown report drawn) report.end
  pub invoked : InvokesEachOnce terms start (last_spot read_half write_half given shown report drawn)
  pub balanced : Balanced report.asked

-- What became of a link's halves from its admission to its report: the end tells a fault of a half only where that half's own count rose, and
-- each half, unless it was shut before, was first shut with what its report has.
pub record LeavesHalves (read read_after : ReadHalf) (write write_after : WriteHalf) (end : ConnEnd) : Type 0 where
  pub read_fault : end ≡ ReadFault → Rose read.faults read_after.faults
  pub write_fault : IsWriteFault end → Rose write.faults write_after.faults
  pub read_shut : read_after.shut ≡ first_shut read.shut read_after.left
  pub write_shut : write_after.shut ≡ first_shut write.shut write_after.held

-- The report has the peer of the link, and as many calls as its entries began, where a word of 64 bits holds that number.
pub record TellsOf {I O T H : Type 0} (admitted : AdmittedLink I O T H) (report : LinkReport I O T H) : Type 0 where
  pub peer_host : report.peer_host ≡ admitted.peer.host
  pub peer_port : report.peer_port ≡ admitted.peer.port
  pub calls : calls_in report.asked < 2 ^ 64 → report.calls ≡ calls_in report.asked

-- What became of a link that was admitted: its connection began where it stands, with its halves as they stand, and the report tells of it.
abbrev pub TalksOver : {I O T H : Type 0} → (I → ReadHalf) → (O → WriteHalf) → (T → Option (List ℕ)) → (H → WorkerState)
    → (Invocation → Outcome → Type 0) → (States → Call → States → Type 0) → List Kind → AdmittedLink I O T H → LinkReport I O T H → Type 0
TalksOver read_half write_half given shown may moves kinds admitted report =
    Talks read_half write_half given shown may moves (terms_of kinds admitted.setup) (first_spot (read_half admitted.source).left (write_half admitted.sink).held (given admitted.clock) (shown admitted.hand).seen (shown admitted.hand).state (shown admitted.hand).number) report
    × LeavesHalves (read_half admitted.source) (read_half report.source) (write_half admitted.sink) (write_half report.sink) report.end
    × TellsOf admitted report
