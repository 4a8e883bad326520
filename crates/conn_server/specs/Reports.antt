-- What is told of the links, over the history that was left.
use Rattle.std.specs.Prelude.{◌≡◌, ◌<◌, ◌^◌, ℕ, List, [], ◌∷◌, ◌++◌, length, drop, Contains, Option, Some}
use Rattle.wire_io.specs.Links.{Accepted}
use Rattle.wire_io.specs.Wire.{ReadHalf, WriteHalf, Gave}
use Rattle.history.specs.Steps.{IsLegal}
use Rattle.history.specs.declared.asks.Ask.TheVariants.{Tick}
use Rattle.ports.specs.Balance.{WentAmong, calls_in}
use Rattle.space.specs.Built.{SpaceHistory}
use Rattle.space.specs.EventLists.{CollectsEach}
use Rattle.space.specs.declared.asked.Asked.{Asked}
use Rattle.turn_lock.specs.Answers.{events_of}
use Rattle.turn_lock.specs.Handles.{IsRootOf, opening_of, view_of}
use Rattle.turn_lock.specs.Rule.{Events, StartsWith, events_by}
use Rattle.turn_lock.specs.declared.handles.TurnLock.{TurnLock}
use Rattle.turn_lock.specs.declared.view.View.{View}
use Rattle.call_dispatch.specs.Acts.{WorkerState, Call, States}
use Rattle.call_dispatch.specs.Complete.{Completes}
use Rattle.call_dispatch.specs.ConnectionState.{ConnectionState}
use Rattle.call_dispatch.specs.End.{IsWriteFault}
use Rattle.call_dispatch.specs.declared.end.ConnEnd.{ConnEnd}
use Rattle.call_dispatch.specs.declared.end.ConnEnd.TheVariants.{ReadFault}
use Rattle.system_objects.specs.Terms.{Terms}
use Rattle.system_objects.specs.declared.book.Kind.{Kind}
use Rattle.call_dispatch.specs.declared.outcome.Invocation.{Invocation}
use Rattle.call_dispatch.specs.declared.outcome.Outcome.{Outcome}
use Rattle.conn_server.specs.Accepts.{links_of, ticks_of, with_all}
use Rattle.conn_server.specs.Made.{ComesBefore, IsTickEnd, WasTold}
use Rattle.conn_server.specs.Plans.{link_terms}
use Rattle.conn_server.specs.Rows.{Paired}
use Rattle.conn_server.specs.Stops.{Stopped, AreGivenBack}
use Rattle.conn_server.specs.Talks.{Talks, first_spot, last_spot}
use Rattle.conn_server.specs.Views.{IsTicked}
use Rattle.conn_server.specs.declared.admission.LostLink.{LostLink}
use Rattle.conn_server.specs.declared.link_task.LinkReport.{LinkReport}
use Rattle.conn_server.specs.declared.plan.ServePlan.{ServePlan}
use Rattle.conn_server.specs.declared.server.AllJoined.{AllJoined}
use Rattle.conn_server.specs.declared.server.Report.{Report}
use Rattle.conn_server.specs.declared.server.Served.{Served}
use Rattle.turn_lock.specs.declared.handles.Root.{Root}
use Rattle.conn_server.specs.Taken.{Taken}
use Rattle.std.specs.List.Sorted.{IsPermutation}

-- The events of connection k after the opening ones.
abbrev pub events_after : SpaceHistory → ℕ → SpaceHistory → Events
events_after s k h = events_by k (drop (length s.events) h.events)

-- The entries of connection k lead, among other connections' events, from the space s to the history that was left: each entry is what its event
-- is answered at its place, a refused one too, and the events of its number after the opening ones are the entries' that were taken, in order.
pub record AreTurnsOf (s : SpaceHistory) (k : ℕ) (entries : List Asked) (h : SpaceHistory) : Type 0 where
  pub went : WentAmong s.configuration k s.events entries h.events
  pub events : events_after s k h ≡ events_of k entries

-- The halves of a link as its report has them: the end tells a fault of a half only where that half failed, none of whose reads or writes had failed
-- when the link was accepted; so no other link's fault ends it. And each half was first shut when its connection had ended, with what the report has.
pub record AreLeftHalves (read : ReadHalf) (write : WriteHalf) (end : ConnEnd) : Type 0 where
  pub read_fault : end ≡ ReadFault → 0 < read.faults
  pub write_fault : IsWriteFault end → 0 < write.faults
  pub read_shut : read.shut ≡ Some read.left
  pub write_shut : write.shut ≡ Some write.held

-- Where neither half of a link failed, an input of whole messages whose calls all found their objects was answered to its end, or there was no memory.
abbrev pub CompletesLink : (Invocation → Outcome → Type 0) → (States → Call → States → Type 0) → Terms → ConnectionState → ConnectionState → ℕ → ℕ → ConnEnd → Type 0
CompletesLink may moves terms start now read_faults write_faults end = read_faults ≡ 0 → write_faults ≡ 0 → Completes may moves terms start now end

-- What is told of a link's own connection, of which the listener and the server's turn before it tell p: it was served on the terms of its
-- number, the plan and the link, from the link's own first byte on; its clock gave the moment of that turn, a Tick, and then those of the
-- connection; and its hand is that of its number, began without calls and numbers, and was told what the Tick withdrew, and then of the
-- connection's calls alone. The report has the peer's host and port, as the link was accepted with them, and the number of calls that it began.
pub record IsLinkOf {I O T H : Type 0} (read_half : I → ReadHalf) (write_half : O → WriteHalf) (given : T → Option (List ℕ)) (shown : H → WorkerState)
    (may : Invocation → Outcome → Type 0) (moves : States → Call → States → Type 0) (kinds : List Kind) (plan : ServePlan) (k : ℕ) (p : Accepted × Asked) (report : LinkReport I O T H) : Type 0 where
  pub by : report.by ≡ k
  pub peer_host : report.peer_host ≡ p.0.host
  pub peer_port : report.peer_port ≡ p.0.port
  pub calls : calls_in report.asked < 2 ^ 64 → report.calls ≡ calls_in report.asked
  pub given_then : Option (List ℕ)
  pub seen_then : Option (List Call)
  pub state_then : Option States
  pub talks : Talks read_half write_half given shown may moves (link_terms kinds plan k p.0.host p.0.port) (first_spot p.0.left p.0.held given_then seen_then state_then k) report
  pub halves : AreLeftHalves (read_half report.source) (write_half report.sink) report.end
  pub complete : CompletesLink may moves (link_terms kinds plan k p.0.host p.0.port) (first_spot p.0.left p.0.held given_then seen_then state_then k)
      (last_spot read_half write_half given shown report talks.drawn) (read_half report.source).faults (write_half report.sink).faults report.end
  pub tick_asked : p.1.ask ≡ Tick
  pub tick_end : IsTickEnd p.1.end
  pub ticked : Gave p.0.given given_then (p.1.moment ∷ [])
  pub hand : (shown report.hand).number ≡ k
  pub told : WasTold moves seen_then state_then p.1

-- The report of connection k: what is told of its own connection, and its turns in the history that was left, which come behind the server's turn
-- before it.
pub record IsReportOf {I O T H : Type 0} (IsLink : ℕ → Accepted × Asked → LinkReport I O T H → Type 0) (s h : SpaceHistory) (k : ℕ) (p : Accepted × Asked) (report : LinkReport I O T H) : Type 0 where
  pub link : IsLink k p report
  pub turns : AreTurnsOf s k report.asked h
  pub later : ComesBefore p.1 report.asked

-- The same of a root with the view v, before the lock was closed.
pub record IsKnown {I O T H : Type 0} (IsLink : ℕ → Accepted × Asked → LinkReport I O T H → Type 0) (s : SpaceHistory) (v : View) (k : ℕ) (p : Accepted × Asked) (report : LinkReport I O T H) : Type 0 where
  pub link : IsLink k p report
  pub later : ComesBefore p.1 report.asked
  pub listed : Contains v.ended (k, events_of k report.asked)
  pub last : Events
  pub went : WentAmong s.configuration k s.events report.asked last
  pub seen : StartsWith v.seen last

-- All threads were joined: the root is the lock's and knows the turns of each link, whose reports these are, and its own, whose entries those are.
pub record IsAllJoined {I O T H : Type 0} (IsLink : ℕ → Accepted × Asked → LinkReport I O T H → Type 0) (lock : TurnLock) (served : List (Accepted × Asked))
    (root : Root) (links : List (LinkReport I O T H)) (ticks : List Asked) : Type 0 where
  pub own : IsRootOf lock root
  pub out : root.out ≡ 0
  pub made : root.made ≡ length links
  pub ticked : IsTicked (view_of root.pass) ticks
  pub known : Paired (IsKnown IsLink (opening_of lock) (view_of root.pass)) 1 served links

-- So many links were to be accepted, those that were served were joined, and the taker was given the report of each once.
pub record IsServed {I O T H C : Type 0} (IsLink : ℕ → Accepted × Asked → LinkReport I O T H → Type 0) (IsLost : Accepted → LostLink I O T → Type 0)
    (taken : C → Taken (LinkReport I O T H)) (lock : TurnLock) (count : ℕ) (accepted accepted_after : Option (List Accepted)) (o : AllJoined I O T C) : Type 0 where
  pub served : List (Accepted × Asked)
  pub links : List (LinkReport I O T H)
  pub missed : List Accepted
  pub joined : IsAllJoined IsLink lock served o.root links (taken o.taker).ticks
  pub tied : (taken o.taker).ticks ≡ ticks_of served
  pub given : IsPermutation links (taken o.taker).reports
  pub told : accepted_after ≡ with_all accepted (links_of served ++ missed)
  pub stopped : Stopped o.stop count (length links) missed
  pub back : AreGivenBack IsLost missed o.lost

-- Links were served over a space that was opened so, of which the listener tells these before and after. The one history that is left is legal and
-- goes on from the opening. The rows of the space that is left are what the collector made of none: at each event it kept what there was a reason to
-- keep, and withdrew the rest. Each link that was
-- accepted has its Tick and its report, but the one, if any, for which there was no memory, which is given back; and there are no turns but these.
pub record ServesLinks {I O T H : Type 0} (IsLink : ℕ → Accepted × Asked → LinkReport I O T H → Type 0) (IsLost : Accepted → LostLink I O T → Type 0) (opening : SpaceHistory) (count : ℕ) (accepted accepted_after : Option (List Accepted)) (report : Report I O T H) : Type 0 where
  pub config : report.space.configuration ≡ opening.configuration
  pub legal : IsLegal report.space.configuration report.space.events
  pub begins : StartsWith report.space.events opening.events
  pub collects : CollectsEach report.space.configuration [] [] report.space.events report.space.events report.space.rows
  pub links : (served : List (Accepted × Asked)) × (lost : List Accepted)
      × (accepted_after ≡ with_all accepted (links_of served ++ lost))
      × (report.ticks ≡ ticks_of served)
      × Paired (IsReportOf IsLink opening report.space) 1 served report.links
      × Stopped report.stop count (length report.links) lost
      × AreGivenBack IsLost lost report.lost
  pub ticks : AreTurnsOf opening 0 report.ticks report.space
  pub others : (n : ℕ) → length report.links < n → events_after opening n report.space ≡ []

-- The report of what was served, with these reports of links and these entries.
abbrev pub report_with : {I O T H C : Type 0} → List (LinkReport I O T H) → List Asked → Served I O T C → Report I O T H
report_with links ticks s = record { links = links; ticks = ticks; stop = s.stop; lost = s.lost; space = s.space }

-- Links were served as above, and a taker was given the report of each link once, as the link had ended, and the entries of the server's own turns.
pub record GivesReports {I O T H C : Type 0} (IsLink : ℕ → Accepted × Asked → LinkReport I O T H → Type 0) (IsLost : Accepted → LostLink I O T → Type 0)
    (taken : C → Taken (LinkReport I O T H)) (opening : SpaceHistory) (count : ℕ) (accepted accepted_after : Option (List Accepted)) (s : Served I O T C) : Type 0 where
  pub links : List (LinkReport I O T H)
  pub given : IsPermutation links (taken s.taker).reports
  pub serves : ServesLinks IsLink IsLost opening count accepted accepted_after (report_with links (taken s.taker).ticks s)
