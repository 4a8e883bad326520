use Rattle.std.proofs.Common.{◌≡◌, ◌++◌, length}
use Rattle.conn_server.specs.Taken.{Keeps, SameReports}
use Rattle.conn_server.proofs.handing.record_parts.Given as goal

abbrev pub invariant-loop-rest : goal.invariant-loop-rest
invariant-loop-rest g l = record {
  events : (g.C.ReportTaker.taken l.taker).events ++ l.rest ≡ (g.C.ReportTaker.taken l.fn.taker).events ++ l.events;
  ticks : (g.C.ReportTaker.taken l.taker).ticks ≡ (g.C.ReportTaker.taken l.fn.taker).ticks;
  reports : SameReports g.C.ReportTaker.taken g.C.ReportTaker.expects l.fn.taker l.taker;
  keeps : Keeps g.C.ReportTaker.holds g.C.ReportTaker.stays l.fn.taker l.taker;
}

abbrev pub decreases-loop-rest : goal.decreases-loop-rest
decreases-loop-rest g l = length l.rest
