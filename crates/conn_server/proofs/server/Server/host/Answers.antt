use Rattle.std.proofs.Common.{◌∙◌, List, subst, sym}
use Rattle.std.specs.List.Sorted.{IsPermutation}
use Rattle.history.specs.Steps.{IsLegal}
use Rattle.history.specs.declared.asks.SpaceConfig.{SpaceConfig}
use Rattle.space.proofs.CollectLaws.{collects-all}
use Rattle.space.specs.declared.asked.Asked.{Asked}
use Rattle.turn_lock.specs.Handles.{opening_of, view_of}
use Rattle.conn_server.specs.Reports.{AreTurnsOf}
use Rattle.conn_server.proofs.Closing.{links_reported, no_others, ticks_reported}
use Rattle.conn_server.proofs.Failing.{since_first}
use Rattle.conn_server.proofs.Quiet.{quiet_closed}
use Rattle.conn_server.proofs.Stopping.{failed_rose, host_without_fault}
use Rattle.conn_server.proofs.server.Server.host.Goals as goal

pub returns-clause-hosts : goal.returns-clause-hosts
returns-clause-hosts g c =
    let s = c.host_links-joined.ensures.hosted in
    let o = c.host_links-joined.result in
    let closed = c.close_host in
    let ticks = (g.C.ReportTaker.taken o.taker).ticks in
    let h = closed.result.space in
    let settled = closed.ensures.settled in
    record {
      config = settled.same;
      legal = subst (λ (config : SpaceConfig). IsLegal config h.events) (sym settled.same) settled.legal;
      begins = (settled.tail, settled.begins);
      collects = collects-all h.configuration h.events h.rows settled.shown;
      served = s.served;
      links = s.links;
      missed = s.missed;
      told_links = s.told_links;
      reported = links_reported _ c.args.lock s.served o.root s.links ticks s.joined h settled;
      reports = subst (λ l. IsPermutation s.links l) (sym closed.ensures.reports.reports) s.reports;
      ticks = subst (λ (l : List Asked). AreTurnsOf (opening_of c.args.lock) 0 l h) (sym closed.ensures.ticks) (ticks_reported _ c.args.lock s.served o.root s.links ticks s.joined h settled);
      quiet = quiet_closed g.G.Hand.Worker.shown g.G.Hand.Worker.moves (opening_of c.args.lock) (view_of o.root.pass).seen h.events o.own.missed closed.result.ticks_missed _ _ _ _ _ ticks _ o.own.hand _
          settled.seen closed.ensures.missed closed.ensures.ticks closed.ensures.hand s.quiet;
      any_missed = closed.ensures.any_missed;
      others = no_others _ c.args.lock s.served o.root s.links ticks s.joined h settled;
      stopped = rw closed.ensures.stop s.stopped;
      fault = rw closed.ensures.stop (λ is. since_first _ _ _ _ (c.host_links-joined.ensures.fault is));
      back = rw closed.ensures.lost s.back;
      untold = rw closed.ensures.stop s.untold;
      closed = s.closed;
      waited = s.waited;
      handed = closed.ensures.handed;
      all_handed = closed.ensures.whole;
    }

pub returns-clause-fault : goal.returns-clause-fault
returns-clause-fault g c = rw c.close_host.ensures.stop c.host_links-joined.ensures.fault

pub returns-clause-all : goal.returns-clause-all
returns-clause-all g c none = host_without_fault _ (λ is. none (failed_rose _ _ (since_first _ _ _ _ (returns-clause-fault g c is))))

pub returns-clause-keeps : goal.returns-clause-keeps
returns-clause-keeps g c =
    let first = c.host_links-joined.ensures.keeps in
    let then = c.close_host.ensures.keeps in
    (λ held. then.0 (first.0 held), then.1 ∙ first.1)
