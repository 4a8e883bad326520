use Rattle.std.proofs.Common.{subst, sym}
use Rattle.history.specs.Steps.{IsLegal}
use Rattle.history.specs.declared.asks.SpaceConfig.{SpaceConfig}
use Rattle.space.proofs.CollectLaws.{collects-all}
use Rattle.conn_server.proofs.Closing.{links_reported, no_others, ticks_reported}
use Rattle.conn_server.proofs.Stopping.{stops_without_fault}
use Rattle.conn_server.proofs.server.Server.serve_with.Goals as goal

pub returns-clause-given : goal.returns-clause-given
returns-clause-given g c =
    let s = c.serve_links-root.ensures.served in
    let o = c.serve_links-root.result in
    let ticks = (g.C.ReportTaker.taken o.taker).ticks in
    let h = c.close.result in
    let settled = c.close.ensures.settled in
    record {
      links = s.links;
      given = s.given;
      serves = record {
        config = settled.same;
        legal = subst (λ (config : SpaceConfig). IsLegal config h.events) (sym settled.same) settled.legal;
        begins = (settled.tail, settled.begins);
        collects = collects-all h.configuration h.events h.rows settled.shown;
        links = (s.served, s.missed, s.told, s.tied, links_reported _ c.args.lock s.served o.root s.links ticks s.joined h settled, s.stopped, s.back);
        ticks = ticks_reported _ c.args.lock s.served o.root s.links ticks s.joined h settled;
        others = no_others _ c.args.lock s.served o.root s.links ticks s.joined h settled;
      };
    }

pub returns-clause-fault : goal.returns-clause-fault
returns-clause-fault g c = c.serve_links-root.ensures.fault

pub returns-clause-all : goal.returns-clause-all
returns-clause-all g c none = stops_without_fault _ _ _ _ (returns-clause-given g c).serves.links.5 (λ is. none (returns-clause-fault g c is))
