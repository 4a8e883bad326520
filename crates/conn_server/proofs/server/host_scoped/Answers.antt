use Rattle.std.proofs.Common.{rules}
use Rattle.conn_server.proofs.server.host_scoped.Goals as goal

pub returns-clause-hosted : goal.returns-clause-hosted
returns-clause-hosted g c =
    let s = c.scoped-left.ensures.1.1.1.0 in
    record {
      served = s.served;
      links = s.links;
      missed = s.missed;
      joined = s.joined;
      handed_on = s.handed_on;
      quiet = search rules;
      reports = s.reports;
      told_links = search rules;
      stopped = search rules;
      back = s.back;
      untold = search rules;
      closed = search rules;
      waited = search rules;
    }

pub returns-clause-heard : goal.returns-clause-heard
returns-clause-heard g c = search rules

pub returns-clause-keeps : goal.returns-clause-keeps
returns-clause-keeps g c = c.scoped-left.ensures.1.1.0
