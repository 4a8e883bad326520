use Rattle.std.proofs.Common.{rules}
use Rattle.conn_server.proofs.server.serve_scoped.Goals as goal

pub returns-clause-served : goal.returns-clause-served
returns-clause-served g c =
    let s = c.scoped-left.ensures.1.1.0 in
    record {
      served = s.served;
      links = s.links;
      missed = s.missed;
      joined = s.joined;
      tied = s.tied;
      given = s.given;
      told = search rules;
      stopped = s.stopped;
      back = s.back;
    }

pub returns-clause-heard : goal.returns-clause-heard
returns-clause-heard g c = search rules
