use Rattle.conn_server.proofs.Hosting.{hosting_joined, hosting_quiet}
use Rattle.conn_server.proofs.Keeping.{keeps_on}
use Rattle.conn_server.proofs.host_loop.HostLoop.pass_time.Goals as goal

pub returns-clause-keeps : goal.returns-clause-keeps
returns-clause-keeps g c = keeps_on g.C.ReportTaker.holds g.C.ReportTaker.stays _ _ _ c.catch_up.ensures.keeps c.tick_quietly.ensures.keeps

pub returns-clause-goes_on : goal.returns-clause-goes_on
returns-clause-goes_on g c l0 l1 l2 gave_first h like =
    let joined = c.catch_up.ensures in
    let quiet = c.tick_quietly.ensures in
    hosting_quiet _ _ _ _ _ _ _ _ _ _ _ l0 gave_first l1 l2 _ _ c.catch_up.new.self _ _ _
    (hosting_joined _ _ _ _ _ _ _ _ _ _ _ l0 gave_first l1 _ _ _ _ h joined.accepting joined.follows joined.ticks joined.links joined.begun)
    like quiet.accepting quiet.follows quiet.all quiet.begun (λ t. quiet.quiet gave_first l0.quiets l1.quiets _ t)
