use Rattle.std.proofs.Common.{inr, ap}
use Rattle.rmi_client.specs.Sessions.{link_of}
use Rattle.rmi_caller.proofs.Telling.{not_both}
use Rattle.rmi_caller.proofs.remote.Remote.call.Goals as goal

pub returns-clause-calls : goal.returns-clause-calls
returns-clause-calls g c is_open =
    let calls = c.ask.ensures.calls c.args.method.now c.args.arguments.now c.in_ok-prepared.ensures.ready (rw (c.check_lease.ensures.session) is_open) in
    inr (rw (c.check_lease.ensures.object, ap (link_of g.D.In.Source.half g.D.Out.Sink.half) c.check_lease.ensures.session) at calls)

pub returns-clause-lapsed : goal.returns-clause-lapsed
returns-clause-lapsed g c =
    let (now, gave, lapses) = c.check_lease.ensures.lapsed in
    (now, rw (c.ask.ensures.clock) gave, λ client first log stands over. absurd (not_both c.check_lease.result _ _ (lapses client first log stands over) c.in_ok-check_lease.was))
