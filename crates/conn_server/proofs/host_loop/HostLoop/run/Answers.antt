use Rattle.std.proofs.Common.{◌∙◌, arith, ap, refl}
use Rattle.wire_io.specs.Links.{Listening}
use Rattle.conn_server.proofs.Failing.{since_closed, since_now}
use Rattle.conn_server.proofs.Hosting.{halted_closed, hosting_first}
use Rattle.conn_server.proofs.Keeping.{keeps_on}
use Rattle.conn_server.proofs.host_loop.HostLoop.run.Goals as goal

pub loop-init : goal.loop-init
loop-init g c =
    let shared = c.args.shared.now in
    record {
      is = hosting_first _ _ _ _ _ _ _ _ shared.lock.now shared.book.now shared.plan.now _ _ _ _ c.requires.accepting c.requires.fresh.0 c.requires.fresh.1 c.requires.unused.0 c.requires.unused.1 c.requires.hosts;
      since = since_now g.L.Listener.listening _ c.args.listener.now c.requires.untried;
      still_open = refl;
      keeps = (λ held. held, refl);
    }

pub loop-preserved : goal.loop-preserved
loop-preserved g c = record {
  is = rw c.in-None-step.is at (c.step.ensures.goes_on (g.L.Listener.listening c.args.listener.now) (g.Q.Clock.given c.args.ticks.now) c.loop.invariant.is);
  since = c.step.ensures.since (g.L.Listener.listening c.args.listener.now) c.loop.invariant.since;
  still_open = c.step.ensures.still_open ∙ c.loop.invariant.still_open;
  keeps = keeps_on g.C.ReportTaker.holds g.C.ReportTaker.stays _ _ _ c.loop.invariant.keeps c.step.ensures.keeps;
}

pub returns-in-Some-step-clause-halted : goal.returns-in-Some-step-clause-halted
returns-in-Some-step-clause-halted g c =
    halted_closed _ _ _ _ _ _ _ _ _ _ _ (g.L.Listener.listening c.args.listener.now) (g.Q.Clock.given c.args.ticks.now) _ _ _ _ _ _ c.close.ensures.closed
    (rw c.in-Some-step.is at (c.step.ensures.goes_on (g.L.Listener.listening c.args.listener.now) (g.Q.Clock.given c.args.ticks.now) c.loop.invariant.is))

pub returns-in-Some-step-clause-closed : goal.returns-in-Some-step-clause-closed
returns-in-Some-step-clause-closed g c = ap (λ (x : Listening). x.closed) c.close.ensures.closed

pub returns-in-Some-step-clause-closed_last : goal.returns-in-Some-step-clause-closed_last
returns-in-Some-step-clause-closed_last g c = record {
  before = c.step.new.listener;
  still_open = c.step.ensures.still_open ∙ c.loop.invariant.still_open;
  closes = c.close.ensures.closed;
}

pub returns-in-Some-step-clause-fault : goal.returns-in-Some-step-clause-fault
returns-in-Some-step-clause-fault g c is =
    let many = rw c.in-Some-step.is at c.step.ensures.given_up in
    let more = many is in
    since_closed g.L.Listener.listening (g.L.Listener.listening c.args.listener.now) c.step.new.self.idle_tries _ _ _
    (c.step.ensures.since (g.L.Listener.listening c.args.listener.now) c.loop.invariant.since) (omega (arith, more)) c.close.ensures.closed
