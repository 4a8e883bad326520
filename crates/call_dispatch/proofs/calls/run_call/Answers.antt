use Rattle.std.proofs.Common.{ap, inr, rules}
use Rattle.wire_io.specs.Pulled.{pull_state}
use Rattle.system_objects.specs.Terms.{terms_of}
use Rattle.call_dispatch.proofs.Leading.{led_invoked}
use Rattle.call_dispatch.proofs.Balancing.{give_up_balances}
use Rattle.call_dispatch.proofs.Calling.{unknown_runs, ran_runs}
use Rattle.call_dispatch.proofs.calls.run_call.Goals as goal

pub returns-in_default-clause-runs_on : goal.returns-in_default-clause-runs_on
returns-in_default-clause-runs_on g c first reads =
    let (moment, at, led) = c.give_up.ensures.led in
    let prepared = rw c.no_such_method.ensures at (rw c.give_up.ensures.frame.setup at c.refuse.ensures.prepared) in
    rw c.give_up.ensures.frame.pull (unknown_runs _ _ (terms_of c.args.connection.now.book.now c.args.connection.now.setup.now) _ c.args.head c.args.kind first (pull_state g.S.Source.half c.args.connection.now.pull) c.args.reader.stand _ _ _ _ moment at c.refuse.result c.in_default.ensures.none reads led prepared)

pub returns-in_default-clause-frame : goal.returns-in_default-clause-frame
returns-in_default-clause-frame g c =
    let (moment, at, led) = c.give_up.ensures.led in
    record {
      keeps = search rules;
      balanced = rw led.asked (give_up_balances c.args.head.id moment at (g.P.Port.shown c.args.connection.now.port.now).asked c.requires.can.running);
      sink = search rules;
      drawn = search rules;
      calls = search rules;
    }

pub returns-in-Ok-clause-runs_on : goal.returns-in-Ok-clause-runs_on
returns-in-Ok-clause-runs_on g c first reads =
    let takes = c.in-Ok.ensures.call first c.args.head reads in
    rw c.conclude.ensures.pull (ran_runs _ _ (terms_of c.args.connection.now.book.now c.args.connection.now.setup.now) _ c.args.head c.args.kind c.in-Some.method_place c.in-Some-method.method.now c.in-Ok.arguments c.invoke-outcome.result first _ _ _ _ _ _ c.conclude.result
    c.in-Some.ensures.some c.in-Some-method.ensures takes
    (led_invoked _ _ (g.P.Port.shown c.args.connection.now.port.now).asked (g.C.Clock.given c.args.connection.now.clock.now) _ c.invoke-outcome.result _ _ _ _ _ _ _ _ c.invoke-outcome.ensures.number c.invoke-outcome.ensures.calls c.invoke-outcome.ensures.may c.invoke-outcome.ensures.seen c.invoke-outcome.ensures.state)
    c.conclude.ensures.concludes)

pub returns-in-Err-clause-runs_on : goal.returns-in-Err-clause-runs_on
returns-in-Err-clause-runs_on g c first reads =
    inr (
      ap (λ s. s.now.draw.drawn) c.give_up-in-Err.ensures.frame.setup,
      (
        pull_state g.S.Source.half c.args.connection.now.pull,
        c.args.reader.stand,
        c.in-Some.method_place,
        c.in-Some-method.method.now,
        c.in-Err.fault,
        reads,
        c.in-Some.ensures.some,
        c.in-Some-method.ensures,
        rw c.give_up-in-Err.ensures.frame.pull c.in-Err.ensures.stops,
        c.end_of.ensures,
      ),
      c.give_up-in-Err.ensures.led,
    )

pub returns-in-Err-clause-frame : goal.returns-in-Err-clause-frame
returns-in-Err-clause-frame g c =
    let (moment, at, led) = c.give_up-in-Err.ensures.led in
    record {
      keeps = search rules;
      balanced = rw led.asked (give_up_balances c.args.head.id moment at (g.P.Port.shown c.args.connection.now.port.now).asked c.requires.can.running);
      sink = search rules;
      drawn = search rules;
      calls = search rules;
    }
