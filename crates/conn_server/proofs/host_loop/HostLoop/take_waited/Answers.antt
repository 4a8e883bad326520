use Rattle.std.proofs.Common.{arith}
use Rattle.wire_io.specs.Links.{accepted_as}
use Rattle.conn_server.proofs.Hosting.{halted_lost, halted_told, hosting_joined, hosting_link, hosting_quiet}
use Rattle.conn_server.proofs.Keeping.{keeps_on}
use Rattle.conn_server.proofs.host_loop.HostLoop.take_waited.Goals as goal

pub admit-requires-clause-few : goal.admit-requires-clause-few
admit-requires-clause-few g c κs within =
    let numbered = c.requires.numbered in
    let begun = c.catch_up.ensures.begun in
    omega (arith, numbered, begun)

pub returns-in-Some-clause-keeps : goal.returns-in-Some-clause-keeps
returns-in-Some-clause-keeps g c = keeps_on g.C.ReportTaker.holds g.C.ReportTaker.stays _ _ _ c.catch_up.ensures.keeps c.admit.ensures.keeps

pub returns-in-Some-clause-goes_on : goal.returns-in-Some-clause-goes_on
returns-in-Some-clause-goes_on g c l0 l1 l2 gave_first h w ports =
    let joined = c.catch_up.ensures in
    let few = c.requires.few in
    let begun = joined.begun in
    let came = rw c.in-Came.is at w in
    let same = came.1 in
    let lost = c.in-Some.ensures in
    halted_lost _ _ _ _ _ _ _ _ _ _ _ l0 gave_first l1 l2 (accepted_as g.I.Source.half g.O.Sink.half g.T.Clock.given c.in-Came.link) _ c.catch_up.new.self _ _ c.in-Some.lost
    (hosting_joined _ _ _ _ _ _ _ _ _ _ _ l0 gave_first l1 _ _ _ _ h joined.accepting joined.follows joined.ticks joined.links joined.begun)
    (omega (arith, few, begun)) (record { accepted = came.0; faults = omega (arith, same); quiets = came.4; same_told = came.2; same_ports = ports; waited = came.6 })
    lost.accepting lost.follows lost.tied.0 lost.tied.1 lost.links lost.count lost.lost

pub returns-in-None-clause-keeps : goal.returns-in-None-clause-keeps
returns-in-None-clause-keeps g c = keeps_on g.C.ReportTaker.holds g.C.ReportTaker.stays _ _ _ c.catch_up.ensures.keeps c.admit.ensures.keeps

pub returns-in-None-clause-goes_on : goal.returns-in-None-clause-goes_on
returns-in-None-clause-goes_on g c l0 l1 l2 gave_first h w ports =
    let joined = c.catch_up.ensures in
    let few = c.requires.few in
    let begun = joined.begun in
    let came = rw c.in-Came.is at w in
    let same = came.1 in
    let admitted = c.in-None.ensures in
    hosting_link _ _ _ _ _ _ _ _ _ _ _ l0 gave_first l1 l2 (accepted_as g.I.Source.half g.O.Sink.half g.T.Clock.given c.in-Came.link) _ c.catch_up.new.self _ _
    (hosting_joined _ _ _ _ _ _ _ _ _ _ _ l0 gave_first l1 _ _ _ _ h joined.accepting joined.follows joined.ticks joined.links joined.begun)
    (omega (arith, few, begun)) (record { accepted = came.0; faults = omega (arith, same); quiets = came.4; same_told = came.2; same_ports = ports; waited = came.6 })
    admitted.accepting admitted.follows admitted.tied admitted.links admitted.count

pub returns-in-Quiet-clause-keeps : goal.returns-in-Quiet-clause-keeps
returns-in-Quiet-clause-keeps g c = keeps_on g.C.ReportTaker.holds g.C.ReportTaker.stays _ _ _ c.catch_up.ensures.keeps c.tick_quietly.ensures.keeps

pub returns-in-Quiet-clause-goes_on : goal.returns-in-Quiet-clause-goes_on
returns-in-Quiet-clause-goes_on g c l0 l1 l2 gave_first h w ports =
    let joined = c.catch_up.ensures in
    let quiet = c.tick_quietly.ensures in
    let none = rw c.in-Quiet.is at w in
    let same = none.1 in
    let counted = none.4 in
    hosting_quiet _ _ _ _ _ _ _ _ _ _ _ l0 gave_first l1 l2 _ _ c.catch_up.new.self _ _ _
    (hosting_joined _ _ _ _ _ _ _ _ _ _ _ l0 gave_first l1 _ _ _ _ h joined.accepting joined.follows joined.ticks joined.links joined.begun)
    (record { accepted = none.0; faults = omega (arith, same); quiets = omega (arith, counted); same_told = none.2; same_ports = ports; waited = none.6 })
    quiet.accepting quiet.follows quiet.all quiet.begun (λ t. quiet.quiet gave_first l0.quiets l1.quiets _ t)

pub returns-in-Told-clause-keeps : goal.returns-in-Told-clause-keeps
returns-in-Told-clause-keeps g c = c.catch_up.ensures.keeps

pub returns-in-Told-clause-goes_on : goal.returns-in-Told-clause-goes_on
returns-in-Told-clause-goes_on g c l0 l1 l2 gave_first h w ports =
    let joined = c.catch_up.ensures in
    let told = rw c.in-Told.is at w in
    let same = told.1 in
    halted_told _ _ _ _ _ _ _ _ _ _ _ l0 gave_first l1 l2 _ _ _ _ h c.requires.few joined.accepting joined.follows joined.ticks joined.links joined.begun told.0 (omega (arith, same)) told.2 ports told.3 told.5
