use Rattle.std.proofs.Common.{◌∙◌, ap, sym, subst}
use Rattle.std.specs.List.{AllByRecursion}
use Rattle.conn_server.proofs.Stopping.{failed_rose}
use Rattle.rmi_cli.specs.Desk.{DeskStays, IsTimed, taken_of}
use Rattle.rmi_cli.proofs.Hosting.{hosts_from, hosts_given}
use Rattle.rmi_cli.proofs.Recording.{desk_starts, desk_told, desk_untold, desk_wrote, times_start}
use Rattle.rmi_cli.proofs.host_input.serve_at_desk.Goals as goal

pub returns-clause-links : goal.returns-clause-links
returns-clause-links g c seed asked are =
    hosts_from _ _ _ _ seed asked c.args.begun.parts _ _ _ _ _ are c.requires
    (hosts_given _ _ _ _ seed (λ d. taken_of d.given) _ _ _ _ _ _ _ c.host-served.result _ (ap taken_of (sym c.take_apart.ensures.given)) c.take_apart.ensures.rest c.host-served.ensures.hosts)

pub returns-clause-fault : goal.returns-clause-fault
returns-clause-fault g c is = failed_rose _ _ (c.host-served.ensures.hosts.fault (sym c.take_apart.ensures.rest.0 ∙ is))

pub returns-clause-printed : goal.returns-clause-printed
returns-clause-printed g c =
    let made = c.into_desk in
    let left = c.take_apart in
    let kept = c.host-served.ensures.keeps in
    let held = kept.0 (
      desk_starts (g.K.Sink.half made.result.first_output.value) (g.K.Sink.half made.result.output.now) made.result.recording made.result.space made.result.given.events made.result.first_printed made.result.printed
          (ap g.K.Sink.half (made.ensures.sinks.0 ∙ sym made.ensures.first.0)) made.ensures.nothing.2 (made.ensures.printed.0 ∙ sym made.ensures.printed.1),
      desk_untold (g.E.Sink.half made.result.first_errors.value) (g.E.Sink.half made.result.errors.now) made.result.given.reports made.result.first_told made.result.told
          (ap g.E.Sink.half (made.ensures.sinks.1 ∙ sym made.ensures.first.1)) made.ensures.nothing.0 (made.ensures.told.0 ∙ sym made.ensures.told.1),
      times_start _ _ _ _ _ made.ensures.times.0 made.ensures.times.1 made.ensures.nothing.0,
    ) in
    desk_wrote _ _ _ _ _ _ _ _ _ _ _ _ _ _ (ap (λ (s : DeskStays). s.first_output) kept.1 ∙ ap g.K.Sink.half made.ensures.first.0) (ap g.K.Sink.half (sym left.ensures.output))
    (ap (λ (s : DeskStays). s.recording) kept.1 ∙ made.ensures.words.0) (ap (λ (s : DeskStays). s.space) kept.1 ∙ made.ensures.words.1) (ap (λ d. d.events) (sym left.ensures.given))
    (ap (λ (s : DeskStays). s.first_printed) kept.1 ∙ made.ensures.printed.1) (sym left.ensures.printed) held.0

pub returns-clause-told : goal.returns-clause-told
returns-clause-told g c =
    let made = c.into_desk in
    let left = c.take_apart in
    let kept = c.host-served.ensures.keeps in
    let held = kept.0 (
      desk_starts (g.K.Sink.half made.result.first_output.value) (g.K.Sink.half made.result.output.now) made.result.recording made.result.space made.result.given.events made.result.first_printed made.result.printed
          (ap g.K.Sink.half (made.ensures.sinks.0 ∙ sym made.ensures.first.0)) made.ensures.nothing.2 (made.ensures.printed.0 ∙ sym made.ensures.printed.1),
      desk_untold (g.E.Sink.half made.result.first_errors.value) (g.E.Sink.half made.result.errors.now) made.result.given.reports made.result.first_told made.result.told
          (ap g.E.Sink.half (made.ensures.sinks.1 ∙ sym made.ensures.first.1)) made.ensures.nothing.0 (made.ensures.told.0 ∙ sym made.ensures.told.1),
      times_start _ _ _ _ _ made.ensures.times.0 made.ensures.times.1 made.ensures.nothing.0,
    ) in
    desk_told _ _ _ _ _ _ _ _ _ _ (ap (λ (s : DeskStays). s.first_errors) kept.1 ∙ ap g.E.Sink.half made.ensures.first.1) (ap g.E.Sink.half (sym left.ensures.errors))
    (ap (λ d. d.reports) (sym left.ensures.given)) (ap (λ (s : DeskStays). s.first_told) kept.1 ∙ made.ensures.told.1) (sym left.ensures.told) held.1

pub returns-clause-times : goal.returns-clause-times
returns-clause-times g c =
    let made = c.into_desk in
    let left = c.take_apart in
    let kept = c.host-served.ensures.keeps in
    let held = kept.0 (
      desk_starts (g.K.Sink.half made.result.first_output.value) (g.K.Sink.half made.result.output.now) made.result.recording made.result.space made.result.given.events made.result.first_printed made.result.printed
          (ap g.K.Sink.half (made.ensures.sinks.0 ∙ sym made.ensures.first.0)) made.ensures.nothing.2 (made.ensures.printed.0 ∙ sym made.ensures.printed.1),
      desk_untold (g.E.Sink.half made.result.first_errors.value) (g.E.Sink.half made.result.errors.now) made.result.given.reports made.result.first_told made.result.told
          (ap g.E.Sink.half (made.ensures.sinks.1 ∙ sym made.ensures.first.1)) made.ensures.nothing.0 (made.ensures.told.0 ∙ sym made.ensures.told.1),
      times_start _ _ _ _ _ made.ensures.times.0 made.ensures.times.1 made.ensures.nothing.0,
    ) in
    subst (λ d. AllByRecursion (IsTimed g.L.Ticks.Clock.given d.ticks) d.reports) (sym left.ensures.given) held.2.reports_are
