use Rattle.std.proofs.Common.{◌∙◌, ℕ, List, [], ◌∷◌, ap, arith, inl, inr, sym, subst}
use Rattle.wire_io.specs.Links.{with_next}
use Rattle.rmi_cli.specs.Desk.{recorded_lines, told_lines}
use Rattle.rmi_cli.specs.Hosted.{is_recorded}
use Rattle.rmi_cli.specs.LinkLine.{listening_line}
use Rattle.rmi_cli.specs.Sinks.{Goes}
use Rattle.rmi_cli.specs.declared.sink_state.SinkState.{SinkState}
use Rattle.rmi_cli.specs.declared.sink_state.SinkState.TheVariants.{Whole}
use Rattle.rmi_cli.proofs.Hosting.{closed_printed, deaf_end, failed_end, hosts_deaf, hosts_heard, known_end, one_text, prints_all}
use Rattle.rmi_cli.proofs.Linking.{added, deaf, listened, listened_open, listened_quietly, listened_unasked, unfailed}
use Rattle.rmi_cli.proofs.Sinking.{goes_shut}
use Rattle.rmi_cli.proofs.host_input.host_on.Goals as goal

pub returns-clause-hosts : goal.returns-clause-hosts
returns-clause-hosts g c seed asked are =
    let before = g.L.Listener.listening c.args.host.now.listener in
    let heard = g.L.Listener.listening c.listen.new.self in
    let port = c.args.parts.port in
    let well = sym c.is_err.ensures.value ∙ c.if-is_err.false in
    let listens = added before heard _ _ _ well c.listen.ensures.listens in
    hosts_heard _ _ _ _ seed asked c.args.parts.address port before heard _ _ _ _ _ c.host_links-hosted.result.hosted _ _ _ _ _ _ are.address are.port
    (listens ∙ ap (λ (a : List ℕ). with_next before.ports (a, port)) c.as_str.ensures) c.listen.ensures.accepted (unfailed before heard _ _ _ well c.listen.ensures.listens) c.listen.ensures.told
    (listened_quietly before heard _ _ _ c.listen.ensures.listens) (listened_unasked before heard _ _ _ c.listen.ensures.listens) c.host_links-hosted.ensures.ports
    (c.host_links-hosted.ensures.links seed asked are) c.host_links-hosted.ensures.times (c.host_links-hosted.ensures.recorded ∙ ap is_recorded are.recording)
    (prints_all c.args.parts.recording asked.output _ c.args.parts.space c.args.parts.first _ _ _ _ _ _ c.host_links-hosted.result.hosted _ are.recording are.space are.first
    c.open_sinks-first.ensures.printed c.host_links-hosted.ensures.printed c.close_output.ensures.ends)
    c.open_sinks-first.ensures.told
    (subst (λ (s : SinkState). Goes (g.E.Sink.half c.open_sinks-first.new.errors) (g.E.Sink.half c.host_links-hosted.new.host.errors) (told_lines c.host_links-hosted.result.hosted.taker.reports) c.open_sinks-first.result.told s)
    (sym c.close_output.ensures.told) c.host_links-hosted.ensures.told)

pub returns-then-is_err-clause-hosts : goal.returns-then-is_err-clause-hosts
returns-then-is_err-clause-hosts g c seed asked are =
    let before = g.L.Listener.listening c.args.host.now.listener in
    let heard = g.L.Listener.listening c.listen.new.self in
    hosts_deaf _ _ _ _ seed asked before heard _ _ _ (deaf before heard _ _ _ (sym c.is_err.ensures.value ∙ c.if-is_err.true) c.listen.ensures.listens) c.listen.ensures.accepted

pub returns-clause-known : goal.returns-clause-known
returns-clause-known g c =
    let left = c.host_links-hosted.result in
    let ends = closed_printed c.args.parts.recording c.args.parts.first (recorded_lines c.args.parts.recording c.args.parts.space left.hosted.taker.events) _ _ _ _ _ _ _ _
    c.open_sinks-first.ensures.printed c.host_links-hosted.ensures.printed c.close_output.ensures.ends in
    known_end _ _ _ ends.0 _ ends.1 ends.2

pub returns-clause-write_fault : goal.returns-clause-write_fault
returns-clause-write_fault g c =
    let left = c.host_links-hosted.result in
    let ends = closed_printed c.args.parts.recording c.args.parts.first (recorded_lines c.args.parts.recording c.args.parts.space left.hosted.taker.events) _ _ _ _ _ _ _ _
    c.open_sinks-first.ensures.printed c.host_links-hosted.ensures.printed c.close_output.ensures.ends in
    failed_end _ _ _ ends.0 _ ends.1 ends.2

pub returns-clause-fault : goal.returns-clause-fault
returns-clause-fault g c is =
    let before = g.L.Listener.listening c.args.host.now.listener in
    let heard = g.L.Listener.listening c.listen.new.self in
    let left = c.host_links-hosted.result in
    let ends = closed_printed c.args.parts.recording c.args.parts.first (recorded_lines c.args.parts.recording c.args.parts.space left.hosted.taker.events) _ _ _ _ _ _ _ _
    c.open_sinks-first.ensures.printed c.host_links-hosted.ensures.printed c.close_output.ensures.ends in
    let more = listened before heard _ _ _ c.listen.ensures.listens in
    let rose = c.host_links-hosted.ensures.fault (deaf_end _ _ _ ends.0 _ ends.1 ends.2 is) in
    (omega (arith, more, rose.0), omega (arith, more, rose.1))

pub returns-clause-open : goal.returns-clause-open
returns-clause-open g c =
    let old = g.O.Sink.half c.args.host.now.output in
    let mid = g.O.Sink.half c.open_sinks-first.new.output in
    let new = g.O.Sink.half c.host_links-hosted.new.host.output in
    let left = c.host_links-hosted.result in
    let first = c.args.parts.first in
    c.close_output.ensures.open
    ∙ goes_shut mid new (recorded_lines c.args.parts.recording c.args.parts.space left.hosted.taker.events) c.open_sinks-first.result.printed left.states.printed c.host_links-hosted.ensures.printed
    ∙ goes_shut old mid (first ∷ []) Whole c.open_sinks-first.result.printed (one_text old mid first c.open_sinks-first.result.printed c.open_sinks-first.ensures.printed)

pub returns-clause-errors_open : goal.returns-clause-errors_open
returns-clause-errors_open g c =
    let old = g.E.Sink.half c.args.host.now.errors in
    let mid = g.E.Sink.half c.open_sinks-first.new.errors in
    let new = g.E.Sink.half c.host_links-hosted.new.host.errors in
    let left = c.host_links-hosted.result in
    goes_shut mid new (told_lines left.hosted.taker.reports) c.open_sinks-first.result.told left.states.told c.host_links-hosted.ensures.told
    ∙ goes_shut old mid (listening_line c.args.parts.address c.args.parts.port ∷ []) Whole c.open_sinks-first.result.told c.open_sinks-first.ensures.told

-- ---- the listener is closed last

pub returns-then-is_err-clause-closes : goal.returns-then-is_err-clause-closes
returns-then-is_err-clause-closes g c =
    inl (listened_open (g.L.Listener.listening c.args.host.now.listener) (g.L.Listener.listening c.listen.new.self) _ _ _ c.listen.ensures.listens)

pub returns-clause-closes : goal.returns-clause-closes
returns-clause-closes g c =
    let last = c.host_links-hosted.ensures.closed_last in
    inr (record {
      before = last.before;
      still_open = last.still_open ∙ listened_open (g.L.Listener.listening c.args.host.now.listener) (g.L.Listener.listening c.listen.new.self) _ _ _ c.listen.ensures.listens;
      closes = last.closes;
    })
