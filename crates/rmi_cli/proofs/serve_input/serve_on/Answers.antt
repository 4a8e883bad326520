use Rattle.std.proofs.Common.{◌∙◌, ap, sym}
use Rattle.history.specs.declared.asks.SpaceConfig.{SpaceConfig}
use Rattle.rmi_cli.proofs.Linking.{accept_failed, added, is_known, listened, print_failed}
use Rattle.rmi_cli.proofs.serve_input.serve_on.Goals as goal

pub returns-clause-fault : goal.returns-clause-fault
returns-clause-fault g c =
    let before = g.L.Listener.listening c.args.listener.now in
    let heard = g.L.Listener.listening c.listen.new.self in
    accept_failed _ _ _ _ _ _ _ _ _ _ (_, c.print_outline-printed.ensures.printed, c.end_after.ensures) (listened before heard _ _ _ c.listen.ensures.listens) c.serve_links-report.ensures.fault

pub returns-clause-write_fault : goal.returns-clause-write_fault
returns-clause-write_fault g c = print_failed _ _ _ _ _ _ _ (_, c.print_outline-printed.ensures.printed, c.end_after.ensures)

pub returns-clause-known : goal.returns-clause-known
returns-clause-known g c = is_known _ _ _ _ _ _ _ (_, c.print_outline-printed.ensures.printed, c.end_after.ensures)

pub returns-clause-ends : goal.returns-clause-ends
returns-clause-ends g c = (_, c.print_outline-printed.ensures.printed, c.end_after.ensures)

pub returns-clause-alone : goal.returns-clause-alone
returns-clause-alone g c =
    let before = g.L.Listener.listening c.args.listener.now in
    let heard = g.L.Listener.listening c.listen.new.self in
    c.serve_links-report.ensures.ports ∙ added before heard _ _ _ (sym c.is_err.ensures.value ∙ c.if-is_err.false) c.listen.ensures.listens

pub print_outline-printed-requires : goal.print_outline-printed-requires
print_outline-printed-requires g c = ap (λ (k : SpaceConfig). k.stored) c.serve_links-report.ensures.served.config ∙ c.requires.stored
