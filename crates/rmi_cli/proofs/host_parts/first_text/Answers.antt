use Rattle.rmi_cli.proofs.HostOpening.{opened_text}
use Rattle.rmi_cli.proofs.host_parts.first_text.Goals as goal

pub returns-in_ok-space-in-Journal : goal.returns-in_ok-space-in-Journal
returns-in_ok-space-in-Journal c =
    opened_text _ c.args.output _ c.args.seed.now c.args.options c.in-Journal.is c.in_ok-space-in-Journal.ensures c.journal.ensures.text
