use Rattle.std.proofs.Common.{None}
use Rattle.rmi_cli.proofs.Asking.{asks_causes, known_told, link_told, sink_told}
use Rattle.rmi_cli.proofs.obey.obey_client.Goals as goal

pub returns-clause-asks : goal.returns-clause-asks
returns-clause-asks g c given = (c.ask_server-end.result, c.ask_server-end.ensures.asks given, c.report_end.ensures.told)

pub returns-clause-known : goal.returns-clause-known
returns-clause-known g c = known_told _ _ _ _ (asks_causes _ _ _ _ _ _ (c.ask_server-end.ensures.asks None)) c.report_end.ensures.status

pub returns-clause-link_fault : goal.returns-clause-link_fault
returns-clause-link_fault g c = link_told _ _ _ _ (asks_causes _ _ _ _ _ _ (c.ask_server-end.ensures.asks None)) c.report_end.ensures.status

pub returns-clause-sink_fault : goal.returns-clause-sink_fault
returns-clause-sink_fault g c = sink_told _ _ _ _ (asks_causes _ _ _ _ _ _ (c.ask_server-end.ensures.asks None)) c.report_end.ensures.status
