use Rattle.rmi_cli.proofs.Asking.{known_told, link_told, sink_told}
use Rattle.rmi_cli.proofs.Calling.{calls_causes}
use Rattle.rmi_cli.proofs.obey.obey_call.Goals as goal

pub returns-clause-calls : goal.returns-clause-calls
returns-clause-calls g c = (c.call_object-end.result, c.call_object-end.ensures.calls _ c.args.call.now c.request_of-request.ensures, c.report_end.ensures.told)

pub returns-clause-known : goal.returns-clause-known
returns-clause-known g c =
    known_told _ _ _ _ (calls_causes _ _ _ _ _ _ _ (c.call_object-end.ensures.calls _ c.args.call.now c.request_of-request.ensures)) c.report_end.ensures.status

pub returns-clause-link_fault : goal.returns-clause-link_fault
returns-clause-link_fault g c =
    link_told _ _ _ _ (calls_causes _ _ _ _ _ _ _ (c.call_object-end.ensures.calls _ c.args.call.now c.request_of-request.ensures)) c.report_end.ensures.status

pub returns-clause-sink_fault : goal.returns-clause-sink_fault
returns-clause-sink_fault g c =
    sink_told _ _ _ _ (calls_causes _ _ _ _ _ _ _ (c.call_object-end.ensures.calls _ c.args.call.now c.request_of-request.ensures)) c.report_end.ensures.status
