use Rattle.rmi_cli.proofs.obey.obey_host.Goals as goal

pub returns-clause-hosts : goal.returns-clause-hosts
returns-clause-hosts g c =
    let run = c.host_input-ended.ensures.hosts _ c.args.asked.now c.host_parts-parts.ensures.are in
    record { end = c.host_input-ended.result.end; hosts = run.0; tells = c.report_host.ensures.told (g.E.Sink.half c.args.host.now.errors) _ run.1 }
