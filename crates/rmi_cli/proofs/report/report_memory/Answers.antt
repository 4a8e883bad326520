use Rattle.rmi_cli.specs.Told.{told_by}
use Rattle.rmi_cli.proofs.Telling.{took}
use Rattle.rmi_cli.proofs.report.report_memory.Goals as goal

pub returns-clause-told : goal.returns-clause-told
returns-clause-told g c = (
  c.status.ensures,
  took c.put_all.result (told_by g.E.Sink.half c.args.errors.now c.put_all.new.sink c.status.result) _ c.put_all.ensures.ok c.put_all.ensures.sent c.put_all.ensures.fault,
)
