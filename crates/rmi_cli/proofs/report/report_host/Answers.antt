use Rattle.rmi_cli.proofs.Hosting.{tells_behind, tells_failed, tells_lost}
use Rattle.rmi_cli.proofs.report.report_host.Goals as goal

pub returns-in-Whole-clause-told : goal.returns-in-Whole-clause-told
returns-in-Whole-clause-told g c first lines goes =
    tells_behind first (g.E.Sink.half c.args.errors.now) (g.E.Sink.half c.report_end.new.errors) _ lines _ _ c.in-Whole.is goes c.report_end.ensures.told

pub returns-in-Failed-clause-told : goal.returns-in-Failed-clause-told
returns-in-Failed-clause-told g c first lines goes = tells_failed first _ _ lines _ _ c.status.ensures c.in-Failed.is goes

pub returns-in-Lost-clause-told : goal.returns-in-Lost-clause-told
returns-in-Lost-clause-told g c first lines goes =
    tells_lost first (g.E.Sink.half c.args.errors.now) (g.E.Sink.half c.report_memory.new.errors) _ lines _ _ c.in-Lost.is goes c.report_memory.ensures.told
