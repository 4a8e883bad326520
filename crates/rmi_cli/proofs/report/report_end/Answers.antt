use Rattle.std.proofs.Common.{true≢false, inr, sym, ◌∙◌}
use Rattle.rmi_cli.specs.Told.{told_by}
use Rattle.rmi_cli.proofs.Telling.{took, told_so}
use Rattle.rmi_cli.proofs.report.report_end.Goals as goal

pub returns-in-Ok-clause-told : goal.returns-in-Ok-clause-told
returns-in-Ok-clause-told g c =
    told_so (told_by g.E.Sink.half c.args.errors.now c.put_all.new.sink c.status-in-Ok.result) c.args.end c.as_bytes.result.now (λ same. true≢false (sym (c.if-is_silent.ensures.1 same))) (c.as_bytes.ensures.value ∙ c.in-Ok.ensures) c.status-in-Ok.ensures
    (took c.put_all.result (told_by g.E.Sink.half c.args.errors.now c.put_all.new.sink c.status-in-Ok.result) c.as_bytes.result.now c.put_all.ensures.ok c.put_all.ensures.sent c.put_all.ensures.fault)

pub returns-clause-told : goal.returns-clause-told
returns-clause-told g c = inr (λ same. true≢false (sym (c.if-is_silent.ensures.1 same)), c.report_memory.ensures.told)
