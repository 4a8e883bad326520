use Rattle.rmi_cli.proofs.report.report_words.Goals as goal

pub returns-in-OutOfMemory-clause-told : goal.returns-in-OutOfMemory-clause-told
returns-in-OutOfMemory-clause-told g c = rw c.in-OutOfMemory.is c.report_memory.ensures.told
