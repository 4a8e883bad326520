use Rattle.rmi_cli.proofs.Answering.{answered}
use Rattle.rmi_cli.proofs.Exactly.{told_settles}
use Rattle.rmi_cli.proofs.obey.obey_answer.Goals as goal

pub returns-clause-answers : goal.returns-clause-answers
returns-clause-answers g c =
    answered _ _ _ _ _ _ _ _ _ _ c.answer_input-end.ensures.serves c.answer_input-end.ensures.read_fault c.answer_input-end.ensures.write_fault c.report_end.ensures.told

pub returns-clause-exact : goal.returns-clause-exact
returns-clause-exact g c = told_settles _ _ _ _ _ _ c.answer_input-end.ensures.exact c.report_end.ensures.told
