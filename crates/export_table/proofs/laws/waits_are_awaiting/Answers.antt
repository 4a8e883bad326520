use Rattle.export_table.proofs.KeptLaws.{others-leave-waits}
use Rattle.export_table.proofs.StandLaws.{none-awaits, waiting-awaits, waiting-stands, return-lists, ack-ends}
use Rattle.export_table.proofs.laws.waits_are_awaiting.Goals as goal

pub returns-clause-none : goal.returns-clause-none
returns-clause-none c = none-awaits

pub returns-clause-awaits : goal.returns-clause-awaits
returns-clause-awaits c = waiting-awaits

pub returns-clause-time : goal.returns-clause-time
returns-clause-time c = waiting-stands

pub returns-clause-returns : goal.returns-clause-returns
returns-clause-returns c = return-lists

pub returns-clause-acknowledges : goal.returns-clause-acknowledges
returns-clause-acknowledges c = ack-ends

pub returns-clause-others : goal.returns-clause-others
returns-clause-others c = others-leave-waits
