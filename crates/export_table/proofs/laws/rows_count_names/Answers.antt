use Rattle.export_table.proofs.StandLaws.{bind-pins, rebind-pins, unbind-unpins}
use Rattle.export_table.proofs.laws.rows_count_names.Goals as goal

pub returns-clause-binds : goal.returns-clause-binds
returns-clause-binds c = bind-pins

pub returns-clause-rebinds : goal.returns-clause-rebinds
returns-clause-rebinds c = rebind-pins

pub returns-clause-unbinds : goal.returns-clause-unbinds
returns-clause-unbinds c = unbind-unpins
