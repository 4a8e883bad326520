use Rattle.rmi_registry.proofs.StandLaws.{none-bound, names-count, bind-adds, rebind-changes, unbind-takes, others-leave-names}
use Rattle.rmi_registry.proofs.laws.bindings_are_the_names_of_a_history.Goals as goal

pub returns-clause-none : goal.returns-clause-none
returns-clause-none c = none-bound

pub returns-clause-counts : goal.returns-clause-counts
returns-clause-counts c = names-count

pub returns-clause-binds : goal.returns-clause-binds
returns-clause-binds c = bind-adds

pub returns-clause-rebinds : goal.returns-clause-rebinds
returns-clause-rebinds c = rebind-changes

pub returns-clause-unbinds : goal.returns-clause-unbinds
returns-clause-unbinds c = unbind-takes

pub returns-clause-others : goal.returns-clause-others
returns-clause-others c = others-leave-names
