use Rattle.std.proofs.Common.{◌≡◌, Some, rules}
use Rattle.sample_app.specs.declared.sample_call.SampleCall.TheVariants.{Add}
use Rattle.sample_app.specs.Does.{call_of}
use Rattle.sample_app.proofs.Giving.{adding_may}
use Rattle.sample_app.proofs.worker.SampleWorker.perform.Goals as goal

pub returns-in-Some-Add-clause-may : goal.returns-in-Some-Add-clause-may
returns-in-Some-Add-clause-may c =
    let asked : call_of c.args.call ≡ Some (Add _) = search rules in
    adding_may c.args.call _ _ _ _ _ asked c.add.ensures.adds c.add.ensures.fault
