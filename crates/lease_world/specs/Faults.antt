-- The faults of a world that its server's and its clients' refusals are.
use Rattle.history.specs.declared.replies.Refused.{Refused}
use Rattle.history.specs.declared.replies.Refused.TheVariants as refusals
use Rattle.dgc_client.specs.declared.plan.ClientFault.{ClientFault}
use Rattle.dgc_client.specs.declared.plan.ClientFault.TheVariants as client_faults
use Rattle.lease_world.specs.declared.fault.WorldFault.{WorldFault}
use Rattle.lease_world.specs.declared.fault.WorldFault.TheVariants.{SpaceRefused, ClientRefused, OutOfMemory}

abbrev pub of_space : Refused → WorldFault
of_space refusals.OutOfMemory = OutOfMemory
of_space refused = SpaceRefused refused

abbrev pub of_client : ClientFault → WorldFault
of_client client_faults.OutOfMemory = OutOfMemory
of_client fault = ClientRefused fault
