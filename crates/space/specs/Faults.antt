-- Refusals of lease calls and of names.
use Rattle.object_ids.specs.declared.ids.FullKind.TheVariants.{Clients, Pairs}
use Rattle.history.specs.declared.replies.Refused.{Refused}
use Rattle.history.specs.declared.replies.Refused.TheVariants.{Full, OutOfMemory}
use Rattle.rmi_registry.specs.declared.names.NameFault.{NameFault}
use Rattle.rmi_registry.specs.declared.names.NameFault.TheVariants.{AlreadyBound, Full as FullFault, OutOfMemory as NoMemoryFault}
use Rattle.dgc_server.specs.declared.leases.LeaseFault.{LeaseFault}
use Rattle.dgc_server.specs.declared.leases.LeaseFault.TheVariants.{Clients as ClientsFault, Pairs as PairsFault, OutOfMemory as NoMemory}

-- The refusal of an event whose lease call is refused.
abbrev pub refused_for : LeaseFault → Refused
refused_for ClientsFault = Full Clients
refused_for PairsFault = Full Pairs
refused_for NoMemory = OutOfMemory

-- The refusal of an event whose name is not bound. A name that is bound, whatever it stood for, is refused where there are too many names or there
-- is no memory.
abbrev pub unbound_for : NameFault → Refused
unbound_for (FullFault kind) = Full kind
unbound_for AlreadyBound = OutOfMemory
unbound_for NoMemoryFault = OutOfMemory
