-- The methods of the registry and of the collector (Java RMI Specification, 6.1 and 9.1), with their operation numbers.
use Rattle.std.specs.Prelude.{ℕ, ℤ, pos, List, codes}
use Rattle.method_hash.specs.declared.system.RegistryMethod.{RegistryMethod}
use Rattle.method_hash.specs.declared.system.RegistryMethod.TheVariants as registry
use Rattle.method_hash.specs.declared.system.CollectorMethod.{CollectorMethod}
use Rattle.method_hash.specs.declared.system.CollectorMethod.TheVariants as collector

abbrev pub registry_number : RegistryMethod → ℤ
registry_number registry.Bind = pos 0
registry_number registry.List = pos 1
registry_number registry.Lookup = pos 2
registry_number registry.Rebind = pos 3
registry_number registry.Unbind = pos 4

abbrev pub registry_text : RegistryMethod → List ℕ
registry_text registry.Bind = codes "bind(Ljava/lang/String;Ljava/rmi/Remote;)V"
registry_text registry.List = codes "list()[Ljava/lang/String;"
registry_text registry.Lookup = codes "lookup(Ljava/lang/String;)Ljava/rmi/Remote;"
registry_text registry.Rebind = codes "rebind(Ljava/lang/String;Ljava/rmi/Remote;)V"
registry_text registry.Unbind = codes "unbind(Ljava/lang/String;)V"

abbrev pub collector_number : CollectorMethod → ℤ
collector_number collector.Clean = pos 0
collector_number collector.Dirty = pos 1

abbrev pub collector_text : CollectorMethod → List ℕ
collector_text collector.Clean = codes "clean([Ljava/rmi/server/ObjID;JLjava/rmi/dgc/VMID;Z)V"
collector_text collector.Dirty = codes "dirty([Ljava/rmi/server/ObjID;JLjava/rmi/dgc/Lease;)Ljava/rmi/dgc/Lease;"
