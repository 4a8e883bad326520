-- The method of the registry or the collector that a call's head names.
use Rattle.std.specs.Prelude.{ℤ, pos, Option, None, Some, if◌then◌else◌}
use Rattle.std.specs.Ordering.{int_eq}
use Rattle.method_hash.specs.declared.system.RegistryMethod.TheVariants as registry
use Rattle.method_hash.specs.declared.system.CollectorMethod.TheVariants as collector
use Rattle.object_ids.specs.Same.{same_id}
use Rattle.jrmp_frames.specs.declared.head.CallHead.{CallHead}
use Rattle.system_ids.specs.declared.methods.SystemMethod.{SystemMethod}
use Rattle.system_ids.specs.declared.methods.SystemMethod.TheVariants.{Registry, Collector}
use Rattle.system_ids.specs.SystemIds.{registry_id}
use Rattle.system_ids.specs.SystemMethods.{minus_one, hash_by}

-- the method with an operation number, whatever hash stands beside it
abbrev pub registry_numbered : ℤ → Option SystemMethod
registry_numbered operation =
    if int_eq operation (pos 0) then Some (Registry registry.Bind) else
    if int_eq operation (pos 1) then Some (Registry registry.List) else
    if int_eq operation (pos 2) then Some (Registry registry.Lookup) else
    if int_eq operation (pos 3) then Some (Registry registry.Rebind) else
    if int_eq operation (pos 4) then Some (Registry registry.Unbind) else
    None

abbrev pub collector_numbered : ℤ → Option SystemMethod
collector_numbered operation =
    if int_eq operation (pos 0) then Some (Collector collector.Clean) else
    if int_eq operation (pos 1) then Some (Collector collector.Dirty) else
    None

-- the first method with a hash, in the order of their numbers
abbrev pub registry_hashed : ℤ → Option SystemMethod
registry_hashed hash =
    if int_eq (hash_by (Registry registry.Bind)) hash then Some (Registry registry.Bind) else
    if int_eq (hash_by (Registry registry.List)) hash then Some (Registry registry.List) else
    if int_eq (hash_by (Registry registry.Lookup)) hash then Some (Registry registry.Lookup) else
    if int_eq (hash_by (Registry registry.Rebind)) hash then Some (Registry registry.Rebind) else
    if int_eq (hash_by (Registry registry.Unbind)) hash then Some (Registry registry.Unbind) else
    None

abbrev pub collector_hashed : ℤ → Option SystemMethod
collector_hashed hash =
    if int_eq (hash_by (Collector collector.Clean)) hash then Some (Collector collector.Clean) else
    if int_eq (hash_by (Collector collector.Dirty)) hash then Some (Collector collector.Dirty) else
    None

-- The method that a head names: of the registry or of the collector, by its number, or beside the operation -1 by its hash.
abbrev pub registry_method : ℤ → ℤ → Option SystemMethod
registry_method operation hash = if int_eq operation minus_one then registry_hashed hash else registry_numbered operation

abbrev pub collector_method : ℤ → ℤ → Option SystemMethod
collector_method operation hash = if int_eq operation minus_one then collector_hashed hash else collector_numbered operation

unfoldable pub system_method : CallHead → Option SystemMethod
system_method head = if same_id head.id registry_id then registry_method head.operation head.hash else collector_method head.operation head.hash
