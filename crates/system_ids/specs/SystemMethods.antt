-- The methods of the registry and the collector: the hashes by which they are called, and the types of their parameters.
use Rattle.std.specs.Prelude.{ℕ, ℤ, negsuc, List, [], ◌∷◌}
use Rattle.class_desc.specs.declared.field.TypeCode.{TypeCode}
use Rattle.class_desc.specs.declared.field.TypeCode.TheVariants as codes
use Rattle.method_hash.specs.Hash.{hash_of}
use Rattle.method_hash.specs.System.{registry_text, collector_text}
use Rattle.method_hash.specs.declared.system.RegistryMethod.TheVariants as registry
use Rattle.method_hash.specs.declared.system.CollectorMethod.TheVariants as collector
use Rattle.system_ids.specs.declared.methods.SystemMethod.{SystemMethod}
use Rattle.system_ids.specs.declared.methods.SystemMethod.TheVariants.{Registry, Collector}

-- A call is made by its method's hash, beside the operation -1.
abbrev pub minus_one : ℤ
minus_one = negsuc 0

abbrev pub text_of : SystemMethod → List ℕ
text_of (Registry method) = registry_text method
text_of (Collector method) = collector_text method

-- the hash by which a method is called beside the operation -1
unfoldable pub hash_by : SystemMethod → ℤ
hash_by method = hash_of (text_of method)

-- the types of a method's parameters, as its text has them
abbrev pub params_of : SystemMethod → List TypeCode
params_of (Registry registry.Bind) = codes.Object ∷ codes.Object ∷ []
params_of (Registry registry.List) = []
params_of (Registry registry.Lookup) = codes.Object ∷ []
params_of (Registry registry.Rebind) = codes.Object ∷ codes.Object ∷ []
params_of (Registry registry.Unbind) = codes.Object ∷ []
params_of (Collector collector.Clean) = codes.Array ∷ codes.Long ∷ codes.Object ∷ codes.Boolean ∷ []
params_of (Collector collector.Dirty) = codes.Array ∷ codes.Long ∷ codes.Object ∷ []
