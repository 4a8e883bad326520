-- Kinds of objects and their methods.
use Rattle.std.specs.Prelude.{◌≡◌, ◌≤◌, ◌<◌, ◌^◌, ◌||◌, ℕ, ℤ, Bool, true, false, List, [], length, map, All, Option, Some, None, slice_get}
use Rattle.std.specs.List.{list_any, position}
use Rattle.std.specs.Ordering.{int_eq}
use Rattle.mod_utf.specs.Utf.{utf}
use Rattle.class_desc.specs.declared.field.TypeCode.{TypeCode}
use Rattle.class_desc.specs.declared.field.TypeCode.TheVariants as codes
use Rattle.method_hash.specs.declared.method.Method.{Method}
use Rattle.method_hash.specs.Hash.{hash_of}
use Rattle.method_hash.specs.declared.system.RegistryMethod.TheVariants as registry
use Rattle.method_hash.specs.declared.system.CollectorMethod.TheVariants as collector
use Rattle.system_objects.specs.declared.book.Kind.{Kind}
use Rattle.system_objects.specs.declared.book.BookFault.{BookFault}
use Rattle.system_objects.specs.declared.book.BookFault.TheVariants.{FloatMethod, OutOfMemory}
use Rattle.system_objects.specs.declared.book.SystemHashes.{SystemHashes}
use Rattle.system_ids.specs.declared.methods.SystemMethod.TheVariants.{Registry, Collector}
use Rattle.system_ids.specs.SystemMethods.{hash_by}

-- ---- floats and doubles

abbrev pub is_float : TypeCode → Bool
is_float codes.Double = true
is_float codes.Float = true
is_float _ = false

abbrev pub returns_float : Option TypeCode → Bool
returns_float (Some code) = is_float code
returns_float None = false

-- A parameter or the result of the method is a float or a double.
abbrev pub uses_float : Method → Bool
uses_float method = list_any is_float method.params || returns_float method.result

-- Some method of the kind does.
abbrev pub has_float : Kind → Bool
has_float kind = list_any uses_float kind.methods

-- ---- methods

abbrev pub methods_in : Option Kind → List Method
methods_in (Some kind) = kind.methods
methods_in None = []

-- The methods of the kind at a place; a kind that is no place has none.
abbrev pub methods_of : List Kind → ℕ → List Method
methods_of kinds kind = methods_in (slice_get kinds kind)

-- The place of the first method that has this hash, counted from 0, if one has it.
abbrev pub first_with : ℤ → List Method → Option ℕ
first_with hash methods = position (λ method. int_eq (hash_of method.text) hash) methods

abbrev pub hashes_of : Kind → List ℤ
hashes_of kind = map (λ method. hash_of method.text) kind.methods

-- ---- methods of the registry and the collector

-- Each is the hash of its method.
pub record AreSystemHashes (hashes : SystemHashes) : Type 0 where
  pub bind : hashes.bind ≡ hash_by (Registry registry.Bind)
  pub list : hashes.list ≡ hash_by (Registry registry.List)
  pub lookup : hashes.lookup ≡ hash_by (Registry registry.Lookup)
  pub rebind : hashes.rebind ≡ hash_by (Registry registry.Rebind)
  pub unbind : hashes.unbind ≡ hash_by (Registry registry.Unbind)
  pub clean : hashes.clean ≡ hash_by (Collector collector.Clean)
  pub dirty : hashes.dirty ≡ hash_by (Collector collector.Dirty)

-- ---- books

-- Why these kinds make no book: the first kind that has such a method, and the first such method of it; or there was no memory.
abbrev pub FaultsBook : List Kind → BookFault → Type 0
FaultsBook kinds (FloatMethod kind method) = (position has_float kinds ≡ Some kind) × (position uses_float (methods_of kinds kind) ≡ Some method)
FaultsBook kinds OutOfMemory = Unit {0}

-- The hashes are those of the kinds' methods, of which there are not too many, and of the registry's and the collector's.
pub record IsBook (kinds : List Kind) (hashes : List (List ℤ)) (system : SystemHashes) : Type 0 where
  pub same : hashes ≡ map hashes_of kinds
  pub few_kinds : length kinds < 2 ^ 32
  pub few_methods : All (λ kind. length kind.methods < 2 ^ 32) kinds
  pub interfaces : All (λ kind. length (utf kind.interface) ≤ 65535) kinds
  pub system_same : AreSystemHashes system
