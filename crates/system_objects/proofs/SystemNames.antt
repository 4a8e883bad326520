-- The methods that calls of the registry and the collector name.
use Rattle.std.proofs.Common.{◌≡◌, ◌≢◌, ℤ, pos, Bool, true, false, Option, None, Some, refl, sym, ap, ◌∙◌, if◌then◌else◌}
use Rattle.std.specs.Ordering.{int_eq}
use Rattle.std.proofs.lemmas.Bool.Decides.{Decides-int_eq}
use Rattle.method_hash.specs.System.{registry_number, collector_number}
use Rattle.method_hash.specs.declared.system.RegistryMethod.{RegistryMethod}
use Rattle.method_hash.specs.declared.system.RegistryMethod.TheVariants as registry
use Rattle.method_hash.specs.declared.system.CollectorMethod.{CollectorMethod}
use Rattle.method_hash.specs.declared.system.CollectorMethod.TheVariants as collector
use Rattle.object_ids.specs.Same.{same_id}
use Rattle.jrmp_frames.specs.declared.head.CallHead.{CallHead}
use Rattle.system_objects.specs.declared.book.SystemHashes.{SystemHashes}
use Rattle.system_ids.specs.declared.methods.SystemMethod.{SystemMethod}
use Rattle.system_ids.specs.declared.methods.SystemMethod.TheVariants.{Registry}
use Rattle.system_ids.specs.SystemMethods.{hash_by, minus_one}
use Rattle.system_objects.specs.Book.{AreSystemHashes}
use Rattle.system_ids.specs.SystemIds.{registry_id}
use Rattle.system_objects.specs.MethodByHead.{registry_numbered, collector_numbered, registry_hashed, collector_hashed, registry_method, collector_method, system_method}

other_number : (a b : ℤ) → a ≢ b → int_eq a b ≡ false
other_number a b other = go (int_eq a b) refl
  where
    go : (t : Bool) → int_eq a b ≡ t → int_eq a b ≡ false
    go false e = e
    go true e = absurd (other ((Decides-int_eq a b).0 e))

pub registry_none : (operation : ℤ) → ((m : RegistryMethod) → operation ≡ registry_number m → ⊥) → registry_numbered operation ≡ None
registry_none operation none =
    let a = other_number operation (pos 0) (none registry.Bind) in
    let b = other_number operation (pos 1) (none registry.List) in
    let c = other_number operation (pos 2) (none registry.Lookup) in
    let d = other_number operation (pos 3) (none registry.Rebind) in
    let e = other_number operation (pos 4) (none registry.Unbind) in
    rw (a, b, c, d, e) refl

pub collector_none : (operation : ℤ) → ((m : CollectorMethod) → operation ≡ collector_number m → ⊥) → collector_numbered operation ≡ None
collector_none operation none =
    let a = other_number operation (pos 0) (none collector.Clean) in
    let b = other_number operation (pos 1) (none collector.Dirty) in
    rw (a, b) refl

-- ---- by a hash

-- the first method with a hash, where these tests say of each whether it has it
abbrev pub first_of : Bool → Bool → Bool → Bool → Bool → Option SystemMethod
first_of a b c d e =
    if a then Some (Registry registry.Bind) else
    if b then Some (Registry registry.List) else
    if c then Some (Registry registry.Lookup) else
    if d then Some (Registry registry.Rebind) else
    if e then Some (Registry registry.Unbind) else
    None

pub hashed_by : (h : SystemHashes) (hash : ℤ) → AreSystemHashes h → (a b c d e : Bool) → int_eq h.bind hash ≡ a → int_eq h.list hash ≡ b → int_eq h.lookup hash ≡ c → int_eq h.rebind hash ≡ d → int_eq h.unbind hash ≡ e
    → registry_hashed hash ≡ first_of a b c d e
hashed_by h hash are a b c d e p q r s t =
    let x : int_eq (hash_by (Registry registry.Bind)) hash ≡ a = ap (λ n. int_eq n hash) (sym are.bind) ∙ p in
    let y : int_eq (hash_by (Registry registry.List)) hash ≡ b = ap (λ n. int_eq n hash) (sym are.list) ∙ q in
    let z : int_eq (hash_by (Registry registry.Lookup)) hash ≡ c = ap (λ n. int_eq n hash) (sym are.lookup) ∙ r in
    let v : int_eq (hash_by (Registry registry.Rebind)) hash ≡ d = ap (λ n. int_eq n hash) (sym are.rebind) ∙ s in
    let w : int_eq (hash_by (Registry registry.Unbind)) hash ≡ e = ap (λ n. int_eq n hash) (sym are.unbind) ∙ t in
    rw (x, y, z, v, w) refl

-- ---- by a number or a hash

pub registry_by_hash : (operation hash : ℤ) → int_eq operation minus_one ≡ true → registry_method operation hash ≡ registry_hashed hash
registry_by_hash operation hash is = rw is refl

pub registry_by_number : (operation hash : ℤ) → int_eq operation minus_one ≡ false → registry_method operation hash ≡ registry_numbered operation
registry_by_number operation hash other = rw other refl

pub collector_by_hash : (operation hash : ℤ) → int_eq operation minus_one ≡ true → collector_method operation hash ≡ collector_hashed hash
collector_by_hash operation hash is = rw is refl

pub collector_by_number : (operation hash : ℤ) → int_eq operation minus_one ≡ false → collector_method operation hash ≡ collector_numbered operation
collector_by_number operation hash other = rw other refl

-- ---- of one object or the other

pub of_registry : (head : CallHead) → same_id head.id registry_id ≡ true → system_method head ≡ registry_method head.operation head.hash
unfolding system_method
of_registry head is = rw is refl

pub of_collector : (head : CallHead) → same_id head.id registry_id ≡ false → system_method head ≡ collector_method head.operation head.hash
unfolding system_method
of_collector head is = rw is refl
