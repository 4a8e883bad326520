use Rattle.std.proofs.Common.{◌≡◌, ◌++◌, drop, map}
use Rattle.method_hash.specs.Hash.{hash_of}
use Rattle.system_objects.proofs.book.hashes_in.Given as goal

abbrev pub invariant-loop-method : goal.invariant-loop-method
invariant-loop-method l = l.hashes ++ map (λ method. hash_of method.text) (drop l.method-index l.method-items) ≡ map (λ method. hash_of method.text) l.method-items
