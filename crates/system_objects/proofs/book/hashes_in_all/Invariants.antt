use Rattle.std.proofs.Common.{◌≡◌, ◌++◌, drop, map}
use Rattle.system_objects.specs.Book.{hashes_of}
use Rattle.system_objects.proofs.book.hashes_in_all.Given as goal

abbrev pub invariant-loop-kind : goal.invariant-loop-kind
invariant-loop-kind l = l.all ++ map hashes_of (drop l.kind-index l.kinds) ≡ map hashes_of l.kinds
