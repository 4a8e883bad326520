use Rattle.std.proofs.Common.{◌≡◌, ◌++◌, ◌<◌, ◌^◌, take, flat_map}
use Rattle.std.specs.List.{AllByRecursion}
use Rattle.journal.specs.Written.{further_kind}
use Rattle.journal.proofs.listed.put_further_kinds.Given as goal

abbrev pub invariant-loop-kind : goal.invariant-loop-kind
invariant-loop-kind l = (l.out ≡ l.initial.out ++ flat_map further_kind (take l.kind-index l.kinds)) × AllByRecursion (λ kind. kind < 2 ^ 32) (take l.kind-index l.kinds)
