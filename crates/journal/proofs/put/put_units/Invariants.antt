use Rattle.std.proofs.Common.{◌≡◌, ◌++◌, ◌<◌, ◌^◌, take, flat_map}
use Rattle.std.specs.List.{AllByRecursion}
use Rattle.history.specs.Texts.{unit_text}
use Rattle.journal.proofs.put.put_units.Given as goal

abbrev pub invariant-loop-unit : goal.invariant-loop-unit
invariant-loop-unit l = (l.out ≡ l.initial.out ++ flat_map unit_text (take l.unit-index l.units)) × AllByRecursion (λ u. u < 2 ^ 16) (take l.unit-index l.units)
