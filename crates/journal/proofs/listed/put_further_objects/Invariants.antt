use Rattle.std.proofs.Common.{◌≡◌, ◌++◌, take, flat_map}
use Rattle.std.specs.List.{AllByRecursion}
use Rattle.journal.specs.Written.{further_object, IsObject}
use Rattle.journal.proofs.listed.put_further_objects.Given as goal

abbrev pub invariant-loop-object : goal.invariant-loop-object
invariant-loop-object l = (l.out ≡ l.initial.out ++ flat_map (further_object l.space) (take l.object-index l.objects)) × AllByRecursion IsObject (take l.object-index l.objects)
