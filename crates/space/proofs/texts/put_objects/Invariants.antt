use Rattle.std.proofs.Common.{◌≡◌, ◌++◌, take, flat_map}
use Rattle.std.specs.Prelude.{max}
use Rattle.history.specs.Outline.{object_line}
use Rattle.dgc_server.specs.StandsForCalls.{ForEachLog}
use Rattle.space.specs.OutlineRows.{held_row}
use Rattle.space.proofs.texts.put_objects.Given as goal

abbrev pub invariant-loop-object : goal.invariant-loop-object
invariant-loop-object l = ForEachLog l.leases (λ lease moment calls.
    l.text ≡ l.initial.text ++ flat_map (λ x. object_line l.config (held_row lease (max l.now moment) calls x)) (take l.object-index l.objects))
