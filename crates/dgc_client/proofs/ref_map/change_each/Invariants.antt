use Rattle.std.proofs.Common.{◌≡◌, ℕ, drop}
use Rattle.std.specs.Prelude.{map}
use Rattle.dgc_client.specs.RefMap.{refs_in, changed_among, AreSettled}
use Rattle.dgc_client.proofs.ref_map.change_each.Given as goal

abbrev pub invariant-loop-object : goal.invariant-loop-object
invariant-loop-object l =
    (map (changed_among (drop l.object-index l.objects) l.change) (refs_in l.refs.entries) ≡ map (changed_among l.objects l.change) (refs_in l.initial.refs.entries))
    × ((n : ℕ) → AreSettled n l.initial.refs.entries → AreSettled n l.refs.entries)
