use Rattle.std.proofs.Common.{◌≡◌, ◌++◌, take, flat_map}
use Rattle.dgc_client.specs.StandsForLog.{ForEachLog, is_usable_after}
use Rattle.lease_world.specs.Script.{ref_line}
use Rattle.lease_world.proofs.text.put_refs.Given as goal

abbrev pub invariant-loop-reference : goal.invariant-loop-reference
invariant-loop-reference l = ForEachLog l.table (λ vmid first log.
    l.text ≡ l.initial.text ++ flat_map (λ r. ref_line l.client r (is_usable_after first log r.id l.now)) (take l.reference-index l.refs))
