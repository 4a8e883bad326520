use Rattle.std.proofs.Common.{◌≡◌, map, take}
use Rattle.client_talk.proofs.leases.ids_of.Given as goal

-- The objects of the references so far.
abbrev pub invariant-loop-reference : goal.invariant-loop-reference
invariant-loop-reference l = l.ids ≡ map (λ r. r.id) (take l.reference-index l.refs)
