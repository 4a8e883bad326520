-- Returned references that await their acknowledgement (Java RMI Specification, chapter 10: DgcAck).
use Rattle.std.specs.Prelude.{ℕ, ◌+◌, Bool, false, List, [], ◌∷◌, ◌++◌, map, ◌&&◌, nat_lt, filter, flat_map, Option, Some, None, option_to_list, if◌then◌else◌}
use Rattle.std.specs.List.{list_any}
use Rattle.object_ids.specs.declared.ids.Uid.{Uid}
use Rattle.object_ids.specs.declared.ids.ObjId.{ObjId}
use Rattle.object_ids.specs.Same.{same_id, same_uid}
use Rattle.history.specs.Lists.{distinct}
use Rattle.history.specs.declared.places.Place.{Place}
use Rattle.history.specs.declared.places.Returned.{Returned}
use Rattle.history.specs.Places.{History}
use Rattle.history.specs.declared.asks.Ask.{Ask}
use Rattle.history.specs.declared.asks.Ask.TheVariants.{Finish, Ack, Lookup}

abbrev pub same_returned : Returned → Returned → Bool
same_returned a b = same_id a.object b.object && same_uid a.uid b.uid

-- The identifier of the return to an ask that may return references.
abbrev pub return_uid : Ask → Option Uid
return_uid (Finish object made listed uid) = Some uid
return_uid (Lookup name uid) = Some uid
return_uid _ = None

-- The references that a place returns.
abbrev pub returned_references : Place → List Returned
returned_references p = flat_map (λ u. map (λ o. record { object = o; uid = u }) p.returned_here) (option_to_list (return_uid p.event.ask))

-- The place returns the reference.
abbrev pub returns : Returned → Place → Bool
returns r p = list_any (same_returned r) (returned_references p)

-- An acknowledgement of the return.
abbrev pub is_ack_of : Uid → Ask → Bool
is_ack_of u (Ack uid) = same_uid uid u
is_ack_of u _ = false

-- The moment until which a reference awaits its acknowledgement: 0 where it was not returned, or its return was acknowledged since.
unfoldable pub until_of : ℕ → History → Returned → ℕ
until_of ack [] r = 0
until_of ack (p ∷ before) r =
    if returns r p then p.moment + ack
    else if is_ack_of r.uid p.event.ask then 0
    else until_of ack before r

-- A returned reference awaits its acknowledgement at the moment t.
unfoldable pub awaits : ℕ → ℕ → History → Returned → Bool
awaits ack t h r = nat_lt t (until_of ack h r)

-- The references that were ever returned, those of the newest place first.
unfoldable pub references : History → List Returned
references [] = []
references (p ∷ before) = returned_references p ++ references before

-- The references that await at the moment t, each once.
unfoldable pub awaiting_references : ℕ → ℕ → History → List Returned
awaiting_references ack t h = distinct same_returned (filter (awaits ack t h) (references h))

-- Those of them that are references to an object.
unfoldable pub awaiting_references_to : ℕ → ℕ → History → ObjId → List Returned
awaiting_references_to ack t h o = filter (λ r. same_id r.object o) (awaiting_references ack t h)

-- Some reference to the object awaits at the moment t.
unfoldable pub is_awaited : ℕ → ℕ → History → ObjId → Bool
is_awaited ack t h o = list_any (λ r. same_id r.object o) (awaiting_references ack t h)
