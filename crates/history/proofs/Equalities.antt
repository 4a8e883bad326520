-- The tests of equality on objects and clients are exact.
use Rattle.std.proofs.Common.{◌≡◌}
use Rattle.object_ids.specs.declared.ids.ObjId.{ObjId}
use Rattle.object_ids.specs.Same.{same_client, same_id}
use Rattle.object_ids.proofs.Exact.{same_client-equal, same_client-self, same_id-equal, same_id-self}
use Rattle.history.proofs.ListLemmas.{IsEquality, same-turned}

pub object-equality : IsEquality same_id
object-equality = record { self = same_id-self; equal = same_id-equal }

pub client-equality : IsEquality same_client
client-equality = record { self = same_client-self; equal = same_client-equal }

pub same_id-turned : (a b : ObjId) → same_id a b ≡ same_id b a
same_id-turned a b = same-turned object-equality a b
