-- References in the map in which they are found: those that were dropped stay there as gaps, until they are swept out.
use Rattle.std.specs.Prelude.{ℕ, zero, suc, ℤ, Bool, true, false, if◌then◌else◌, List, [], ◌∷◌, ◌||◌, int_le, IsTrue, Option, Some, None}
use Rattle.std.specs.List.{list_any}
use Rattle.object_ids.specs.declared.ids.ObjId.{ObjId}
use Rattle.object_ids.specs.Same.{same_id}
use Rattle.dgc_client.specs.declared.client_ref.ClientRef.{ClientRef}
use Rattle.dgc_client.specs.declared.ref_map.Kept.{Kept}
use Rattle.dgc_client.specs.declared.ref_map.Change.{Change}
use Rattle.dgc_client.specs.declared.ref_map.Change.TheVariants.{Confirm, Strengthen}

-- The reference of an object of which this is kept.
abbrev pub ref_at : ObjId → Kept → ClientRef
ref_at o k = record { id = o; since = k.since; sure = k.sure; strong = k.strong }

-- The reference, if there is no gap.
abbrev pub shown : ObjId → Kept → Option ClientRef
shown o k = if k.gone then None else Some (ref_at o k)

-- The references that entries show, in order.
abbrev pub refs_in : List (ObjId × Kept) → List ClientRef
refs_in [] = []
refs_in (e ∷ es) = if e.1.gone then refs_in es else ref_at e.0 e.1 ∷ refs_in es

abbrev pub has_id : ObjId → ClientRef → Bool
has_id o r = same_id r.id o

-- A new reference: neither sure nor strong.
abbrev pub new_ref : ObjId → ℤ → ClientRef
new_ref o since = record { id = o; since = since; sure = false; strong = false }

-- A reference once a change was made to it.
abbrev pub changed : Change → ClientRef → ClientRef
changed (Confirm number) r = record r { sure = int_le r.since number || r.sure }
changed Strengthen r = record r { strong = true }

-- A reference once the change was made to all of these objects.
abbrev pub changed_among : List ObjId → Change → ClientRef → ClientRef
changed_among os change r = if list_any (λ x. same_id x r.id) os then changed change r else r

-- A reference once the client's time is over.
abbrev pub lapsed : ClientRef → ClientRef
lapsed r = record r { sure = false }

-- There is a reference, and it is sure.
abbrev pub sure_of : Option ClientRef → Bool
sure_of (Some r) = r.sure
sure_of None = false

-- An entry wants no call while the client's time lasts: it is a gap, or its reference is sure.
abbrev pub rests : Kept → Bool
rests k = k.gone || k.sure

-- There are so many entries, and the first so many want no call while the client's time lasts.
abbrev pub AreSettled : ℕ → List (ObjId × Kept) → Type 0
AreSettled zero es = Unit {0}
AreSettled (suc n) [] = IsTrue false
AreSettled (suc n) (e ∷ es) = IsTrue (rests e.1) × AreSettled n es
