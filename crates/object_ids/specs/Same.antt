-- When two identifiers are the same, as tests that compute. Each holds exactly where the two are equal.
use Rattle.std.specs.Prelude.{ℕ, Bool, true, false, ◌&&◌, ◌==◌, List, [], ◌∷◌}
use Rattle.std.specs.Ordering.{int_eq}
use Rattle.object_ids.specs.declared.ids.Uid.{Uid}
use Rattle.object_ids.specs.declared.ids.ObjId.{ObjId}
use Rattle.object_ids.specs.Client.{Client}

abbrev pub same_uid : Uid → Uid → Bool
same_uid a b = int_eq a.unique b.unique && int_eq a.time b.time && int_eq a.count b.count

-- Equal field by field, in the order in which the type has its fields: so keys of maps are compared.
abbrev pub same_uid_key : Uid → Uid → Bool
same_uid_key a b = int_eq a.time b.time && (int_eq a.unique b.unique && int_eq a.count b.count)

abbrev pub same_id : ObjId → ObjId → Bool
same_id a b = int_eq a.number b.number && same_uid a.space b.space

abbrev pub same_key : ObjId → ObjId → Bool
same_key a b = int_eq a.number b.number && same_uid_key a.space b.space

abbrev pub same_bytes : List ℕ → List ℕ → Bool
same_bytes [] [] = true
same_bytes [] (y ∷ ys) = false
same_bytes (x ∷ xs) [] = false
same_bytes (x ∷ xs) (y ∷ ys) = x == y && same_bytes xs ys

abbrev pub same_client : Client → Client → Bool
same_client a b = same_bytes a.addr b.addr && same_uid a.uid b.uid
