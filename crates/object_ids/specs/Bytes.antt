-- The bytes of identifiers: each number in two's complement with its highest byte first, one after the other.
use Rattle.std.specs.Prelude.{ℕ, ℤ, FitsSigned, List, ◌++◌, take, drop}
use Rattle.std.specs.Int.{w16, w32, w64, Width, to_be_bytes, from_be_bytes, cast_unsigned, cast_signed}
use Rattle.object_ids.specs.declared.ids.Uid.{Uid}
use Rattle.object_ids.specs.declared.ids.ObjId.{ObjId}

-- The bytes of a signed number of this width.
abbrev pub signed_bytes : Width → ℤ → List ℕ
signed_bytes w x = to_be_bytes w (cast_unsigned w x)

-- The signed number of this width that has these bytes.
abbrev pub signed_from_bytes : Width → List ℕ → ℤ
signed_from_bytes w bytes = cast_signed w (from_be_bytes w bytes)

-- The identifier's numbers are in range, so that its bytes tell them.
pub record FitsUid (uid : Uid) : Type 0 where
  pub unique : FitsSigned w32 uid.unique
  pub time : FitsSigned w64 uid.time
  pub count : FitsSigned w16 uid.count

-- Four bytes of the unique number, eight of the time, two of the count.
abbrev pub bytes_of_uid : Uid → List ℕ
bytes_of_uid uid = signed_bytes w32 uid.unique ++ signed_bytes w64 uid.time ++ signed_bytes w16 uid.count

abbrev pub uid_from_bytes : List ℕ → Uid
uid_from_bytes bytes = record {
  unique = signed_from_bytes w32 (take 4 bytes);
  time = signed_from_bytes w64 (take 8 (drop 4 bytes));
  count = signed_from_bytes w16 (drop 12 bytes);
}

-- Eight bytes of the number, then those of the space's identifier.
abbrev pub bytes_of_objid : ObjId → List ℕ
bytes_of_objid id = signed_bytes w64 id.number ++ bytes_of_uid id.space

abbrev pub objid_from_bytes : List ℕ → ObjId
objid_from_bytes bytes = record { number = signed_from_bytes w64 (take 8 bytes); space = uid_from_bytes (drop 8 bytes) }
