-- The bytes of an identifier and the identifier of its bytes are inverse to each other.
use Rattle.std.proofs.Common.{◌≡◌, ℕ, List, ◌++◌, take, drop, ap, sym, ◌∙◌, arith}
use Rattle.std.specs.Prelude.{ℤ, FitsSigned}
use Rattle.std.specs.Int.{w16, w32, w64, cast_unsigned, cast_signed}
use Rattle.std.proofs.lemmas.Int.{ints, to_z-of_z}
use Rattle.std.proofs.lemmas.Nat.{from_be_bytes-to_be_bytes_2, from_be_bytes-to_be_bytes_4, from_be_bytes-to_be_bytes_8}
use Rattle.std.proofs.lemmas.List.{take-append-drop}
use Rattle.std.proofs.Math.Seq.{take-add}
use Rattle.object_ids.specs.declared.ids.Uid.{Uid}
use Rattle.object_ids.specs.declared.ids.ObjId.{ObjId}
use Rattle.object_ids.specs.Bytes.{signed_bytes, signed_from_bytes, bytes_of_uid, uid_from_bytes, bytes_of_objid, objid_from_bytes}

-- a signed number is read back, whatever follows its bytes
signed_2 : (x : ℤ) (rest : List ℕ) → FitsSigned w16 x → signed_from_bytes w16 (signed_bytes w16 x ++ rest) ≡ x
signed_2 x rest fits = ap (cast_signed w16) (from_be_bytes-to_be_bytes_2 (cast_unsigned w16 x) (omega (arith, ints))) ∙ to_z-of_z w16 x fits

signed_4 : (x : ℤ) (rest : List ℕ) → FitsSigned w32 x → signed_from_bytes w32 (signed_bytes w32 x ++ rest) ≡ x
signed_4 x rest fits = ap (cast_signed w32) (from_be_bytes-to_be_bytes_4 (cast_unsigned w32 x) (omega (arith, ints))) ∙ to_z-of_z w32 x fits

signed_8 : (x : ℤ) (rest : List ℕ) → FitsSigned w64 x → signed_from_bytes w64 (signed_bytes w64 x ++ rest) ≡ x
signed_8 x rest fits = ap (cast_signed w64) (from_be_bytes-to_be_bytes_8 (cast_unsigned w64 x) (omega (arith, ints))) ∙ to_z-of_z w64 x fits

pub uid-spelled : (uid : Uid) (rest : List ℕ) → FitsSigned w32 uid.unique → FitsSigned w64 uid.time → FitsSigned w16 uid.count → uid_from_bytes (bytes_of_uid uid ++ rest) ≡ uid
uid-spelled uid rest u t c =
    ap (λ (x : ℤ). record (uid_from_bytes (bytes_of_uid uid ++ rest)) { unique = x }) (signed_4 uid.unique (signed_bytes w64 uid.time ++ signed_bytes w16 uid.count ++ rest) u)
    ∙ ap (λ (x : ℤ). record (uid_from_bytes (bytes_of_uid uid ++ rest)) { unique = uid.unique; time = x }) (signed_8 uid.time (signed_bytes w16 uid.count ++ rest) t)
    ∙ ap (λ (x : ℤ). record uid { count = x }) (signed_2 uid.count rest c)

pub objid-spelled : (id : ObjId) → FitsSigned w64 id.number → uid_from_bytes (bytes_of_uid id.space) ≡ id.space → objid_from_bytes (bytes_of_objid id) ≡ id
objid-spelled id n s =
    ap (λ (x : ℤ). record { number = x; space = uid_from_bytes (bytes_of_uid id.space) }) (signed_8 id.number (bytes_of_uid id.space) n)
    ∙ ap (λ (x : Uid). record id { space = x }) s

-- the parts of an identifier that spell parts of the bytes
pub uid-joined : (bs : List ℕ) (uid : Uid) → signed_bytes w32 uid.unique ≡ take 4 bs → signed_bytes w64 uid.time ≡ take 8 (drop 4 bs) → signed_bytes w16 uid.count ≡ drop 12 bs → bytes_of_uid uid ≡ bs
uid-joined bs uid u t c =
    ap (λ l. l ++ signed_bytes w64 uid.time ++ signed_bytes w16 uid.count) u
    ∙ ap (λ l. take 4 bs ++ l ++ signed_bytes w16 uid.count) t
    ∙ ap (λ l. take 4 bs ++ take 8 (drop 4 bs) ++ l) c
    ∙ ap (λ l. l ++ drop 12 bs) (sym (take-add 4 8 bs))
    ∙ take-append-drop 12 bs

pub objid-joined : (bs : List ℕ) (id : ObjId) → signed_bytes w64 id.number ≡ take 8 bs → bytes_of_uid id.space ≡ drop 8 bs → bytes_of_objid id ≡ bs
objid-joined bs id n s = ap (λ l. l ++ bytes_of_uid id.space) n ∙ ap (λ l. take 8 bs ++ l) s ∙ take-append-drop 8 bs
