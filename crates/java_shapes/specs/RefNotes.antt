-- The bytes of a reference to a remote object, as an object's note has them (java.rmi.server.RemoteObject, `writeObject`).
use Rattle.std.specs.Prelude.{◌≡◌, ◌≤◌, ◌⊎◌, ℕ, Bool, true, false, not, nat_eq, List, [], ◌∷◌, ◌++◌, length, codes}
use Rattle.std.specs.Int.{w16, w32, to_be_bytes}
use Rattle.mod_utf.specs.Utf.{Utf, utf}
use Rattle.object_ids.specs.Bytes.{signed_bytes, bytes_of_objid}
use Rattle.java_shapes.specs.declared.ref_views.LiveRef.{LiveRef}

-- A length of 16 bits and so many bytes.
abbrev pub text_bytes : List ℕ → List ℕ
text_bytes bytes = to_be_bytes w16 (length bytes) ++ bytes

-- The kind of a reference: UnicastRef, or UnicastRef2 and the format byte 0, which says that there is no socket factory.
abbrev pub plain_kind : List ℕ
plain_kind = text_bytes (codes "UnicastRef")

abbrev pub second_kind : List ℕ
second_kind = text_bytes (codes "UnicastRef2") ++ 0 ∷ []

-- The port in 4 bytes, the object's identifier in 22, and a last byte.
abbrev pub tail_bytes : LiveRef → ℕ → List ℕ
tail_bytes r flag = signed_bytes w32 r.port ++ (bytes_of_objid r.id ++ flag ∷ [])

-- These bytes are the note of this reference: its kind, its host as a text, its port and its object, and a last byte that is 0 exactly
-- where it was not made for a result.
pub record IsRefNote (r : LiveRef) (bytes : List ℕ) : Type 0 where
  pub kind : List ℕ
  pub host : List ℕ
  pub flag : ℕ
  pub kind_is : (kind ≡ plain_kind) ⊎ (kind ≡ second_kind)
  pub spelled : Utf r.host host
  pub short : length host ≤ 65535
  pub result_is : r.result ≡ not (nat_eq flag 0)
  pub is : bytes ≡ kind ++ (text_bytes host ++ tail_bytes r flag)

abbrev pub truth_byte : Bool → ℕ
truth_byte true = 1
truth_byte false = 0

-- The note that is written of a reference.
unfoldable pub ref_note : LiveRef → List ℕ
ref_note r = plain_kind ++ (text_bytes (utf r.host) ++ tail_bytes r (truth_byte r.result))
