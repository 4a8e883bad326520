-- The note of a reference is read as that reference.
use Rattle.std.proofs.Common.{◌≡◌, ◌∙◌, ◌≤◌, ◌+◌, ◌*◌, ◌++◌, ℕ, ℤ, Bool, true, false, not, nat_eq, nat_le, List, length, Option, Some, Ok, codes, refl, ap, sym, arith, length-append}
use Rattle.std.specs.Prelude.{FitsSigned}
use Rattle.std.specs.Int.{w32, byte_at, cast_signed, cast_unsigned}
use Rattle.std.proofs.lemmas.Int.{ints, to_z-of_z}
use Rattle.std.proofs.lemmas.Nat.{from_be_bytes-to_be_bytes_4}
use Rattle.std.proofs.Math.Seq.{take-append_seam, drop-append_seam}
use Rattle.mod_utf.specs.Utf.{Utf}
use Rattle.mod_utf.specs.Decoding.{decoded_units}
use Rattle.mod_utf.proofs.Decoded.{gives_text}
use Rattle.object_ids.specs.declared.ids.ObjId.{ObjId}
use Rattle.object_ids.specs.Bytes.{signed_bytes, signed_from_bytes, bytes_of_objid, objid_from_bytes}
use Rattle.java_shapes.specs.declared.ref_views.LiveRef.{LiveRef}
use Rattle.java_shapes.specs.Objects.{same_text}
use Rattle.java_shapes.specs.LiveRefs.{cut_text, after_kind, host_and_tail, ref_with, ref_of}
use Rattle.java_shapes.specs.RefNotes.{text_bytes, plain_kind, tail_bytes, truth_byte}
use Rattle.java_shapes.proofs.Built.{short_enough}

pub cut_back : (b rest : List ℕ) → length b ≤ 65535 → cut_text (text_bytes b ++ rest) ≡ Some (b, rest)
cut_back b rest few =
    let e : 256 * byte_at 1 (length b) + byte_at 0 (length b) ≡ length b = omega arith in
    let fits : nat_le (length b) (length (b ++ rest)) ≡ true = short_enough (length b) (length (b ++ rest)) (omega (arith, length-append b rest)) in
    rw (e, fits, take-append_seam b rest, drop-append_seam b rest) refl

after_plain : (rest : List ℕ) → after_kind (codes "UnicastRef", rest) ≡ Some rest
unfolding same_text
after_plain rest = refl

plain_cut : (rest : List ℕ) → cut_text (plain_kind ++ rest) ≡ Some (codes "UnicastRef", rest)
plain_cut rest = let few : 10 ≤ 65535 = omega arith in cut_back (codes "UnicastRef") rest few

pub plain_split : (host tail : List ℕ) → length host ≤ 65535 → host_and_tail (plain_kind ++ (text_bytes host ++ tail)) ≡ Some (host, tail)
unfolding host_and_tail
plain_split host tail few = rw (plain_cut (text_bytes host ++ tail), after_plain (text_bytes host ++ tail), cut_back host tail few) refl

pub port_back : (x : ℤ) → FitsSigned w32 x → signed_from_bytes w32 (signed_bytes w32 x) ≡ x
port_back x fits = ap (cast_signed w32) (from_be_bytes-to_be_bytes_4 (cast_unsigned w32 x) (omega (arith, ints))) ∙ to_z-of_z w32 x fits

abbrev made : List ℕ → ℤ → ObjId → Bool → Option LiveRef
made host p i f = Some (record { host = host; port = p; id = i; result = f })

pub tail_back : (host : List ℕ) (r : LiveRef) (flag : ℕ) → signed_from_bytes w32 (signed_bytes w32 r.port) ≡ r.port → objid_from_bytes (bytes_of_objid r.id) ≡ r.id → r.result ≡ not (nat_eq flag 0) → ref_with host (tail_bytes r flag) ≡ Some (record r { host = host })
tail_back host r flag p i f =
    let whole : ref_with host (tail_bytes r flag) ≡ made host (signed_from_bytes w32 (signed_bytes w32 r.port)) (objid_from_bytes (bytes_of_objid r.id)) (not (nat_eq flag 0)) = refl in
    whole
    ∙ (ap (λ (x : ℤ). made host x (objid_from_bytes (bytes_of_objid r.id)) (not (nat_eq flag 0))) p
    ∙ (ap (λ (x : ObjId). made host r.port x (not (nat_eq flag 0))) i
    ∙ ap (λ (x : Bool). made host r.port r.id x) (sym f)))

pub truth_back : (b : Bool) → b ≡ not (nat_eq (truth_byte b) 0)
truth_back true = refl
truth_back false = refl

pub ref_back : (r : LiveRef) (host tail : List ℕ) → Utf r.host host → length host ≤ 65535 → ref_with r.host tail ≡ Some r → ref_of (plain_kind ++ (text_bytes host ++ tail)) ≡ Some r
ref_back r host tail spelled few read =
    let text : decoded_units host ≡ Ok r.host = gives_text host r.host spelled in
    rw (plain_split host tail few, text) read
