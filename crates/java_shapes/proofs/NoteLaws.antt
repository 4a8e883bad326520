-- The note of a reference is read as that reference, of either kind; and what is written of a reference is its note.
use Rattle.std.proofs.Common.{◌≡◌, ◌∙◌, ◌≤◌, ◌<◌, ◌^◌, ◌++◌, ℕ, List, [], ◌∷◌, length, Some, codes, refl, ap, arith, inl, inr, ◌⊎◌}
use Rattle.std.specs.List.{AllByRecursion}
use Rattle.mod_utf.specs.Utf.{Utf, utf, unit_bytes}
use Rattle.mod_utf.proofs.Decoded.{gives_text}
use Rattle.mod_utf.proofs.Spelling.{unit_spelled}
use Rattle.object_ids.specs.Bytes.{bytes_of_objid, objid_from_bytes}
use Rattle.object_ids.proofs.Spelling.{uid-spelled, objid-spelled}
use Rattle.java_shapes.specs.declared.ref_views.LiveRef.{LiveRef}
use Rattle.java_shapes.specs.Objects.{same_text}
use Rattle.java_shapes.specs.LiveRefs.{cut_text, after_kind, host_and_tail, ref_with, ref_of}
use Rattle.java_shapes.specs.RefNotes.{text_bytes, plain_kind, second_kind, tail_bytes, truth_byte, ref_note, IsRefNote}
use Rattle.java_shapes.specs.ShapeLaws.{RefFits}
use Rattle.java_shapes.proofs.RefNotes.{cut_back, port_back, tail_back, truth_back, ref_back}

after_second : (rest : List ℕ) → after_kind (codes "UnicastRef2", 0 ∷ rest) ≡ Some rest
unfolding same_text
after_second rest = refl

second_cut : (rest : List ℕ) → cut_text (second_kind ++ rest) ≡ Some (codes "UnicastRef2", 0 ∷ rest)
second_cut rest = let few : 11 ≤ 65535 = omega arith in cut_back (codes "UnicastRef2") (0 ∷ rest) few

second_split : (host tail : List ℕ) → length host ≤ 65535 → host_and_tail (second_kind ++ (text_bytes host ++ tail)) ≡ Some (host, tail)
unfolding host_and_tail
second_split host tail few = rw (second_cut (text_bytes host ++ tail), after_second (text_bytes host ++ tail), cut_back host tail few) refl

second_back : (r : LiveRef) (host tail : List ℕ) → Utf r.host host → length host ≤ 65535 → ref_with r.host tail ≡ Some r → ref_of (second_kind ++ (text_bytes host ++ tail)) ≡ Some r
second_back r host tail spelled few read =
    let text = gives_text host r.host spelled in
    rw (second_split host tail few, text) read

either_back : (r : LiveRef) (kind host tail : List ℕ) → (kind ≡ plain_kind) ⊎ (kind ≡ second_kind) → Utf r.host host → length host ≤ 65535 → ref_with r.host tail ≡ Some r → ref_of (kind ++ (text_bytes host ++ tail)) ≡ Some r
either_back r kind host tail (inl e) spelled few read = ap (λ (k : List ℕ). ref_of (k ++ (text_bytes host ++ tail))) e ∙ ref_back r host tail spelled few read
either_back r kind host tail (inr e) spelled few read = ap (λ (k : List ℕ). ref_of (k ++ (text_bytes host ++ tail))) e ∙ second_back r host tail spelled few read

pub note_read : (r : LiveRef) (bytes : List ℕ) → RefFits r → IsRefNote r bytes → ref_of bytes ≡ Some r
note_read r bytes fits n =
    let space = uid-spelled r.id.space [] fits.unique fits.time fits.count in
    let id : objid_from_bytes (bytes_of_objid r.id) ≡ r.id = objid-spelled r.id fits.number space in
    let tail = tail_back r.host r n.flag (port_back r.port fits.port) id n.result_is in
    ap ref_of n.is ∙ either_back r n.kind n.host (tail_bytes r n.flag) n.kind_is n.spelled n.short tail

utf_spelled : (units : List ℕ) → AllByRecursion (λ u. u < 2 ^ 16) units → Utf units (utf units)
utf_spelled [] h = refl
utf_spelled (u ∷ us) h = (unit_bytes u, utf us, unit_spelled u h.0, utf_spelled us h.1, refl)

pub note_written : (r : LiveRef) → AllByRecursion (λ u. u < 2 ^ 16) r.host → length (utf r.host) ≤ 65535 → IsRefNote r (ref_note r)
unfolding ref_note
note_written r units short = record {
  kind = plain_kind;
  host = utf r.host;
  flag = truth_byte r.result;
  kind_is = inl refl;
  spelled = utf_spelled r.host units;
  short = short;
  result_is = truth_back r.result;
  is = refl;
}
