use Rattle.std.proofs.Common.{◌≡◌, ◌≤◌, ◌∙◌, ◌++◌, ℕ, List, Some, length, ap, arith}
use Rattle.java_shapes.specs.LiveRefs.{ref_of, ref_with}
use Rattle.java_shapes.specs.RefNotes.{plain_kind, text_bytes, truth_byte}
use Rattle.java_shapes.proofs.RefNotes.{ref_back, tail_back, truth_back}
use Rattle.java_shapes.proofs.live_refs.ref_note.Goals as goal

pub returns-clause-viewed : goal.returns-clause-viewed
returns-clause-viewed c =
    let r = c.args.reference.now in
    let host = c.in_ok-host.host in
    let tail = c.tail_bytes.result in
    let short : length host ≤ 65535 = omega (arith, ap length c.in_ok-host.ensures.value, c.requires) in
    let is : c.in_ok-note.note ≡ plain_kind ++ (text_bytes c.as_slice.result.now ++ c.tail_bytes.result) = c.in_ok-note.ensures in
    let same = ap (λ (l : List ℕ). plain_kind ++ (text_bytes l ++ tail)) c.as_slice.ensures in
    let read : ref_with r.host c.tail_bytes.result ≡ Some c.args.reference.now = ap (ref_with r.host) c.tail_bytes.ensures.value ∙ tail_back r.host r (truth_byte r.result) c.tail_bytes.ensures.port c.tail_bytes.ensures.id (truth_back r.result) in
    ap ref_of (is ∙ same) ∙ ref_back r host tail c.in_ok-host.ensures.spelled short read
