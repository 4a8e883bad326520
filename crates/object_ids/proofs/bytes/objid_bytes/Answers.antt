use Rattle.std.proofs.Common.{rules, ◌≡◌, ap, sym, ◌∙◌, w64}
use Rattle.std.specs.Prelude.{FitsSigned}
use Rattle.std.proofs.lemmas.Int.{to_z-of_z}
use Rattle.object_ids.proofs.Spelling.{objid-spelled}
use Rattle.object_ids.specs.Bytes.{bytes_of_uid, uid_from_bytes}
use Rattle.object_ids.proofs.bytes.objid_bytes.Goals as goal

pub returns-clause-inverse : goal.returns-clause-inverse
returns-clause-inverse c =
    let n : FitsSigned w64 c.args.id.number = search rules in
    let s : uid_from_bytes (bytes_of_uid c.args.id.space) ≡ c.args.id.space = ap uid_from_bytes (sym c.uid_bytes.ensures.value) ∙ c.uid_bytes.ensures.inverse in
    rw (c.copy_from_slice-2.ensures.after, c.copy_from_slice.ensures.after, c.to_be_bytes.ensures, c.uid_bytes.ensures.value)
    (simp (to_z-of_z w64 c.args.id.number n) (objid-spelled c.args.id n s))
