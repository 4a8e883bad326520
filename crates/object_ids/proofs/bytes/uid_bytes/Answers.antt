use Rattle.std.proofs.Common.{rules, [], w16, w32, w64}
use Rattle.std.specs.Prelude.{FitsSigned}
use Rattle.std.proofs.lemmas.Int.{to_z-of_z}
use Rattle.object_ids.proofs.Spelling.{uid-spelled}
use Rattle.object_ids.proofs.bytes.uid_bytes.Goals as goal

pub returns-clause-inverse : goal.returns-clause-inverse
returns-clause-inverse c =
    let u : FitsSigned w32 c.args.uid.unique = search rules in
    let t : FitsSigned w64 c.args.uid.time = search rules in
    let n : FitsSigned w16 c.args.uid.count = search rules in
    rw (c.copy_from_slice-3.ensures.after, c.copy_from_slice-2.ensures.after, c.copy_from_slice.ensures.after, c.to_be_bytes.ensures, c.to_be_bytes-2.ensures, c.to_be_bytes-3.ensures)
    (simp (to_z-of_z w32 c.args.uid.unique u, to_z-of_z w64 c.args.uid.time t, to_z-of_z w16 c.args.uid.count n) (uid-spelled c.args.uid [] u t n))
