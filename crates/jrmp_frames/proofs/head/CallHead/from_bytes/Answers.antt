use Rattle.std.proofs.Common.{rules, ◌-◌, length, drop, arith, length-drop, ◌∙◌}
use Rattle.std.specs.Int.{w32, w64}
use Rattle.std.specs.Prelude.{FitsSigned}
use Rattle.std.proofs.lemmas.Int.{to_z-of_z}
use Rattle.std.proofs.lemmas.List.{take_all}
use Rattle.jrmp_frames.proofs.Heads.{head_joined}
use Rattle.jrmp_frames.proofs.head.CallHead.from_bytes.Goals as goal

pub returns : goal.returns
returns c =
    let o : FitsSigned w32 c.i32_of.result = search rules in
    let h : FitsSigned w64 c.i64_of.result = search rules in
    let rest = take_all (length c.args.bytes.now - 26) (drop 26 c.args.bytes.now) (omega (arith, length-drop 26 c.args.bytes.now)) in
    simp (to_z-of_z w32 c.i32_of.result o, to_z-of_z w64 c.i64_of.result h)
    (head_joined c.args.bytes.now (record { id = c.objid_of.result; operation = c.i32_of.result; hash = c.i64_of.result }) (c.objid_of.ensures.inverse ∙ c.copy_from_slice.ensures.after) c.i32_of.ensures (c.i64_of.ensures ∙ rest))
