use Rattle.std.proofs.Common.{rules, ◌-◌, length, drop, arith, length-drop, ◌∙◌}
use Rattle.std.specs.Int.{w16, w32, w64}
use Rattle.std.specs.Prelude.{FitsSigned}
use Rattle.std.proofs.lemmas.Int.{to_z-of_z}
use Rattle.std.proofs.lemmas.List.{take_all}
use Rattle.object_ids.proofs.Spelling.{uid-joined}
use Rattle.object_ids.proofs.bytes.uid_in.Goals as goal

pub returns-clause-inverse : goal.returns-clause-inverse
returns-clause-inverse c =
    let u : FitsSigned w32 c.i32_of.result = search rules in
    let t : FitsSigned w64 c.i64_of.result = search rules in
    let n : FitsSigned w16 c.i16_of.result = search rules in
    let rest = take_all (length c.args.bytes.now - 12) (drop 12 c.args.bytes.now) (omega (arith, length-drop 12 c.args.bytes.now)) in
    simp (to_z-of_z w32 c.i32_of.result u, to_z-of_z w64 c.i64_of.result t, to_z-of_z w16 c.i16_of.result n)
    (uid-joined c.args.bytes.now (record { unique = c.i32_of.result; time = c.i64_of.result; count = c.i16_of.result }) c.i32_of.ensures.inverse c.i64_of.ensures.inverse (c.i16_of.ensures.inverse ∙ rest))
