use Rattle.std.proofs.Common.{rules, ◌≡◌, ℤ, length, take, drop, arith, length-drop, ap, ◌∙◌}
use Rattle.std.specs.Int.{w64}
use Rattle.std.specs.Prelude.{FitsSigned}
use Rattle.std.proofs.lemmas.Int.{to_z-of_z}
use Rattle.std.proofs.lemmas.List.{take_all}
use Rattle.object_ids.specs.declared.ids.Uid.{Uid}
use Rattle.object_ids.specs.Bytes.{signed_from_bytes, uid_from_bytes}
use Rattle.object_ids.proofs.Spelling.{objid-joined}
use Rattle.object_ids.proofs.bytes.objid_of.Goals as goal

pub returns-clause-value : goal.returns-clause-value
returns-clause-value c =
    let n : FitsSigned w64 c.i64_of.result = search rules in
    let all : length c.args.bytes ≡ 22 = search rules in
    let rest = take_all 14 (drop 8 c.args.bytes) (omega (arith, length-drop 8 c.args.bytes)) in
    simp (to_z-of_z w64 c.i64_of.result n)
    (ap (λ (x : ℤ). record { number = x; space = c.uid_in.result }) c.i64_of.ensures.value
    ∙ ap (λ (x : Uid). record { number = signed_from_bytes w64 (take 8 c.args.bytes); space = x }) (c.uid_in.ensures.value ∙ ap uid_from_bytes rest))

pub returns-clause-inverse : goal.returns-clause-inverse
returns-clause-inverse c =
    let n : FitsSigned w64 c.i64_of.result = search rules in
    let all : length c.args.bytes ≡ 22 = search rules in
    let rest = take_all 14 (drop 8 c.args.bytes) (omega (arith, length-drop 8 c.args.bytes)) in
    simp (to_z-of_z w64 c.i64_of.result n)
    (objid-joined c.args.bytes (record { number = c.i64_of.result; space = c.uid_in.result }) c.i64_of.ensures.inverse (c.uid_in.ensures.inverse ∙ rest))
