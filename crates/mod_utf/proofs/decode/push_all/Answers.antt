use Rattle.std.proofs.Common.{rules, ◌≡◌, ◌++◌, ◌∷◌, [], ◌≤◌, length, sym, refl, ap, ◌∙◌, append_assoc}
use Rattle.mod_utf.proofs.Fronts.{one_more, no_more, whole_rest}
use Rattle.mod_utf.proofs.Decoded.{is_bad, all_read}
use Rattle.mod_utf.proofs.decode.push_all.Goals as goal

pub returns-in-None-clause-err : goal.returns-in-None-clause-err
returns-in-None-clause-err c =
    let h = c.loop-at.invariant in
    let v = rw (whole_rest c.args.bytes.now c.loop-at.at) at c.in-None.ensures.value in
    is_bad c.args.bytes.now c.loop-at.at (no_more c.args.bytes.now h.0 c.loop-at.at c.loop-at-test.true h.2 h.3 h.4 (sym v))

pub loop-at-preserved : goal.loop-at-preserved
loop-at-preserved c =
    let h = c.loop-at.invariant in
    let v = rw (whole_rest c.args.bytes.now c.loop-at.at) at c.in-Some.ensures.value in
    let w = rw (whole_rest c.args.bytes.now c.loop-at.at) at c.in-Some.ensures.within in
    let more = one_more c.args.bytes.now h.0 (h.0 ++ c.in-Some.unit ∷ []) c.loop-at.at c.in-Some.unit c.in-Some.taken h.1 h.2 h.3 h.4 (sym v) w.1 refl in
    let pushed : c.push.new.self ≡ c.loop-at.units ++ c.in-Some.unit ∷ [] = search rules in (
      h.0 ++ c.in-Some.unit ∷ [],
      more.0,
      more.1,
      more.2,
      more.3,
      pushed ∙ ap (λ us. us ++ c.in-Some.unit ∷ []) h.5 ∙ append_assoc c.args.units.now h.0 (c.in-Some.unit ∷ []),
    )

pub returns-clause-ok : goal.returns-clause-ok
returns-clause-ok c =
    let h = c.loop-at.invariant in
    let past : length c.args.bytes.now ≤ c.loop-at.at = search rules in
    (h.0, all_read c.args.bytes.now h.0 c.loop-at.at past h.2 h.4, h.5)
