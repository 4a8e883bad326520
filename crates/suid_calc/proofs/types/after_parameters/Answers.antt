use Rattle.std.proofs.Common.{arith, sym, ap, ◌≢◌, ◌<◌, ◌+◌, ◌∙◌, Some, length, eqb-true}
use Rattle.std.proofs.lemmas.Bool.{eqb-false}
use Rattle.std.proofs.lemmas.List.{take_rest, nil_from_length}
use Rattle.suid_calc.proofs.Loops.{parameters_close, parameters_lack}
use Rattle.suid_calc.proofs.types.after_parameters.Goals as goal

pub returns-then-rest-eq41 : goal.returns-then-rest-eq41
returns-then-rest-eq41 c =
    let apart : length c.loop-rest.rest.now ≢ 0 = eqb-false (length c.loop-rest.rest.now) 0 (sym c.is_empty.ensures ∙ c.loop-rest-test.true) in
    let some : 0 < length c.loop-rest.rest.now = omega arith in
    ap Some (take_rest c.loop-rest.rest.now 1) ∙ sym (c.loop-rest.invariant ∙ parameters_close c.loop-rest.left c.loop-rest.rest.now some c.if-rest-eq41.true)

pub returns : goal.returns
returns c =
    sym (c.loop-rest.invariant ∙ parameters_lack c.loop-rest.left c.loop-rest.rest.now (nil_from_length c.loop-rest.rest.now (eqb-true (length c.loop-rest.rest.now) 0 (sym c.is_empty.ensures ∙ c.loop-rest-test.false))))
