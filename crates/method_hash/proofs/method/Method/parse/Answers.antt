use Rattle.std.proofs.Common.{true≢false, ◌≡◌, sym, take, length, subst, arith, get_or, refl}
use Rattle.std.proofs.lemmas.List.{take_more, length-take-le}
use Rattle.method_hash.specs.TextReading.{HasRead}
use Rattle.method_hash.specs.declared.place.TextPlace.{TextPlace}
use Rattle.method_hash.specs.declared.place.TextPlace.TheVariants.{End}
use Rattle.method_hash.proofs.Whole.{breaks_in, breaks_at_end, read_on, read_whole, all_read}
use Rattle.method_hash.proofs.method.Method.parse.Goals as goal

pub returns-in-None-clause-err : goal.returns-in-None-clause-err
returns-in-None-clause-err c =
    breaks_in c.args.text.now c.loop-at.at (get_or c.args.text.now c.loop-at.at 0) c.loop-at.draft.place c.loop-at.draft.name c.loop-at.draft.params c.loop-at.draft.result
    (omega arith) refl c.loop-at.invariant c.in-None.ensures.none

pub loop-at-preserved : goal.loop-at-preserved
loop-at-preserved c =
    let text = c.args.text.now in
    let len : length (take c.loop-at.at text) ≡ c.loop-at.at = length-take-le c.loop-at.at text (omega arith) in
    let some = c.in-Some.ensures.some in
    let h = read_on (take c.loop-at.at text) (get_or text c.loop-at.at 0) c.loop-at.draft.place c.in-Some.next c.loop-at.draft.name c.loop-at.draft.params c.loop-at.draft.result
    c.loop-at.invariant some.0 (omega (arith, some.1)) in
    rw (take_more text c.loop-at.at 0 (omega arith), c.in_ok-note-in-Some.ensures.place, c.in_ok-note-in-Some.ensures.name, c.in_ok-note-in-Some.ensures.params, c.in_ok-note-in-Some.ensures.returned) h

pub returns-then-not-is_end-clause-err : goal.returns-then-not-is_end-clause-err
returns-then-not-is_end-clause-err c =
    breaks_at_end c.args.text.now c.loop-at.draft.place c.loop-at.draft.name c.loop-at.draft.params c.loop-at.draft.result (all_read c.args.text.now c.loop-at.at c.loop-at.draft.place c.loop-at.draft.name c.loop-at.draft.params c.loop-at.draft.result (omega arith) c.loop-at.invariant) (λ same. true≢false (sym (c.if-not-is_end.ensures.1 same)))

pub invariant_of-result : goal.invariant_of-result
invariant_of-result c =
    let place_is : c.loop-at.draft.place ≡ End = c.if-not-is_end.ensures.0 refl in
    let h = all_read c.args.text.now c.loop-at.at c.loop-at.draft.place c.loop-at.draft.name c.loop-at.draft.params c.loop-at.draft.result (omega arith) c.loop-at.invariant in
    record { spelled = ∣ rw (c.in_ok-text.ensures) (read_whole c.args.text.now c.loop-at.draft.name c.loop-at.draft.params c.loop-at.draft.result (subst (λ (p : TextPlace). HasRead c.args.text.now p c.loop-at.draft.name c.loop-at.draft.params c.loop-at.draft.result) place_is h)) ∣₁ }

pub returns-clause-ok : goal.returns-clause-ok
returns-clause-ok c =
    let place_is : c.loop-at.draft.place ≡ End = c.if-not-is_end.ensures.0 refl in
    let h = all_read c.args.text.now c.loop-at.at c.loop-at.draft.place c.loop-at.draft.name c.loop-at.draft.params c.loop-at.draft.result (omega arith) c.loop-at.invariant in
    read_whole c.args.text.now c.loop-at.draft.name c.loop-at.draft.params c.loop-at.draft.result (subst (λ (p : TextPlace). HasRead c.args.text.now p c.loop-at.draft.name c.loop-at.draft.params c.loop-at.draft.result) place_is h)
