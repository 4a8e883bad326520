use Rattle.std.proofs.Common.{◌+◌, ◌≤◌, length, take, ap, subst, arith, length-drop}
use Rattle.std.proofs.lemmas.List.{take_rest}
use Rattle.mod_utf.specs.Utf.{Utf}
use Rattle.ser_read.proofs.Texts.{more_text}
use Rattle.ser_read.proofs.spelled.push_runs.Goals as goal

pub loop-at-preserved : goal.loop-at-preserved
loop-at-preserved c =
    let bytes = c.args.bytes.now in
    let at = c.loop-at.at in
    let n = c.in_ok-at.field-0 in
    let so_far = c.loop-at.invariant in
    let text = c.in_ok-at.ensures.text in
    let within : at + n ≤ length bytes = omega (arith, c.in_ok-at.ensures.within, ap length (take_rest bytes at), length-drop at bytes, so_far.0) in
    let more = more_text bytes c.args.units.now c.loop-at.units c.push_run.new.units so_far.1 text.0 at n so_far.2 so_far.3 (subst (λ xs. Utf text.0 (take n xs)) (take_rest bytes at) text.1) text.2 in
    (within, more.0, more.1, more.2)
