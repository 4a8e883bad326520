use Rattle.std.proofs.Common.{◌≡◌, ◌+◌, ◌-◌, take, drop, subst, arith}
use Rattle.mod_utf.specs.Utf.{Utf}
use Rattle.ser_read.proofs.Texts.{run_text}
use Rattle.ser_read.proofs.spelled.push_run.Goals as goal

pub returns-clause-text : goal.returns-clause-text
returns-clause-text c =
    let bytes = c.args.bytes.now in
    let plain = c.plain_run-plain.result in
    let other = c.other_run.result in
    let text = c.in_ok-decode_onto.ensures.ok in
    let k : plain + other - plain ≡ other = omega arith in
    run_text bytes c.args.units.now c.put_each.new.units c.decode_onto.new.units text.0 plain other c.plain_run-plain.ensures c.in_ok-put_each.ensures (subst (λ n. Utf text.0 (take n (drop plain bytes))) k text.1) text.2
