use Rattle.std.proofs.Common.{◌≡◌, ◌+◌, ◌≤◌, length, take, drop, ap, ◌∙◌, arith, rules, length-drop, length-take-le}
use Rattle.std.specs.Prelude.{filter, vec_len}
use Rattle.export_table.specs.WaitIndex.{stays}
use Rattle.export_table.proofs.Queued.{kept-rest}
use Rattle.export_table.proofs.Slices.{slice_from}
use Rattle.export_table.proofs.waits.keep_behind.Goals as goal

pub returns-clause-kept : goal.returns-clause-kept
returns-clause-kept c =
    let items = c.deref_mut.result.now in
    let same : items ≡ c.args.waits.now.items = c.deref_mut.ensures.value in
    let within : c.args.gone ≤ length items = (let few = c.requires.gone in let all = ap length same in omega arith) in
    let long : length c.keep-kept.new.waits ≡ length (drop c.args.gone items) = c.keep-kept.ensures.len ∙ ap length (slice_from c.args.gone items) in
    let len : vec_len c.args.waits.now ≡ length c.args.waits.now.items = search rules in
    let fits : c.args.gone + c.keep-kept.result ≤ vec_len c.args.waits.now = (let few = c.keep-kept.ensures.within in let rest = length-drop c.args.gone items in let all = ap length same in omega arith) in
    ap (drop c.args.gone) c.truncate.ensures.items
    ∙ kept-rest (take c.args.gone items) c.keep-kept.new.waits _ _ c.args.gone c.keep-kept.result _ (length-take-le c.args.gone items within) c.keep-kept.ensures.within fits
    ∙ c.keep-kept.ensures.kept
    ∙ ap (filter (stays c.args.which.now)) (slice_from c.args.gone items ∙ ap (drop c.args.gone) same)
