use Rattle.std.proofs.Common.{◌≡◌, ◌+◌, ap, sym, ◌∙◌}
use Rattle.std.specs.Prelude.{nat_lt}
use Rattle.dgc_server.specs.HolderIndex.{counted_at, loses, has_with, one_if}
use Rattle.dgc_server.proofs.Shares.{lost-enough, over-step, still-step}
use Rattle.dgc_server.proofs.holders.release_over.Goals as goal

pub returns-then-goes_on-clause-counts : goal.returns-then-goes_on-clause-counts
returns-then-goes_on-clause-counts c = λ w o.
    ap (λ b. counted_at w c.args.counts.now o + one_if b) (still-step w o c.args.entry.now c.args.from c.args.to c.requires.later (sym c.has_time_left-goes_on.ensures ∙ c.if-goes_on.true))

pub release-requires-clause-enough : goal.release-requires-clause-enough
release-requires-clause-enough c = λ w o.
    rw (c.objects.ensures, c.has_time_left-held.ensures) (lost-enough w (nat_lt c.args.from c.args.entry.now.until) c.args.entry.now.objects o _ c.requires.once (c.requires.enough w o))

pub returns-clause-counts : goal.returns-clause-counts
returns-clause-counts c = λ w o.
    let e = c.args.entry.now in
    let n = counted_at w c.release.new.counts o in
    let lost : n + one_if (has_with (loses w (nat_lt c.args.from e.until)) e.objects o) ≡ counted_at w c.args.counts.now o =
    ap (λ b. n + one_if (has_with (loses w b) e.objects o)) (sym c.has_time_left-held.ensures) ∙ ap (λ l. n + one_if (has_with (loses w c.has_time_left-held.result) l o)) (sym c.objects.ensures)
    ∙ c.release.ensures.counts w o in
    over-step w o e c.args.from c.args.to n (counted_at w c.args.counts.now o) (sym c.has_time_left-goes_on.ensures ∙ c.if-goes_on.false) c.requires.once lost
