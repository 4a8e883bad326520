use Rattle.std.proofs.Common.{◌+◌, ap, sym, ◌∙◌, true}
use Rattle.dgc_server.specs.Entry.{object_entries}
use Rattle.dgc_server.specs.HolderIndex.{counted_at, counts_in, one_if}
use Rattle.dgc_server.proofs.Shares.{lost-enough, settle-step}
use Rattle.dgc_server.proofs.marks.settle.Goals as goal

pub release-requires-clause-enough : goal.release-requires-clause-enough
release-requires-clause-enough c = λ w o. lost-enough w c.args.held (object_entries c.args.objects.now.entries) o _ c.requires.once (c.requires.enough w o)

pub returns-then-not-left-clause-counts : goal.returns-then-not-left-clause-counts
returns-then-not-left-clause-counts c = λ w o.
    settle-step w c.args.held (object_entries c.args.objects.now.entries) o (counted_at w c.release.new.counts o) (counted_at w c.args.counts.now o) c.requires.once (c.release.ensures.counts w o)
    ∙ ap (λ l. counted_at w c.args.counts.now o + one_if (counts_in w true l o)) (sym c.forget_tenure.ensures.objects)
