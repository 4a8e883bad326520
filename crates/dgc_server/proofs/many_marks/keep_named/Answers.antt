use Rattle.std.proofs.Common.{rules}
use Rattle.indexmap.proofs.CallerLemmas.{filter-RetainsPairs}
use Rattle.dgc_server.specs.Entry.{object_entries}
use Rattle.dgc_server.specs.HolderIndex.{is_named}
use Rattle.std.proofs.Common.{ap, ◌∙◌}
use Rattle.dgc_server.proofs.MarkLaws.{entries-filtered}
use Rattle.dgc_server.proofs.many_marks.keep_named.Goals as goal

pub returns : goal.returns
returns c =
    ap object_entries (filter-RetainsPairs _ _ _ (λ k v b w g call. search rules) _ _ c.retain.ensures.filtered)
    ∙ entries-filtered (is_named c.args.counts.now) c.args.marks.now.entries
