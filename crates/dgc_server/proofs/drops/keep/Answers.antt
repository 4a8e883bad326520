use Rattle.std.proofs.Common.{ap, sym, subst, ◌∙◌}
use Rattle.std.specs.List.{AllByRecursion}
use Rattle.history.proofs.ListLemmas.{every-filter}
use Rattle.dgc_server.specs.Chunks.{all_of, is_filled, IsBounded}
use Rattle.dgc_server.proofs.Chunked.{filled-all, all-filled}
use Rattle.dgc_server.proofs.drops.keep.Goals as goal

pub returns-clause-entries : goal.returns-clause-entries
returns-clause-entries c = ap all_of c.keep_filled.ensures.chunks ∙ filled-all c.keep_each.new.chunks.items ∙ c.keep_each.ensures.entries

pub returns-clause-filled : goal.returns-clause-filled
returns-clause-filled c = rw (c.keep_filled.ensures.chunks) (all-filled c.keep_each.new.chunks.items)

pub returns-clause-bounded : goal.returns-clause-bounded
returns-clause-bounded c = λ n a.
    subst (AllByRecursion (IsBounded c.args.now n)) (sym c.keep_filled.ensures.chunks) (every-filter (IsBounded c.args.now n) is_filled c.keep_each.new.chunks.items (c.keep_each.ensures.bounded n a))

pub keep_filled-requires : goal.keep_filled-requires
keep_filled-requires c = c.requires ∙ sym c.keep_each.ensures.ends
