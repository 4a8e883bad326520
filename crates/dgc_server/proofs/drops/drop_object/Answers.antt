use Rattle.std.proofs.Common.{◌≡◌, length, refl, ap, sym, subst, ◌∙◌}
use Rattle.std.specs.Prelude.{filter}
use Rattle.std.specs.List.{AllByRecursion}
use Rattle.history.proofs.ListLemmas.{every-filter}
use Rattle.dgc_server.specs.HolderIndex.{entry_names}
use Rattle.dgc_server.specs.Chunks.{all_of, is_filled, IsBounded}
use Rattle.dgc_server.proofs.Walking.{walked-all}
use Rattle.dgc_server.proofs.Chunked.{filled-all, all-filled}
use Rattle.dgc_server.proofs.drops.drop_object.Goals as goal

pub returns-clause-entries : goal.returns-clause-entries
returns-clause-entries c =
    let cs = c.walk.new.chunks.items in
    let none : length (filter (entry_names c.args.object.now) (all_of cs)) ≡ 0 = sym c.walk.ensures.counted ∙ c.walk.ensures.all refl refl in
    ap all_of c.keep_filled.ensures.chunks ∙ filled-all cs ∙ sym (walked-all c.args.object.now c.args.time (all_of cs) none c.walk.ensures.kept)
    ∙ c.walk.ensures.same ∙ c.walk-to_go.ensures.same

pub returns-clause-filled : goal.returns-clause-filled
returns-clause-filled c = rw (c.keep_filled.ensures.chunks) (all-filled c.walk.new.chunks.items)

pub returns-clause-bounded : goal.returns-clause-bounded
returns-clause-bounded c = λ n a.
    subst (AllByRecursion (IsBounded c.args.time n)) (sym c.keep_filled.ensures.chunks)
    (every-filter (IsBounded c.args.time n) is_filled c.walk.new.chunks.items (c.walk.ensures.bounded n (c.walk-to_go.ensures.bounded n a)))

pub keep_filled-requires : goal.keep_filled-requires
keep_filled-requires c = c.requires.ends ∙ sym (c.walk.ensures.ends ∙ c.walk-to_go.ensures.ends)
