use Rattle.std.proofs.Common.{refl, ap, sym, ◌∙◌}
use Rattle.std.specs.Prelude.{filter}
use Rattle.dgc_server.specs.Entry.{is_entry_kept}
use Rattle.dgc_server.proofs.BoardLaws.{all-calm-of}
use Rattle.dgc_server.proofs.drops.drop_objects.Goals as goal

pub returns-clause-entries : goal.returns-clause-entries
returns-clause-entries c =
    c.keep.ensures.entries ∙ ap (filter (is_entry_kept c.args.time)) (c.keep_named.ensures.all refl refl ∙ c.keep_named-to_go.ensures.same)

pub returns-clause-bounded : goal.returns-clause-bounded
returns-clause-bounded c = λ n a.
    c.keep.ensures.bounded n (c.keep_named.ensures.calm c.args.time n (c.keep_named-to_go.ensures.calm c.args.time n (all-calm-of c.args.time n c.args.board.now.chunks.items a)))

pub keep-requires : goal.keep-requires
keep-requires c = c.requires.ends ∙ sym (c.keep_named.ensures.ends ∙ c.keep_named-to_go.ensures.ends)
