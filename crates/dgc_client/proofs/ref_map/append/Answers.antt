use Rattle.std.proofs.Common.{◌-◌, ◌∷◌, [], ◌++◌, ap, ◌∙◌, sym, subst}
use Rattle.indexmap.proofs.CallerLemmas.{insert_entry-new}
use Rattle.object_ids.specs.Same.{same_key}
use Rattle.dgc_client.specs.declared.ref_map.Kept.{Kept}
use Rattle.dgc_client.specs.RefMap.{refs_in, AreSettled}
use Rattle.dgc_client.proofs.RefEntries.{on-err, refs-more, gap-removed}
use Rattle.dgc_client.proofs.Settled.{settled-removed, settled-more}
use Rattle.dgc_client.proofs.ref_map.append.Goals as goal

pub returns-in_err-insert-clause-err : goal.returns-in_err-insert-clause-err
returns-in_err-insert-clause-err c =
    on-err c.from_residual.result (ap refs_in c.in_err-insert.ensures.err ∙ ap refs_in c.shift_remove.ensures.entries ∙ gap-removed c.args.object.now c.args.refs.now.entries c.requires)

pub returns-clause-ok : goal.returns-clause-ok
returns-clause-ok c =
    let o = c.args.object.now in
    let es = c.args.refs.now.entries in
    let rest = c.shift_remove.new.self.entries in
    ap refs_in (c.in_ok-insert.ensures.entries ∙ insert_entry-new same_key c.shift_remove.new.self o c.new_kept.result c.shift_remove.ensures.updates.1)
    ∙ refs-more rest ((o, c.new_kept.result) ∷ [])
    ∙ ap (λ l. l ++ refs_in ((o, c.new_kept.result) ∷ [])) (ap refs_in c.shift_remove.ensures.entries ∙ gap-removed o es c.requires)
    ∙ ap (λ (k : Kept). refs_in es ++ refs_in ((o, k) ∷ [])) c.new_kept.ensures

pub returns-in_err-insert-clause-settled : goal.returns-in_err-insert-clause-settled
returns-in_err-insert-clause-settled c = λ n h.
    subst (AreSettled (n - 1)) (sym (c.in_err-insert.ensures.err ∙ c.shift_remove.ensures.entries)) (settled-removed (same_key c.args.object.now) n c.args.refs.now.entries h)

pub returns-clause-settled : goal.returns-clause-settled
returns-clause-settled c = λ n h.
    let o = c.args.object.now in
    let rest = c.shift_remove.new.self.entries in
    subst (AreSettled (n - 1)) (sym (c.in_ok-insert.ensures.entries ∙ insert_entry-new same_key c.shift_remove.new.self o c.new_kept.result c.shift_remove.ensures.updates.1))
    (settled-more (n - 1) rest ((o, c.new_kept.result) ∷ [])
    (subst (AreSettled (n - 1)) (sym c.shift_remove.ensures.entries) (settled-removed (same_key o) n c.args.refs.now.entries h)))
