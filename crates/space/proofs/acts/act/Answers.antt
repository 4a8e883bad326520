use Rattle.std.proofs.Common.{◌≡◌, ◌++◌, ℕ, List, true, ap, sym, subst, ◌∙◌}
use Rattle.std.specs.List.{AllByRecursion}
use Rattle.object_ids.specs.declared.ids.ObjId.{ObjId}
use Rattle.export_table.specs.ExportRows.{is_exported}
use Rattle.space.specs.Acts.{new_rows, returned_by}
use Rattle.space.proofs.LoopLaws.{all-there}
use Rattle.space.proofs.acts.act.Goals as goal

pub end_with-requires-clause-exported : goal.end_with-requires-clause-exported
end_with-requires-clause-exported c =
    let P : List ℕ → Type 0 = λ m. AllByRecursion (λ o. is_exported (c.args.exports.now.rows ++ new_rows c.args.exports.now.space c.args.exports.now.added m) o ≡ true) c.args.returned.now in
    let Q : List ObjId → Type 0 = λ os. AllByRecursion (λ o. is_exported (c.args.exports.now.rows ++ new_rows c.args.exports.now.space c.args.exports.now.added c.in-Finish.made) o ≡ true) os in
    subst P (sym c.as_slice.ensures)
    (subst Q (sym (c.requires.returned
    ∙ ap (λ v. returned_by c.args.exports.now.space c.args.exports.now.added c.args.exports.now.rows c.args.admitted.stood v c.args.ask.now) c.if-effective-2.true
    ∙ ap (returned_by c.args.exports.now.space c.args.exports.now.added c.args.exports.now.rows c.args.admitted.stood true) c.in-Finish.is))
    (all-there c.args.exports.now.space c.args.exports.now.added c.args.exports.now.rows c.in-Finish.made c.in-Finish.listed))
