use Rattle.std.proofs.Common.{◌≡◌, List, [], ◌∷◌, ◌++◌, length, ap, sym, subst, ◌∙◌, rules, arith, true≢false}
use Rattle.std.specs.Prelude.{map}
use Rattle.std.specs.List.{AllByRecursion}
use Rattle.std.proofs.lemmas.List.{length-append}
use Rattle.ports.specs.AskedLog.{AskedRecord}
use Rattle.ports.specs.AskedRows.{IsKnownRow, entry_of_row, whole_at}
use Rattle.space.specs.declared.asked.Asked.{Asked}
use Rattle.ports.specs.declared.asked_rows.AskedRow.{AskedRow}
use Rattle.ports.proofs.AskedRowLaws.{whole-entered, whole-known}
use Rattle.ports.proofs.asked_log.AskedLog.keep_whole.Goals as goal

pub invariant_of-self : goal.invariant_of-self
invariant_of-self c =
    let wholes = c.self.inside.wholes.items in
    let last : c.len.result ≡ length c.self.inside.wholes.items = search rules in
    let more = length-append wholes (c.args.entry ∷ []) in
    let known = whole-known wholes c.self.inside.rows.items c.whole_row-row.result c.args.entry c.self.invariant.0
    (c.whole_row-row.ensures.known (length (wholes ++ c.args.entry ∷ [])) (omega (arith, last, more))) in (
      subst (λ (kept : List Asked). AllByRecursion (IsKnownRow (length kept)) c.push_reserved-2.new.self.items) (sym c.push_reserved.ensures.items)
          (subst (λ (rows : List AskedRow). AllByRecursion (IsKnownRow (length (wholes ++ c.args.entry ∷ []))) rows) (sym c.push_reserved-2.ensures.items) known),
      λ never. absurd (true≢false (sym never)),
    )

pub returns-clause-items : goal.returns-clause-items
returns-clause-items c =
    let wholes = c.self.inside.wholes.items in
    let last : c.len.result ≡ length c.self.inside.wholes.items = search rules in
    ap (λ (kept : List Asked). map (entry_of_row kept) c.push_reserved-2.new.self.items) c.push_reserved.ensures.items
    ∙ ap (λ (rows : List AskedRow). map (entry_of_row (wholes ++ c.args.entry ∷ [])) rows) c.push_reserved-2.ensures.items
    ∙ whole-entered wholes c.self.inside.rows.items c.whole_row-row.result c.args.entry c.self.invariant.0
    (c.whole_row-row.ensures.row (wholes ++ c.args.entry ∷ []) ∙ ap (λ n. whole_at (wholes ++ c.args.entry ∷ []) n) last)
    ∙ ap (λ (l : AskedRecord). l.items ++ c.args.entry ∷ []) c.self.view_is
