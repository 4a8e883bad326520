use Rattle.std.proofs.Common.{List, ◌++◌, max, ap, sym, subst, ◌∙◌, arith}
use Rattle.std.specs.Prelude.{filter}
use Rattle.export_table.specs.declared.waits.Wait.{Wait}
use Rattle.export_table.specs.declared.rows.Export.{Export}
use Rattle.export_table.specs.ExportRows.{is_row_kept, held_by, withdrawn_ids, IsPart}
use Rattle.export_table.specs.Slots.{RowsHeld}
use Rattle.export_table.proofs.Indexing.{rows-forgotten, withdrawn-forgotten}
use Rattle.export_table.proofs.Held.{held-closed}
use Rattle.export_table.proofs.rows.sift.Goals as goal

pub returns-clause-rows : goal.returns-clause-rows
returns-clause-rows c lease moment calls s =
    let held = held_by lease (max c.args.now moment) calls in
    ap (λ (t : RowsHeld). t.rows) c.close.ensures.rest
    ∙ c.keep.ensures.rows lease moment calls s
    ∙ ap (λ (l : List Wait). filter (is_row_kept c.args.now held l) c.args.rows.now.rows) c.forget.ensures.waits
    ∙ rows-forgotten c.args.now held c.args.waits.now.waits c.args.rows.now.rows

pub returns-clause-gone : goal.returns-clause-gone
returns-clause-gone c lease moment calls s =
    let held = held_by lease (max c.args.now moment) calls in
    c.keep.ensures.gone lease moment calls s
    ∙ ap (λ (l : List Wait). c.args.gone.now.items ++ withdrawn_ids c.args.now held l c.args.rows.now.rows) c.forget.ensures.waits
    ∙ ap (λ l. c.args.gone.now.items ++ l) (withdrawn-forgotten c.args.now held c.args.waits.now.waits c.args.rows.now.rows)

pub returns-clause-part : goal.returns-clause-part
returns-clause-part c =
    let P : List Export → Type 0 = λ l. IsPart l c.args.rows.now.rows in subst P (sym (ap (λ (t : RowsHeld). t.rows) c.close.ensures.rest)) c.keep.ensures.part

pub returns-clause-rest : goal.returns-clause-rest
returns-clause-rest c = held-closed c.args.rows.now c.keep.new.self c.close.new.self c.keep.ensures.rest c.close.ensures.rest

pub returns-clause-room : goal.returns-clause-room
returns-clause-room c =
    let same = ap (λ (t : RowsHeld). t.room) c.keep.ensures.rest in let more = c.close.ensures.room in omega (arith, same)
