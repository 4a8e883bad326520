use Rattle.std.proofs.Common.{◌≡◌, List, take, drop, ap, sym, subst, ◌∙◌, false}
use Rattle.std.specs.Prelude.{not, filter}
use Rattle.std.specs.List.{list_any}
use Rattle.export_table.specs.declared.waits.Wait.{Wait}
use Rattle.export_table.specs.Waits.{is_wait_of}
use Rattle.export_table.specs.WaitTable.{WaitTable}
use Rattle.export_table.proofs.Indexing.{none-dropped}
use Rattle.export_table.proofs.Returning.{references-stay}
use Rattle.export_table.proofs.wait_list.WaitList.drop_one.Goals as goal

pub returns-else-has-clause-waits : goal.returns-else-has-clause-waits
returns-else-has-clause-waits c =
    let none : list_any (is_wait_of c.args.object.now c.args.uid.now) c.self.inside.queue.waits ≡ false =
    sym (c.self.invariant.index.listed c.args.object.now c.args.uid.now) ∙ sym c.has.ensures ∙ c.if-has.false in
    let P : List Wait → Type 0 = λ l. l ≡ filter (λ w. not (is_wait_of c.args.object.now c.args.uid.now w)) l in
    subst P (ap (λ (t : WaitTable). t.waits) c.self.view_is) (sym (none-dropped (is_wait_of c.args.object.now c.args.uid.now) c.self.inside.queue.waits none))

pub keep-requires-clause-before : goal.keep-requires-clause-before
keep-requires-clause-before c = references-stay c.args.object.now c.args.uid.now (take c.part_of-part.result.0 c.args.self.now.waits) c.part_of-part.ensures.before

pub keep-requires-clause-after : goal.keep-requires-clause-after
keep-requires-clause-after c = references-stay c.args.object.now c.args.uid.now (drop c.part_of-part.result.1 c.args.self.now.waits) c.part_of-part.ensures.after
