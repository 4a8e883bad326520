use Rattle.std.proofs.Common.{◌≡◌, drop, ap, sym, ◌∙◌, false}
use Rattle.std.specs.List.{list_any}
use Rattle.export_table.specs.Waits.{is_wait_of, end_of_wait}
use Rattle.export_table.specs.WaitTable.{WaitTable}
use Rattle.export_table.proofs.Indexing.{until-none}
use Rattle.export_table.proofs.Returning.{until-rest}
use Rattle.export_table.proofs.wait_list.WaitList.end_of_wait.Goals as goal

pub returns-else-has : goal.returns-else-has
returns-else-has c =
    let none : list_any (is_wait_of c.args.object.now c.args.uid.now) c.self.inside.queue.waits ≡ false =
    sym (c.self.invariant.index.listed c.args.object.now c.args.uid.now) ∙ sym c.has.ensures ∙ c.if-has.false in
    sym (until-none c.args.object.now c.args.uid.now c.self.inside.queue.waits none)
    ∙ ap (λ (t : WaitTable). end_of_wait c.args.object.now c.args.uid.now t.waits) c.self.view_is

pub returns-then-has : goal.returns-then-has
returns-then-has c =
    let same = c.waits.ensures ∙ ap (λ (t : WaitTable). t.waits) c.self.view_is in
    c.end_of_wait.ensures
    ∙ ap (end_of_wait c.args.object.now c.args.uid.now) (c.behind.ensures ∙ ap (drop c.part_of-part.result.0) same)
    ∙ until-rest c.args.object.now c.args.uid.now c.args.self.now.waits c.part_of-part.result.0 c.part_of-part.ensures.before
