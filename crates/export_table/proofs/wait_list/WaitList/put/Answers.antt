use Rattle.std.proofs.Common.{◌≡◌, List, length, ap, sym, subst, ◌∙◌, arith, false, true}
use Rattle.std.specs.List.{list_any}
use Rattle.sequence.proofs.Lists.{filter-shorter}
use Rattle.object_ids.specs.Same.{same_id, same_uid}
use Rattle.export_table.specs.declared.waits.Wait.{Wait}
use Rattle.export_table.specs.Waits.{is_wait_of, each_once}
use Rattle.export_table.specs.WaitIndex.{IsIndexOf}
use Rattle.export_table.specs.WaitTable.{WaitTable}
use Rattle.export_table.proofs.Sound.{once-push}
use Rattle.export_table.proofs.wait_list.WaitList.put.Goals as goal

pub add-requires-clause-few : goal.add-requires-clause-few
add-requires-clause-few c =
    let counted = c.self.invariant.index.counted c.args.wait.object in
    let fewer = filter-shorter (λ (w : Wait). same_id w.object c.args.wait.object) c.self.inside.queue.waits in
    let all : length c.self.inside.queue.waits ≡ length c.args.self.now.waits = ap (λ (t : WaitTable). length t.waits) c.self.view_is in
    let few = c.requires.few in omega arith

pub add-requires-clause-few_returned : goal.add-requires-clause-few_returned
add-requires-clause-few_returned c =
    let counted = c.self.invariant.index.returned c.args.wait.uid in
    let fewer = filter-shorter (λ (w : Wait). same_uid w.uid c.args.wait.uid) c.self.inside.queue.waits in
    let all : length c.self.inside.queue.waits ≡ length c.args.self.now.waits = ap (λ (t : WaitTable). length t.waits) c.self.view_is in
    let few = c.requires.few in omega arith

pub invariant_of-self : goal.invariant_of-self
invariant_of-self c =
    let waits = c.self.inside.queue.waits in
    let inv = c.self.invariant in
    let O : List Wait → Type 0 = λ l. each_once l ≡ true in
    let I : List Wait → Type 0 = λ l. IsIndexOf c.add.new.counts c.add.new.references c.add.new.returns l in
    let none : list_any (is_wait_of c.args.wait.object c.args.wait.uid) waits ≡ false = ap (λ (t : WaitTable). list_any (is_wait_of c.args.wait.object c.args.wait.uid) t.waits) c.self.view_is ∙ c.requires.once in
    record {
      once = subst O (sym c.put.ensures.waits) (once-push waits c.args.wait inv.once none);
      index = subst I (sym c.put.ensures.waits) (c.add.ensures.index waits inv.index);
      queue_room = (let a = inv.queue_room in let b = c.put.ensures.room in omega arith);
      counts_room = (let a = inv.counts_room in let b = c.add.ensures.counts_room in omega arith);
      references_room = (let a = inv.references_room in let b = c.add.ensures.references_room in omega arith);
      returns_room = (let a = inv.returns_room in let b = c.add.ensures.returns_room in omega arith);
    }
