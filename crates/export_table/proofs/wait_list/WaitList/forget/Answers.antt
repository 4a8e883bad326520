use Rattle.std.proofs.Common.{◌≡◌, List, length, drop, ap, sym, subst, ◌∙◌, arith, true}
use Rattle.export_table.specs.declared.waits.Wait.{Wait}
use Rattle.export_table.specs.Waits.{goes_on, still_waiting, each_once}
use Rattle.export_table.specs.WaitIndex.{IsIndexOf}
use Rattle.export_table.proofs.Sound.{once-filter}
use Rattle.export_table.proofs.wait_list.WaitList.forget.Goals as goal

pub keep-requires-clause-after : goal.keep-requires-clause-after
keep-requires-clause-after c =
    let P : List Wait → Type 0 = λ l. still_waiting c.args.now (drop (length c.due-upto.result.now) l) ≡ drop (length c.due-upto.result.now) l in
    subst P (sym c.waits.ensures) c.due-upto.ensures.rest

pub invariant_of-self : goal.invariant_of-self
invariant_of-self c =
    let waits = c.self.inside.queue.waits in
    let inv = c.self.invariant in
    let O : List Wait → Type 0 = λ l. each_once l ≡ true in
    let I : List Wait → Type 0 = λ l. IsIndexOf c.keep.new.counts c.keep.new.references c.keep.new.returns l in
    let kept = ap (still_waiting c.args.now) c.waits.ensures in record {
      once = subst O (sym c.forget.ensures.waits) (once-filter (goes_on c.args.now) waits inv.once);
      index = subst I (kept ∙ sym c.forget.ensures.waits) c.keep.ensures.index;
      queue_room = (let a = inv.queue_room in let b = c.forget.ensures.room in omega arith);
      counts_room = (let a = inv.counts_room in let b = c.keep.ensures.counts_room in omega arith);
      references_room = (let a = inv.references_room in let b = c.keep.ensures.references_room in omega arith);
      returns_room = (let a = inv.returns_room in let b = c.keep.ensures.returns_room in omega arith);
    }
