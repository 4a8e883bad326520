use Rattle.std.proofs.Common.{◌≡◌, List, ap, sym, subst, ◌∙◌, arith, true}
use Rattle.std.specs.Prelude.{filter}
use Rattle.export_table.specs.declared.waits.Wait.{Wait}
use Rattle.export_table.specs.Waits.{each_once}
use Rattle.export_table.specs.WaitIndex.{stays, IsIndexOf}
use Rattle.export_table.proofs.Sound.{once-filter}
use Rattle.export_table.proofs.wait_list.WaitList.keep.Goals as goal

pub invariant_of-self : goal.invariant_of-self
invariant_of-self c =
    let waits = c.self.inside.queue.waits in
    let inv = c.self.invariant in
    let O : List Wait → Type 0 = λ l. each_once l ≡ true in
    let I : List Wait → Type 0 = λ l. IsIndexOf c.keep.new.counts c.keep.new.references c.keep.new.returns l in
    let kept = ap (filter (stays c.args.which)) c.waits.ensures in record {
      once = subst O (sym c.keep-2.ensures.waits) (once-filter (stays c.args.which) waits inv.once);
      index = subst I (kept ∙ sym c.keep-2.ensures.waits) c.keep.ensures.index;
      queue_room = (let a = inv.queue_room in let b = c.keep-2.ensures.room in omega arith);
      counts_room = (let a = inv.counts_room in let b = c.keep.ensures.counts_room in omega arith);
      references_room = (let a = inv.references_room in let b = c.keep.ensures.references_room in omega arith);
      returns_room = (let a = inv.returns_room in let b = c.keep.ensures.returns_room in omega arith);
    }
