use Rattle.std.proofs.Common.{◌≡◌, List, length, drop, ap, sym, subst, ◌∙◌, arith, rules}
use Rattle.std.specs.Prelude.{filter, vec_len}
use Rattle.std.proofs.lemmas.List.{take_at}
use Rattle.export_table.specs.declared.waits.Wait.{Wait}
use Rattle.export_table.specs.WaitIndex.{stays}
use Rattle.export_table.specs.WaitTable.{IsQueue}
use Rattle.export_table.proofs.Queued.{queue-kept}
use Rattle.export_table.proofs.wait_queue.WaitQueue.keep_before.Goals as goal

pub invariant_of-self : goal.invariant_of-self
invariant_of-self c =
    let items = c.self.inside.waits.items in
    let left = c.keep_before-self-inside.new.waits in
    let value : c.deref_mut.result.now ≡ items = c.deref_mut.ensures.value in
    let len : vec_len c.self.inside.waits ≡ length items = search rules in
    let long : length left ≡ vec_len c.self.inside.waits = (let same = c.keep_before-self-inside.ensures.len in let all = ap length value in omega arith) in
    let Q : List Wait → Type 0 = λ l. IsQueue l c.keep_before-self-inside.result c.self.inside.next c.self.inside.rising in
    subst Q (sym (take_at left (drop (length left) items) (vec_len c.self.inside.waits) long))
    (queue-kept items left c.self.inside.gone c.keep_before-self-inside.result c.self.inside.next c.self.inside.rising (stays c.args.which.now) c.keep_before-self-inside.ensures.within
    (c.keep_before-self-inside.ensures.kept ∙ ap (λ l. filter (stays c.args.which.now) (drop c.self.inside.gone l)) value) c.self.invariant)
