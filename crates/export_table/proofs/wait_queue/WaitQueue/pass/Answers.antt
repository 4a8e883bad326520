use Rattle.std.proofs.Common.{◌≡◌, ◌+◌, ◌≤◌, List, length, drop, ap, sym, subst, ◌∙◌, arith}
use Rattle.std.proofs.lemmas.List.{length-drop}
use Rattle.export_table.specs.declared.waits.Wait.{Wait}
use Rattle.export_table.specs.WaitIndex.{EndsNoEarlier, EndsRise}
use Rattle.export_table.proofs.Queued.{queue-passed, passed-rise}
use Rattle.export_table.proofs.wait_queue.WaitQueue.pass.Goals as goal

pub first_end-self-inside-requires : goal.first_end-self-inside-requires
first_end-self-inside-requires c =
    let items = c.self.inside.waits.items in
    let gone = c.self.inside.gone in
    let same : c.behind-2.result.now ≡ drop (gone + c.due_front.result) items = c.behind-2.ensures ∙ ap (drop (gone + c.due_front.result)) c.deref-2.ensures.value in
    subst EndsRise (sym same) (passed-rise items gone c.due_front.result (c.self.invariant.rises c.if-not-self.false))

pub invariant_of-self : goal.invariant_of-self
invariant_of-self c =
    let items = c.self.inside.waits.items in
    let gone = c.self.inside.gone in
    let N : List Wait → Type 0 = λ l. EndsNoEarlier c.first_end-self-inside.result l in
    let same : c.behind-2.result.now ≡ drop (gone + c.due_front.result) items = c.behind-2.ensures ∙ ap (drop (gone + c.due_front.result)) c.deref-2.ensures.value in
    let rest : length c.behind.result.now ≡ length (drop gone items) = ap length (c.behind.ensures ∙ ap (drop gone) c.deref.ensures.value) in
    let within : gone + c.due_front.result ≤ length items = (let few = c.due_front.ensures.within in let long = length-drop gone items in let all = c.self.invariant.within in omega arith) in
    queue-passed items gone c.due_front.result c.self.inside.next c.first_end-self-inside.result c.self.inside.rising within (subst N same c.first_end-self-inside.ensures) c.self.invariant
