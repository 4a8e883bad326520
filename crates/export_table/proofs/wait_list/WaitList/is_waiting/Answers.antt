use Rattle.std.proofs.Common.{◌≡◌, ap, sym, ◌∙◌, true, false}
use Rattle.std.specs.Prelude.{◌&&◌, not}
use Rattle.std.specs.List.{list_any}
use Rattle.export_table.specs.Waits.{is_wait_of, goes_on, is_waiting}
use Rattle.export_table.specs.WaitTable.{WaitTable}
use Rattle.export_table.proofs.Ends.{any-over-of, waits-not-over}
use Rattle.export_table.proofs.wait_list.WaitList.is_waiting.Goals as goal

pub returns-then-has : goal.returns-then-has
returns-then-has c =
    let ws = c.self.inside.queue.waits in
    let of_it = is_wait_of c.args.object.now c.args.uid.now in
    let out : c.is_over.result ≡ list_any (λ w. not (goes_on c.args.time w) && of_it w) ws =
    c.is_over.ensures ∙ any-over-of c.args.time of_it c.due.result.now ∙ ap (list_any of_it) c.due.ensures.over ∙ sym (any-over-of c.args.time of_it ws) in
    let there : list_any of_it ws ≡ true = sym (c.self.invariant.index.listed c.args.object.now c.args.uid.now) ∙ sym c.has.ensures ∙ c.if-has.true in
    ap not out
    ∙ sym (waits-not-over c.args.time c.args.object.now c.args.uid.now ws c.self.invariant.once ∙ ap (λ b. b && not (list_any (λ w. not (goes_on c.args.time w) && of_it w) ws)) there)
    ∙ ap (λ (t : WaitTable). is_waiting c.args.time c.args.object.now c.args.uid.now t.waits) c.self.view_is

pub returns-else-has : goal.returns-else-has
returns-else-has c =
    let ws = c.self.inside.queue.waits in
    let of_it = is_wait_of c.args.object.now c.args.uid.now in
    let none : list_any of_it ws ≡ false = sym (c.self.invariant.index.listed c.args.object.now c.args.uid.now) ∙ sym c.has.ensures ∙ c.if-has.false in
    c.if-has.false
    ∙ sym (waits-not-over c.args.time c.args.object.now c.args.uid.now ws c.self.invariant.once ∙ ap (λ b. b && not (list_any (λ w. not (goes_on c.args.time w) && of_it w) ws)) none)
    ∙ ap (λ (t : WaitTable). is_waiting c.args.time c.args.object.now c.args.uid.now t.waits) c.self.view_is
