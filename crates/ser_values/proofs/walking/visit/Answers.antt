use Rattle.std.proofs.Common.{sym, ◌∙◌}
use Rattle.ser_values.specs.Walk.{stacked}
use Rattle.ser_values.proofs.Runs.{again_step, old_run, none_run, fresh_run, stacked_push}
use Rattle.ser_values.proofs.walking.visit.Goals as goal

pub returns-then-is_seen : goal.returns-then-is_seen
returns-then-is_seen c =
    again_step c.args.loose.now.nodes.now c.args.left c.args.number c.args.place c.in-Some.node.now (stacked c.args.stack.now.items) c.args.seen.now.unread.items c.args.seen.now.order.items c.takes.result c.in-Some.ensures (sym c.if-is_seen.ensures) (rw c.is_unread.ensures at c.takes.ensures)

pub returns-then-not-is_new : goal.returns-then-not-is_new
returns-then-not-is_new c =
    old_run c.args.loose.now.nodes.now c.args.left c.args.number c.args.place c.in-Some.node.now (stacked c.args.stack.now.items) c.args.seen.now.unread.items c.args.seen.now.order.items c.in-Some.ensures (sym c.if-is_seen.ensures) (sym c.is_new.ensures ∙ c.if-not-is_new.true)

pub returns-in-None : goal.returns-in-None
returns-in-None c = none_run c.args.loose.now.nodes.now c.args.left c.args.number c.args.place (stacked c.args.stack.now.items) c.args.seen.now.unread.items c.args.seen.now.order.items c.in-None.ensures

pub returns-in_ok-push_before-in-Some : goal.returns-in_ok-push_before-in-Some
returns-in_ok-push_before-in-Some c =
    let fresh = fresh_run c.args.loose.now.nodes.now c.args.left c.args.number c.args.place c.in-Some.node.now (stacked c.args.stack.now.items) c.args.seen.now.unread.items c.args.seen.now.order.items c.in-Some.ensures (sym c.if-is_seen.ensures) (sym c.is_new.ensures ∙ c.if-not-is_new.false) in
    rw c.in_ok-push_before-in-Some.ensures (rw (c.in_ok-push-in-Some.ensures.items, stacked_push) fresh)
