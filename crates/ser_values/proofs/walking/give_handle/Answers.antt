use Rattle.std.proofs.Common.{◌<◌, sym, length}
use Rattle.std.proofs.lemmas.Option.{slice_get_within}
use Rattle.ser_values.specs.Walk.{stacked}
use Rattle.ser_values.proofs.Runs.{twice_run, missing_run, number_run}
use Rattle.ser_values.proofs.walking.give_handle.Goals as goal

pub returns-then-is_seen-clause-step : goal.returns-then-is_seen-clause-step
returns-then-is_seen-clause-step c =
    twice_run c.args.loose.now.nodes.now c.args.left c.args.number c.in-Some.node.now (stacked c.args.stack.now.items) c.args.seen.now.unread.items c.args.seen.now.order.items c.in-Some.ensures (sym c.if-is_seen.ensures)

pub enter-requires-clause-within : goal.enter-requires-clause-within
enter-requires-clause-within c =
    let lt : c.args.number < length c.args.loose.now.nodes.now = slice_get_within c.args.loose.now.nodes.now c.args.number _ c.in-Some.ensures in
    rw c.requires.count lt

pub returns-in-None-clause-step : goal.returns-in-None-clause-step
returns-in-None-clause-step c = missing_run c.args.loose.now.nodes.now c.args.left c.args.number (stacked c.args.stack.now.items) c.args.seen.now.unread.items c.args.seen.now.order.items c.in-None.ensures

pub returns-in_ok-push_after-in-Some-clause-step : goal.returns-in_ok-push_after-in-Some-clause-step
returns-in_ok-push_after-in-Some-clause-step c =
    let numbered = number_run c.args.loose.now.nodes.now c.args.left c.args.number c.in-Some.node.now (stacked c.args.stack.now.items) c.args.seen.now.unread.items c.args.seen.now.order.items c.in-Some.ensures (sym c.if-is_seen.ensures) in
    rw (c.in_ok-push_after-in-Some.ensures, c.in_ok-enter-in-Some.ensures.stack, c.in_ok-enter-in-Some.ensures.order, c.in_ok-enter-in-Some.ensures.unread) numbered
