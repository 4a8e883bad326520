use Rattle.std.proofs.Common.{sym}
use Rattle.ser_values.proofs.Reached.{is_order, not_few, no_shape}
use Rattle.ser_values.proofs.finishing.fault_of.Goals as goal

pub returns-then-has_few_parts : goal.returns-then-has_few_parts
returns-then-has_few_parts c =
    let e = rw (c.in-Some.is, c.count.ensures) at c.in_ok-order.ensures in
    let few = rw (c.deref.ensures.value, c.refs_in.ensures.count) at (sym c.if-has_few_parts.ensures) in
    ((_, c.in-Some.order.items, is_order c.args.loose.now.nodes.now c.args.items.now _ c.in-Some.order.items e c.requires.joined few), c.requires.deeper)

pub returns-in-Some : goal.returns-in-Some
returns-in-Some c =
    let e = rw (c.in-Some.is, c.count.ensures) at c.in_ok-order.ensures in
    let few = rw (c.deref.ensures.value, c.refs_in.ensures.count) at (sym c.if-has_few_parts.ensures) in
    not_few c.args.loose.now.nodes.now c.args.items.now _ c.in-Some.order.items e few

pub returns : goal.returns
returns c =
    let e = rw (c.in-None.is, c.count.ensures) at c.in_ok-order.ensures in
    no_shape c.args.loose.now.nodes.now c.args.items.now e
