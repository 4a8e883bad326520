use Rattle.std.proofs.Common.{sym}
use Rattle.ser_values.proofs.Reached.{is_order, not_few, no_order}
use Rattle.ser_values.proofs.finishing.order_of.Goals as goal

pub returns-then-has_few_parts-clause-ok : goal.returns-then-has_few_parts-clause-ok
returns-then-has_few_parts-clause-ok c =
    let e = rw (c.in-Some.is, c.in_ok-loose.ensures) at c.in_ok-order.ensures in
    let few = rw (c.deref.ensures.value, c.in_ok-loose.ensures, c.refs_in.ensures.count) at (sym c.if-has_few_parts.ensures) in
    is_order c.args.nodes.now c.args.items.now 200 c.in-Some.order.items e (sym c.if-not-is_joined.ensures) few

pub returns-in-Some-clause-err : goal.returns-in-Some-clause-err
returns-in-Some-clause-err c =
    let e = rw (c.in-Some.is, c.in_ok-loose.ensures) at c.in_ok-order.ensures in
    let few = rw (c.deref.ensures.value, c.in_ok-loose.ensures, c.refs_in.ensures.count) at (sym c.if-has_few_parts.ensures) in
    not_few c.args.nodes.now c.args.items.now 200 c.in-Some.order.items e few

pub fault_of-requires-clause-deeper : goal.fault_of-requires-clause-deeper
fault_of-requires-clause-deeper c =
    let e = rw c.in-None.is at c.in_ok-order.ensures in
    no_order c.in_ok-loose.loose.nodes.now c.args.items.now e
