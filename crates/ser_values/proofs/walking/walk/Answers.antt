use Rattle.std.proofs.Common.{◌≡◌, sym, ◌∙◌, [], length, arith}
use Rattle.std.proofs.lemmas.Grind.{common_steps}
use Rattle.ser_values.specs.Node.{item_wants}
use Rattle.ser_values.proofs.Runs.{run_all, nil_of, run_none, end_tick, end_stop, steps_tick, stacked_push}
use Rattle.ser_values.proofs.walking.walk.Goals as goal

pub loop-task-init : goal.loop-task-init
loop-task-init c = record {
  kept = c.in_ok-seen.ensures.kept;
  count = c.in_ok-seen.ensures.count ∙ c.count.ensures;
  told = rw (c.in_ok-push_items.ensures, c.new-stack.ensures.items, c.in_ok-seen.ensures.order, c.in_ok-seen.ensures.unread) (run_all c.args.loose.now.nodes.now c.args.levels (item_wants c.args.items.now) []);
}

pub returns-then-not-branch : goal.returns-then-not-branch
returns-then-not-branch c =
    let before = rw (c.in-Some.ensures.items, stacked_push) at c.loop-task.invariant.told in
    let whole = rw c.if-not-branch.true at c.in_ok-step.ensures.step in
    sym (end_stop _ whole) ∙ before

pub loop-task-smaller : goal.loop-task-smaller
loop-task-smaller c =
    let whole = rw c.if-not-branch.false at c.in_ok-step.ensures.step in
    rw (c.in-Some.ensures.items, stacked_push) (steps_tick _ _ whole)

pub loop-task-preserved : goal.loop-task-preserved
loop-task-preserved c =
    let before = rw (c.in-Some.ensures.items, stacked_push) at c.loop-task.invariant.told in
    let whole = rw c.if-not-branch.false at c.in_ok-step.ensures.step in
    record {
      kept = c.in_ok-step.ensures.kept;
      count = c.in_ok-step.ensures.count;
      told = sym (end_tick _ _ whole) ∙ before;
    }

pub returns : goal.returns
returns c =
    let empty : length c.loop-task.stack.items ≡ 0 = grind (arith, common_steps) in
    let none = nil_of c.loop-task.stack.items empty in
    let told = rw none at c.loop-task.invariant.told in
    rw c.into_order.ensures (sym (run_none c.args.loose.now.nodes.now c.loop-task.seen.unread.items c.loop-task.seen.order.items) ∙ told)
