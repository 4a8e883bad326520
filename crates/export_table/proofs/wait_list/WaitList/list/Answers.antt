use Rattle.std.proofs.Common.{length, ap, ◌∙◌, arith}
use Rattle.std.specs.Prelude.{not}
use Rattle.std.specs.List.{list_any}
use Rattle.sequence.proofs.Lists.{filter-shorter}
use Rattle.export_table.specs.declared.waits.Wait.{Wait}
use Rattle.export_table.specs.Waits.{is_wait_of, goes_on}
use Rattle.export_table.proofs.Sound.{gone-filter}
use Rattle.export_table.proofs.wait_list.WaitList.list.Goals as goal

pub put-requires-clause-few : goal.put-requires-clause-few
put-requires-clause-few c =
    let few = c.requires.few in
    let first = ap (λ l. length l) c.forget.ensures.waits in
    let second = ap (λ l. length l) c.drop_one.ensures.waits in
    let fewer = filter-shorter (goes_on c.args.now) c.args.self.now.waits in
    let fewest = filter-shorter (λ (w : Wait). not (is_wait_of c.args.object.now c.args.uid.now w)) c.forget.new.self.waits in omega arith

pub put-requires-clause-once : goal.put-requires-clause-once
put-requires-clause-once c =
    ap (list_any (is_wait_of c.args.object.now c.args.uid.now)) c.drop_one.ensures.waits ∙ gone-filter (is_wait_of c.args.object.now c.args.uid.now) c.forget.new.self.waits
