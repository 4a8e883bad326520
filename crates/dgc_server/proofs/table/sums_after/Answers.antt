use Rattle.std.proofs.Common.{arith}
use Rattle.dgc_server.proofs.Kept.{remembered-later}
use Rattle.dgc_server.proofs.SumLaws.{leased-later}
use Rattle.dgc_server.proofs.table.sums_after.Goals as goal

pub overflow_add-result : goal.overflow_add-result
overflow_add-result c =
    let a = c.with_time_left-before.ensures.value in let b = c.with_time_left-leased.ensures.value in
    let fewer = leased-later c.args.from c.args.to c.args.entries.now c.requires.later in omega arith

pub overflow_add-result-2 : goal.overflow_add-result-2
overflow_add-result-2 c =
    let a = c.remembered_pairs-remembered.ensures.value in let b = c.remembered_pairs-pairs.ensures.value in
    let fewer = remembered-later c.args.from c.args.to c.args.entries.now c.requires.later in omega arith
