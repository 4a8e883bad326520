use Rattle.std.proofs.Common.{◌≡◌, ◌+◌, ap, arith}
use Rattle.dgc_server.specs.HolderIndex.{count_by, counted_at, share_by, one_if}
use Rattle.dgc_server.proofs.HolderLaws.{moved}
use Rattle.dgc_server.proofs.holders.shift.Goals as goal

pub raise_count-requires : goal.raise_count-requires
raise_count-requires c = λ w.
    let rest = c.lower_count-rest.ensures w in let few = c.requires.few w in let count = ap (count_by w) c.count_of-count.ensures in omega arith

pub returns-clause-counts : goal.returns-clause-counts
returns-clause-counts c = λ w.
    let all : count_by w c.raise_count.result + one_if (share_by w c.args.before) ≡ counted_at w c.args.counts.now c.args.object.now + one_if (share_by w c.args.after) =
    (let rest = c.lower_count-rest.ensures w in let whole = c.raise_count.ensures w in let count = ap (count_by w) c.count_of-count.ensures in omega arith) in
    moved c.args.object.now c.raise_count.result c.args.counts.now c.put.new.counts w (share_by w c.args.before) (share_by w c.args.after) c.put.ensures.value all
