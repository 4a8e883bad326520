use Rattle.std.proofs.Common.{◌≡◌, ◌≢◌, codes, [], rules}
use Rattle.std.proofs.lemmas.Result.{err_from_is_err_and}
use Rattle.journal.proofs.Lists.{nothing_read, read_more, read_all, no_list}
use Rattle.journal.proofs.items.read_list.Goals as goal

pub loop-part-init : goal.loop-part-init
loop-part-init g c = rw (c.new-items.ensures, c.new-left.ensures) (nothing_read (g.A.Field.spells c.args.space) c.args.word.now)

pub returns-in_err-read : goal.returns-in_err-read
returns-in_err-read g c = let p = err_from_is_err_and c.from_residual.result c.from_residual.ensures.1 in
    let other : c.args.word.now ≢ codes "-" = search rules in
    rw (p.1, p.2) (λ is. no_list (g.A.Field.spells c.args.space) c.requires c.args.word.now c.loop-part.items c.in-Some.part.now c.in-Some.rest other
    (rw (c.in-Some.ensures {u = tt}) at c.loop-part.invariant) (c.in_err-read.ensures {u = tt} is))

pub loop-part-preserved : goal.loop-part-preserved
loop-part-preserved g c = rw (c.in_ok-push.ensures {u = tt}).ok (read_more (g.A.Field.spells c.args.space) c.args.word.now c.loop-part.items c.in-Some.part.now c.in-Some.rest
    c.in_ok-read.field-0 (rw (c.in-Some.ensures {u = tt}) at c.loop-part.invariant) (c.in_ok-read.ensures {u = tt}))

pub returns : goal.returns
returns g c =
    let none : c.loop-part.left ≡ [] = search rules in
    read_all (g.A.Field.spells c.args.space) c.args.word.now c.loop-part.items (rw none at c.loop-part.invariant)
