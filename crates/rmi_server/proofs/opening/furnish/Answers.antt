use Rattle.std.proofs.Common.{[], refl, ◌∙◌}
use Rattle.std.proofs.lemmas.Result.{err_from_is_err_and}
use Rattle.sequence.proofs.Lists.{drop-at}
use Rattle.rmi_server.proofs.Beginning.{begun-further, begun-none, refused-here}
use Rattle.rmi_server.proofs.opening.furnish.Goals as goal

pub loop-named-init : goal.loop-named-init
loop-named-init c = (refl, [], refl, begun-none c.args.space.now.configuration c.args.space.now.events c.requires)

pub returns-in_err-add-clause-causes : goal.returns-in_err-add-clause-causes
returns-in_err-add-clause-causes c =
    let (same, before, are, begun) = c.loop-named.invariant in
    let p = err_from_is_err_and c.from_residual.result c.from_residual.ensures.1 in
    let refused = refused-here c.args.space.now.configuration c.loop-named.space.configuration c.args.names.now before _ c.loop-named.named-index c.loop-named.space.events _ same are
    (drop-at c.args.names.now c.loop-named.named-index _ c.loop-named-test.true) c.in_err-add.ensures.causes begun in
    rw (p.1, p.2) refused

pub loop-named-preserved : goal.loop-named-preserved
loop-named-preserved c =
    let (same, before, are, begun) = c.loop-named.invariant in
    let (further, all, next) = begun-further c.args.space.now.configuration c.loop-named.space.configuration c.args.names.now before _ c.loop-named.named-index c.loop-named.space.events c.add.new.space.events same are
    (drop-at c.args.names.now c.loop-named.named-index _ c.loop-named-test.true) c.in_ok-add.ensures.opens begun in
    (c.in_ok-add.ensures.config ∙ same, further, all, next)
