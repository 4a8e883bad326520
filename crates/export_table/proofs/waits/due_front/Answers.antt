use Rattle.std.proofs.Common.{sym, ◌∙◌}
use Rattle.export_table.proofs.Ends.{due-more, due-rest}
use Rattle.export_table.proofs.waits.due_front.Goals as goal

pub loop-i-preserved : goal.loop-i-preserved
loop-i-preserved c =
    c.loop-i.invariant
    ∙ due-more c.args.time c.args.waits.now c.loop-i.i _ c.loop-i-test.true (sym c.goes_on.ensures ∙ c.if-goes_on.false)

pub returns-then-goes_on-clause-rest : goal.returns-then-goes_on-clause-rest
returns-then-goes_on-clause-rest c =
    c.loop-i.invariant
    ∙ due-rest c.args.time c.args.waits.now c.loop-i.i _ c.loop-i-test.true c.requires (sym c.goes_on.ensures ∙ c.if-goes_on.true)
