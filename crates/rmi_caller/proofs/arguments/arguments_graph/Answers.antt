use Rattle.std.proofs.Common.{◌∙◌, arith}
use Rattle.rmi_caller.proofs.Putting.{put_end, put_step}
use Rattle.rmi_caller.proofs.arguments.arguments_graph.Goals as goal

pub loop-argument-preserved : goal.loop-argument-preserved
loop-argument-preserved c =
    put_step c.args.arguments.now c.loop-argument.argument-index c.argument-item.result c.loop-argument.draft c.add.new.self c.loop-argument-test.true c.argument-item.is
    c.in_ok-add.ensures.grown c.loop-argument.invariant c.in_ok-add.ensures.added

pub returns-clause-graph : goal.returns-clause-graph
returns-clause-graph c =
    put_end c.args.arguments.now c.loop-argument.argument-index c.loop-argument.draft _ _ _ _ (omega (arith, c.loop-argument-test.false)) c.loop-argument.invariant
    (c.into_parts-builder.ensures.builder ∙ c.end_run.ensures.builder) (c.into_parts-builder.ensures.items ∙ c.in_ok-end_run.ensures.items) c.in_ok-finish.ensures.ok
