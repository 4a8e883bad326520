use Rattle.std.proofs.Common.{◌∙◌, sym, inl, inr}
use Rattle.call_dispatch.proofs.dispatch.dispatch_call.Goals as goal

pub returns-then-is_system-clause-answers : goal.returns-then-is_system-clause-answers
returns-then-is_system-clause-answers g c first reads = inl (sym c.is_system.ensures ∙ c.if-is_system.true, c.call_system_object.ensures.answers first reads)

pub returns-else-is_system-clause-answers : goal.returns-else-is_system-clause-answers
returns-else-is_system-clause-answers g c first reads =
    inr (sym c.is_system.ensures ∙ c.if-is_system.false, c.call_object.ensures.answers first reads, c.call_object.ensures.drew, c.call_object.ensures.frame.drawn.0, c.call_object.ensures.frame.drawn.1)
