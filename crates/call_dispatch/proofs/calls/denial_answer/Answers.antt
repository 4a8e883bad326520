use Rattle.history.specs.declared.replies.Refused.TheVariants.{HistoryFull}
use Rattle.call_dispatch.proofs.Cutting.{told_denied}
use Rattle.call_dispatch.proofs.calls.denial_answer.Goals as goal

pub returns-in-HistoryFull-clause-denied : goal.returns-in-HistoryFull-clause-denied
returns-in-HistoryFull-clause-denied c = rw c.in-HistoryFull.is (told_denied c.args.uid HistoryFull c.fault_answer.result (λ same. cc) c.fault_answer.ensures.prepared)
