use Rattle.std.proofs.Common.{rules}
use Rattle.dgc_server.proofs.MarkLists.{tenure-in-turn}
use Rattle.dgc_server.proofs.few_marks.forget_tenure.Goals as goal

pub returns-clause-objects : goal.returns-clause-objects
returns-clause-objects c = tenure-in-turn _ _ (λ p b g q call. search rules) c.args.marks.now.items _ c.retain_mut.ensures.filtered
