use Rattle.std.proofs.Common.{rules}
use Rattle.dgc_server.proofs.MarkLaws.{tenure-retained}
use Rattle.dgc_server.proofs.many_marks.forget_tenure.Goals as goal

pub returns-clause-objects : goal.returns-clause-objects
returns-clause-objects c = tenure-retained _ _ (λ k v b w g call. search rules) c.args.marks.now.entries _ c.retain.ensures.filtered
