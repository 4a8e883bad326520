use Rattle.std.proofs.Common.{◌∙◌, ℕ, List, Some, ap}
use Rattle.java_shapes.specs.Fault.{fault_text}
use Rattle.java_shapes.proofs.FaultView.{fault_viewed}
use Rattle.java_shapes.proofs.faults.put_fault.Goals as goal

pub returns-in-Ok-clause-viewed : goal.returns-in-Ok-clause-viewed
returns-in-Ok-clause-viewed c = fault_viewed c.put_all.new.b c.in_ok-message.message c.in-Ok.slot c.in-Ok.ensures.1 ∙ ap (λ (m : List ℕ). Some (fault_text m)) c.in_ok-message.ensures
