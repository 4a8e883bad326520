use Rattle.ports.proofs.LegalLaws.{went-stays-legal}
use Rattle.ports.proofs.laws.entries_leave_legal_histories.Goals as goal

pub returns : goal.returns
returns c = went-stays-legal
