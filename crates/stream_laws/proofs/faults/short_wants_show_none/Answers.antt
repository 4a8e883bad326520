use Rattle.stream_laws.proofs.FaultLaws.{short_wants_show_none}
use Rattle.stream_laws.proofs.faults.short_wants_show_none.Goals as goal

pub returns : goal.returns
returns c = short_wants_show_none
