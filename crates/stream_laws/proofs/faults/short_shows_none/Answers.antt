use Rattle.stream_laws.proofs.FaultLaws.{short_shows_none}
use Rattle.stream_laws.proofs.faults.short_shows_none.Goals as goal

pub returns : goal.returns
returns c = short_shows_none
