use Rattle.rmi_cli.proofs.Sinking.{goes_lost}
use Rattle.rmi_cli.proofs.sink_state.lose_piece.Goals as goal

pub returns-in-Whole : goal.returns-in-Whole
returns-in-Whole c half piece more = rw c.in-Whole.is (goes_lost half piece more)
